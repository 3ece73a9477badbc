-- The text's first two words say none.
use Rattle.std.proofs.Common.{◌∷◌, ap, ◌∙◌}
use Rattle.script.specs.Grammar.{ranges_of}
use Rattle.script.specs.Gives.{words_left}
use Rattle.script.proofs.reading.next_range.Goals as goal

pub returns-in_default-range_in-clause-none : goal.returns-in_default-range_in-clause-none
returns-in_default-range_in-clause-none c =
    ap ranges_of (c.in-Some.ensures.parts ∙ ap (λ words. c.in-Some.a.now ∷ words) c.next_word.ensures) ∙ c.in_default-range_in.ensures.none (words_left c.next_word.result.1)
