-- Each digit stands where it is read.
use Rattle.std.proofs.Common.{ap, ◌∷◌}
use Rattle.trace.proofs.LineDigits.{word_access}
use Rattle.trace.proofs.lines.word_line.Goals as goal

pub returns : goal.returns
returns c = ap (λ t. c.args.actor ∷ 32 ∷ c.args.letter ∷ 52 ∷ t) (word_access c.word_digits-d.result c.word_digits-v.result c.args.addr c.args.value c.word_digits-d.ensures c.word_digits-v.ensures)
