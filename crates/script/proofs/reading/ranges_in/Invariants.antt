use Rattle.std.proofs.Common.{◌≡◌, ◌++◌, length, take, option_map}
use Rattle.text_readers.specs.Lines.{words_of}
use Rattle.script.specs.Grammar.{ranges_of}
use Rattle.script.proofs.reading.ranges_in.Given as goal

abbrev pub invariant-loop-place : goal.invariant-loop-place
invariant-loop-place l =
    (ranges_of (words_of l.pairs) ≡ option_map (λ more. take l.place l.list ++ more) (ranges_of (words_of l.rest))) × (length l.list ≡ 8)
