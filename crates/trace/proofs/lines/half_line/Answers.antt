-- Each digit stands where it is read.
use Rattle.std.proofs.Common.{ap, ◌∷◌}
use Rattle.trace.proofs.LineDigits.{half_access}
use Rattle.trace.proofs.lines.half_line.Goals as goal

pub returns : goal.returns
returns c = ap (λ t. c.args.actor ∷ 32 ∷ c.args.letter ∷ 50 ∷ t) (half_access c.word_digits-d.result c.half_digits-v.result c.args.addr c.args.value c.word_digits-d.ensures c.half_digits-v.ensures)
