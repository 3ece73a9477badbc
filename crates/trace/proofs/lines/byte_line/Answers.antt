-- Each digit stands where it is read.
use Rattle.std.proofs.Common.{ap, ◌∷◌}
use Rattle.trace.proofs.LineDigits.{byte_access}
use Rattle.trace.proofs.lines.byte_line.Goals as goal

pub returns : goal.returns
returns c = ap (λ t. c.args.actor ∷ 32 ∷ c.args.letter ∷ 49 ∷ t) (byte_access c.word_digits-d.result c.byte_digits-v.result c.args.addr c.args.value c.word_digits-d.ensures c.byte_digits-v.ensures)
