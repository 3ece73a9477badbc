use Rattle.std.proofs.Common.{arith}
use Rattle.std.proofs.lemmas.Bool.Decides.{nat_tests}
use Rattle.asm_lines.proofs.PlainLines.{nothing_labelled}
use Rattle.asm_lines.proofs.cuts.labelled.Goals as goal

pub returns-then-is_empty : goal.returns-then-is_empty
returns-then-is_empty c = nothing_labelled c.args.text.now (grind (arith, nat_tests))
