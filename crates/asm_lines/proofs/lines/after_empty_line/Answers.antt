use Rattle.std.proofs.Common.{arith}
use Rattle.std.proofs.lemmas.Bool.Decides.{nat_tests}
use Rattle.std.proofs.lemmas.List.{take_rest}
use Rattle.asm_lines.proofs.PlainLines.{empty_first}
use Rattle.asm_lines.proofs.lines.after_empty_line.Goals as goal

pub returns-clause-line : goal.returns-clause-line
returns-clause-line c = rw take_rest (empty_first c.args.text.now (grind (arith, nat_tests)) c.if-text-ne10.false)
