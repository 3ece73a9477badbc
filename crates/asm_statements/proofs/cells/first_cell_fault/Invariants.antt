use Rattle.std.proofs.Common.{◌≡◌, length}
use Rattle.asm_lines.specs.Operands.{operand_parts}
use Rattle.asm_statements.specs.Orders.{sooner, first_cell_fault}
use Rattle.asm_statements.proofs.cells.first_cell_fault.Given as goal

abbrev pub invariant-loop-after : goal.invariant-loop-after
invariant-loop-after l = sooner l.fault (first_cell_fault l.cell (operand_parts l.rest)) ≡ first_cell_fault l.cell (operand_parts l.text)

abbrev pub decreases-loop-after : goal.decreases-loop-after
decreases-loop-after l = length l.rest
