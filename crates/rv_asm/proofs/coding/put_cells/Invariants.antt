use Rattle.std.proofs.Common.{◌≡◌, length}
use Rattle.asm_lines.specs.Operands.{operand_parts}
use Rattle.rv_asm.specs.Gives.{onto}
use Rattle.rv_asm.specs.Labels.{addresses_in}
use Rattle.rv_asm.specs.Coded.{cells_bytes}
use Rattle.rv_asm.proofs.coding.put_cells.Given as goal

abbrev pub invariant-loop-after : goal.invariant-loop-after
invariant-loop-after l = onto l.bytes.items (cells_bytes (addresses_in l.labels) l.cell (operand_parts l.rest)) ≡ onto l.fn.bytes.items (cells_bytes (addresses_in l.labels) l.cell (operand_parts l.text))

abbrev pub decreases-loop-after : goal.decreases-loop-after
decreases-loop-after l = length l.rest
