-- How many bytes a statement makes.
use Rattle.std.specs.Prelude.{ℕ, ◌*◌, Bool, true, false, length}
use Rattle.asm_lines.specs.Operands.{operand_parts}
use Rattle.asm_statements.specs.declared.forms.Cell.{Cell}
use Rattle.asm_statements.specs.declared.forms.Cell.TheVariants.{Word, Byte}
use Rattle.asm_statements.specs.Orders.{Order, Plain, JumpTo, BranchTo, LoadWide, LoadAddress, Cells, Zeros, Begin, Entry}

abbrev pub cell_size : Cell → ℕ
cell_size Word = 4
cell_size Byte = 1

abbrev pub size_of : Order → ℕ
size_of (Plain instr) = 4
size_of (JumpTo rd label) = 4
size_of (BranchTo op rs1 rs2 label) = 4
size_of (LoadWide rd value) = 8
size_of (LoadAddress rd label) = 8
size_of (Cells cell text) = cell_size cell * length (operand_parts text)
size_of (Zeros count) = count
size_of (Begin address) = 0
size_of (Entry label) = 0

-- an instruction stands at an address divisible by 4
abbrev pub is_instruction : Order → Bool
is_instruction (Plain instr) = true
is_instruction (JumpTo rd label) = true
is_instruction (BranchTo op rs1 rs2 label) = true
is_instruction (LoadWide rd value) = true
is_instruction (LoadAddress rd label) = true
is_instruction (Cells cell text) = false
is_instruction (Zeros count) = false
is_instruction (Begin address) = false
is_instruction (Entry label) = false
