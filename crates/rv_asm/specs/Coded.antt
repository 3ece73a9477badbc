-- The bytes of a statement.
use Rattle.std.specs.Prelude.{ℕ, ◌+◌, ◌*◌, ◌/◌, ◌%◌, ◌^◌, ℤ, pos, ◌-ℤ◌, List, [], ◌∷◌, ◌++◌, replicate, Option, Some, None, Result, Ok, Err}
use Rattle.std.specs.Int.{w32, to_le_bytes}
use Rattle.std.specs.Option.{ok_or}
use Rattle.rv_decode.specs.declared.instruction.Instr.{Instr}
use Rattle.rv_decode.specs.declared.instruction.Instr.TheVariants as instr
use Rattle.rv_decode.specs.declared.instruction.ImmOp.TheVariants.{Addi}
use Rattle.rv_decode.specs.Words.{word_of}
use Rattle.asm_lines.specs.declared.kinds.Kind.{Kind}
use Rattle.asm_lines.specs.declared.kinds.Kind.TheVariants as kinds
use Rattle.asm_lines.specs.Operands.{Said, Label, Number, operand_parts, value_operand}
use Rattle.asm_statements.specs.declared.forms.Cell.{Cell}
use Rattle.asm_statements.specs.declared.forms.Cell.TheVariants.{Word, Byte}
use Rattle.asm_statements.specs.Orders.{Order, Plain, JumpTo, BranchTo, LoadWide, LoadAddress, Cells, Zeros, low_bits, jump, branch, byte_operand}
use Rattle.rv_asm.specs.Labels.{Addresses}
use Rattle.sequencing.specs.Results.{◌>>=◌}

abbrev pub address_of : Addresses → List ℕ → Result ℕ Kind
address_of labels name = ok_or (labels name) kinds.UnknownLabel

-- how far a label is from an address
abbrev pub distance : Addresses → List ℕ → ℕ → Result ℤ Kind
distance labels name here = do
  address ← address_of labels name
  Ok (pos address -ℤ pos here)

-- The statement at an address with its label's address filled in. A jump or a branch to a label is one by the
-- distance from it to the label.
unfoldable pub resolved : Addresses → ℕ → Order → Result Order Kind
resolved labels here (JumpTo rd name) = do
  offset ← distance labels name here
  jump rd (Number offset)
resolved labels here (BranchTo op rs1 rs2 name) = do
  offset ← distance labels name here
  branch op rs1 rs2 (Number offset)
resolved labels here (LoadAddress rd name) = do
  address ← address_of labels name
  Ok (LoadWide rd address)
resolved labels here order = Ok order

abbrev pub low_first : Option ℕ → Result (List ℕ) Kind
low_first None = Err kinds.Range
low_first (Some word) = Ok (to_le_bytes w32 word)

-- the four bytes of an instruction's word, the low one first
abbrev pub instr_bytes : Instr → Result (List ℕ) Kind
instr_bytes instr = low_first (word_of instr)

-- the pair for a value of 32 bits: lui, and addi with the rest, -2048 to 2047
abbrev pub upper : ℕ → ℕ
upper value = (value + 0x800) / 4096 % 2 ^ 20

abbrev pub lower : ℕ → ℤ
lower value = pos value -ℤ pos ((value + 0x800) / 4096 * 4096)

unfoldable pub pair_bytes : ℕ → ℕ → Result (List ℕ) Kind
pair_bytes rd value = do
  high ← instr_bytes (instr.Lui rd (upper value))
  low ← instr_bytes (instr.Imm Addi rd rd (lower value))
  Ok (high ++ low)

-- the word that a number or a label stands for
abbrev pub word_value : Addresses → Said → Result ℕ Kind
word_value labels (Number number) = Ok (low_bits 32 number)
word_value labels (Label name) = address_of labels name

-- the bytes of one operand of `.word` or `.byte`
unfoldable pub cell_bytes : Addresses → Cell → List ℕ → Result (List ℕ) Kind
cell_bytes labels Word operand = do
  value ← value_operand operand
  word ← word_value labels value
  Ok (to_le_bytes w32 word)
cell_bytes labels Byte operand = do
  number ← byte_operand operand
  Ok (low_bits 8 number ∷ [])

abbrev pub cells_bytes : Addresses → Cell → List (List ℕ) → Result (List ℕ) Kind
cells_bytes labels cell [] = Ok []
cells_bytes labels cell (operand ∷ operands) = do
  bytes ← cell_bytes labels cell operand
  more ← cells_bytes labels cell operands
  Ok (bytes ++ more)

-- the bytes of a statement whose label's address is filled in
abbrev pub bytes_of : Addresses → Order → Result (List ℕ) Kind
bytes_of labels (Plain instr) = instr_bytes instr
bytes_of labels (LoadWide rd value) = pair_bytes rd value
bytes_of labels (Cells cell text) = cells_bytes labels cell (operand_parts text)
bytes_of labels (Zeros count) = Ok (replicate count 0)
bytes_of labels order = Ok []
