-- What a statement orders, by its form and its operands, or the kind of its first fault.
use Rattle.std.specs.Prelude.{ℕ, ◌%◌, ◌^◌, ℤ, pos, negsuc, neg_ℤ, nat_lt, ◌==◌, if◌then◌else◌, List, [], ◌∷◌, length, Option, Some, None, Result, Ok, Err}
use Rattle.std.specs.Int.{w64, cast_unsigned}
use Rattle.std.specs.Option.{is_some}
use Rattle.std.specs.Result.{result_err}
use Rattle.rv_decode.specs.declared.instruction.Instr.{Instr}
use Rattle.rv_decode.specs.declared.instruction.Instr.TheVariants as instr
use Rattle.rv_decode.specs.declared.instruction.ImmOp.TheVariants.{Addi}
use Rattle.rv_decode.specs.declared.instruction.BranchOp.{BranchOp}
use Rattle.rv_decode.specs.Words.{word_of, is_from, is_imm12}
use Rattle.asm_lines.specs.declared.kinds.Kind.{Kind}
use Rattle.asm_lines.specs.declared.kinds.Kind.TheVariants as kinds
use Rattle.asm_lines.specs.Kinds.{first_kind, both}
use Rattle.asm_lines.specs.Operands.{Said, Label, Number, operands_of, operand_parts, register_operand, number_operand, indexed_operand, label_operand, value_operand}
use Rattle.asm_lines.specs.Cuts.{StatementWords}
use Rattle.asm_statements.specs.Forms.{statement_form}
use Rattle.asm_statements.specs.declared.forms.Cell.{Cell}
use Rattle.asm_statements.specs.declared.forms.Cell.TheVariants.{Word, Byte}
use Rattle.asm_statements.specs.declared.forms.Unary.{Unary}
use Rattle.asm_statements.specs.declared.forms.Unary.TheVariants as unary
use Rattle.asm_statements.specs.declared.forms.Binary.{Binary}
use Rattle.asm_statements.specs.declared.forms.Binary.TheVariants as binary
use Rattle.asm_statements.specs.declared.forms.Ternary.{Ternary}
use Rattle.asm_statements.specs.declared.forms.Ternary.TheVariants as ternary
use Rattle.asm_statements.specs.declared.forms.Form.{Form}
use Rattle.asm_statements.specs.declared.forms.Form.TheVariants as forms
use Rattle.asm_statements.specs.declared.statements.Statement.{Statement}
use Rattle.asm_statements.specs.declared.statements.Statement.TheVariants as statements
use Rattle.sequencing.specs.Results.{◌>>=◌}

-- what a statement orders; addresses of labels are filled in later
pub data Order : Type 0 where
  Plain : Instr → Order
  JumpTo : ℕ → List ℕ → Order
  BranchTo : BranchOp → ℕ → ℕ → List ℕ → Order
  LoadWide : ℕ → ℕ → Order
  LoadAddress : ℕ → List ℕ → Order
  Cells : Cell → List ℕ → Order
  Zeros : ℕ → Order
  Begin : ℕ → Order
  Entry : List ℕ → Order

-- the same of the code's own
abbrev pub order_of : Statement → Order
order_of (statements.Plain instr) = Plain instr
order_of (statements.JumpTo rd label) = JumpTo rd label.now
order_of (statements.BranchTo op rs1 rs2 label) = BranchTo op rs1 rs2 label.now
order_of (statements.LoadWide rd value) = LoadWide rd value
order_of (statements.LoadAddress rd label) = LoadAddress rd label.now
order_of (statements.Cells cell text) = Cells cell text.now
order_of (statements.Zeros count) = Zeros count
order_of (statements.Begin address) = Begin address
order_of (statements.Entry label) = Entry label.now

-- a number that has to be below a limit
abbrev pub below : ℕ → ℤ → Result ℕ Kind
below limit (pos number) = if nat_lt number limit then Ok number else Err kinds.Range
below limit (negsuc number) = Err kinds.Range

-- an instruction whose number may lie outside its field, and then it has no word
unfoldable pub coded : Instr → Result Order Kind
coded instr = if is_some (word_of instr) then Ok (Plain instr) else Err kinds.Range

-- the low bits of a number in two's complement: the number modulo 2^32 or 2^8
abbrev pub low_bits : ℕ → ℤ → ℕ
low_bits count number = cast_unsigned w64 number % 2 ^ count

-- `li`: one addi where the number fits it
abbrev pub load : ℕ → ℤ → Order
load rd number = if is_imm12 number then Plain (instr.Imm Addi rd 0 number) else LoadWide rd (low_bits 32 number)

abbrev pub jump : ℕ → Said → Result Order Kind
jump rd (Label name) = Ok (JumpTo rd name)
jump rd (Number offset) = coded (instr.Jal rd offset)

abbrev pub branch : BranchOp → ℕ → ℕ → Said → Result Order Kind
branch op rs1 rs2 (Label name) = Ok (BranchTo op rs1 rs2 name)
branch op rs1 rs2 (Number offset) = coded (instr.Branch op rs1 rs2 offset)

-- a statement of one operand
unfoldable pub with_one : Unary → List ℕ → Result Order Kind
with_one unary.J a = do
  target ← value_operand a
  jump 0 target
with_one unary.Jr a = do
  rs ← register_operand a
  Ok (Plain (instr.Jalr 0 rs (pos 0)))
with_one unary.Segment a = do
  number ← number_operand a
  address ← below (2 ^ 32) number
  Ok (Begin address)
with_one unary.Entry a = do
  name ← label_operand a
  Ok (Entry name)
with_one unary.Space a = do
  number ← number_operand a
  count ← below 1048577 number
  Ok (Zeros count)

-- a register and a field of 20 bits
abbrev pub register_and_upper : List ℕ → List ℕ → Result (ℕ × ℕ) Kind
register_and_upper a b = do
  said ← both (register_operand a) (number_operand b)
  imm ← below (2 ^ 20) said.1
  Ok (said.0, imm)

-- a statement of two
unfoldable pub with_two : Binary → List ℕ → List ℕ → Result Order Kind
with_two binary.Lui a b = do
  said ← register_and_upper a b
  Ok (Plain (instr.Lui said.0 said.1))
with_two binary.Auipc a b = do
  said ← register_and_upper a b
  Ok (Plain (instr.Auipc said.0 said.1))
with_two binary.Jal a b = do
  said ← both (register_operand a) (value_operand b)
  jump said.0 said.1
with_two binary.Jalr a b = do
  said ← both (register_operand a) (indexed_operand b)
  coded (instr.Jalr said.0 said.1.1 said.1.0)
with_two (binary.Load op) a b = do
  said ← both (register_operand a) (indexed_operand b)
  coded (instr.Load op said.0 said.1.1 said.1.0)
with_two (binary.Store op) a b = do
  said ← both (register_operand a) (indexed_operand b)
  coded (instr.Store op said.1.1 said.0 said.1.0)
with_two binary.Mv a b = do
  said ← both (register_operand a) (register_operand b)
  Ok (Plain (instr.Imm Addi said.0 said.1 (pos 0)))
with_two binary.Li a b = do
  said ← both (register_operand a) (number_operand b)
  Ok (load said.0 said.1)
with_two binary.La a b = do
  said ← both (register_operand a) (label_operand b)
  Ok (LoadAddress said.0 said.1)
with_two (binary.BranchZero op) a b = do
  said ← both (register_operand a) (value_operand b)
  branch op said.0 0 said.1

-- a statement of three
unfoldable pub with_three : Ternary → List ℕ → List ℕ → List ℕ → Result Order Kind
with_three (ternary.Branch op) a b c = do
  said ← both (both (register_operand a) (register_operand b)) (value_operand c)
  branch op said.0.0 said.0.1 said.1
with_three (ternary.Imm op) a b c = do
  said ← both (both (register_operand a) (register_operand b)) (number_operand c)
  coded (instr.Imm op said.0.0 said.0.1 said.1)
with_three (ternary.Shift op) a b c = do
  said ← both (both (register_operand a) (register_operand b)) (number_operand c)
  amount ← below 32 said.1
  Ok (Plain (instr.Shift op said.0.0 said.0.1 amount))
with_three (ternary.Reg op) a b c = do
  said ← both (both (register_operand a) (register_operand b)) (register_operand c)
  Ok (Plain (instr.Reg op said.0.0 said.0.1 said.1))
with_three (ternary.Mul op) a b c = do
  said ← both (both (register_operand a) (register_operand b)) (register_operand c)
  Ok (Plain (instr.Mul op said.0.0 said.0.1 said.1))

-- a statement has just as many operands as its form asks for
abbrev pub if_none : Instr → List (List ℕ) → Result Order Kind
if_none instr [] = Ok (Plain instr)
if_none instr _ = Err kinds.Operands

abbrev pub if_one : Unary → List (List ℕ) → Result Order Kind
if_one form (a ∷ []) = with_one form a
if_one form _ = Err kinds.Operands

abbrev pub if_two : Binary → List (List ℕ) → Result Order Kind
if_two form (a ∷ b ∷ []) = with_two form a b
if_two form _ = Err kinds.Operands

abbrev pub if_three : Ternary → List (List ℕ) → Result Order Kind
if_three form (a ∷ b ∷ c ∷ []) = with_three form a b c
if_three form _ = Err kinds.Operands

-- what a `.byte` takes: -128 to 255
unfoldable pub byte_operand : List ℕ → Result ℤ Kind
byte_operand operand = do
  number ← number_operand operand
  if is_from (neg_ℤ (pos 128)) (pos 255) number then Ok number else Err kinds.Range

-- the fault of one operand of `.word` or `.byte`
abbrev pub cell_fault : Cell → List ℕ → Option Kind
cell_fault Word operand = result_err (value_operand operand)
cell_fault Byte operand = result_err (byte_operand operand)

abbrev pub sooner : Option Kind → Option Kind → Option Kind
sooner None b = b
sooner (Some j) None = Some j
sooner (Some j) (Some k) = Some (first_kind j k)

-- the first kind of fault that an operand has
abbrev pub first_cell_fault : Cell → List (List ℕ) → Option Kind
first_cell_fault cell [] = None
first_cell_fault cell (operand ∷ operands) = sooner (cell_fault cell operand) (first_cell_fault cell operands)

abbrev pub cells_unless : Cell → List ℕ → Option Kind → Result Order Kind
cells_unless cell text None = Ok (Cells cell text)
cells_unless cell text (Some kind) = Err kind

-- `.word` and `.byte` take one operand or more
unfoldable pub with_cells : Cell → List ℕ → Result Order Kind
with_cells cell text = if length text == 0 then Err kinds.Operands else cells_unless cell text (first_cell_fault cell (operand_parts text))

-- what a statement orders, by its form and the text of its operands
abbrev pub ordered : Form → List ℕ → Result Order Kind
ordered (forms.Bare instr) text = if_none instr (operands_of text)
ordered (forms.Unary form) text = if_one form (operands_of text)
ordered (forms.Binary form) text = if_two form (operands_of text)
ordered (forms.Ternary form) text = if_three form (operands_of text)
ordered (forms.Data cell) text = with_cells cell text

abbrev pub order_unless : Option Form → List ℕ → Result Order Kind
order_unless None text = Err kinds.Mnemonic
order_unless (Some form) text = ordered form text

-- what a statement orders, by its first word and the text of its operands
unfoldable pub order_in : StatementWords → Result Order Kind
order_in words = order_unless (statement_form words.mnemonic) words.operands
