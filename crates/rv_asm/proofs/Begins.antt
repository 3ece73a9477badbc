-- The address of a `.segment` is below 2^32.
use Rattle.std.proofs.Common.{◌≡◌, ℕ, ◌^◌, ◌<◌, ℤ, pos, negsuc, Bool, true, false, nat_lt, if◌then◌else◌, List, [], ◌∷◌, length, ◌==◌, Option, Some, None, Result, Ok, Err, IfOk, refl, ltb-true}
use Rattle.rv_decode.specs.declared.instruction.Instr.{Instr}
use Rattle.rv_decode.specs.declared.instruction.BranchOp.{BranchOp}
use Rattle.rv_decode.specs.Words.{word_of, is_imm12}
use Rattle.std.specs.Option.{is_some}
use Rattle.asm_lines.specs.declared.kinds.Kind.{Kind}
use Rattle.asm_lines.specs.declared.kinds.Kind.TheVariants as kinds
use Rattle.asm_lines.specs.Kinds.{both}
use Rattle.asm_lines.specs.Operands.{Said, Label, Number, operands_of, operand_parts, register_operand, number_operand, indexed_operand, label_operand, value_operand}
use Rattle.asm_lines.specs.Cuts.{StatementWords}
use Rattle.asm_statements.specs.declared.forms.Cell.{Cell}
use Rattle.asm_statements.specs.declared.forms.Form.{Form}
use Rattle.asm_statements.specs.declared.forms.Form.TheVariants as forms
use Rattle.asm_statements.specs.declared.forms.Unary.{Unary}
use Rattle.asm_statements.specs.declared.forms.Unary.TheVariants as unary
use Rattle.asm_statements.specs.declared.forms.Binary.{Binary}
use Rattle.asm_statements.specs.declared.forms.Binary.TheVariants as binary
use Rattle.asm_statements.specs.declared.forms.Ternary.{Ternary}
use Rattle.asm_statements.specs.declared.forms.Ternary.TheVariants as ternary
use Rattle.asm_statements.specs.Forms.{statement_form}
use Rattle.asm_statements.specs.Orders.{Order, Plain, LoadWide, Begin, below, coded, jump, branch, register_and_upper, with_one, with_two, with_three, with_cells, cells_unless, first_cell_fault, if_none, if_one, if_two, if_three, ordered, order_unless, order_in}
use Rattle.sequencing.specs.Results.{◌>>=◌}

abbrev pub IsInMemory : Order → Type 0
IsInMemory (Begin address) = address < 2 ^ 32
IsInMemory order = Unit {0}

abbrev Safe : Result Order Kind → Type 0
Safe reading = IfOk reading IsInMemory

after : {A : Type 0} (reading : Result A Kind) (more : A → Result Order Kind) → ((a : A) → Safe (more a)) → Safe (reading >>= more)
after (Ok a) more h = h a
after (Err kind) more h = tt

after_if : {A : Type 0} (reading : Result A Kind) (P : A → Type 0) (more : A → Result Order Kind) → IfOk reading P → ((a : A) → P a → Safe (more a)) → Safe (reading >>= more)
after_if (Ok a) P more p h = h a p
after_if (Err kind) P more p h = tt

chosen : (b : Bool) (order : Order) (kind : Kind) → IsInMemory order → Safe (if b then Ok order else Err kind)
chosen true order kind h = h
chosen false order kind h = tt

safe_coded : (i : Instr) → Safe (coded i)
unfolding coded
safe_coded i = chosen (is_some (word_of i)) (Plain i) kinds.Range tt

safe_jump : (rd : ℕ) (said : Said) → Safe (jump rd said)
safe_jump rd (Label name) = tt
safe_jump rd (Number offset) = safe_coded _

safe_branch : (op : BranchOp) (a b : ℕ) (said : Said) → Safe (branch op a b said)
safe_branch op a b (Label name) = tt
safe_branch op a b (Number offset) = safe_coded _

below_if : (limit number : ℕ) (b : Bool) → nat_lt number limit ≡ b → IfOk {E = Kind} (if b then Ok number else Err kinds.Range) (λ n. n < limit)
below_if limit number true h = ltb-true number limit h
below_if limit number false h = tt

below_limit : (limit : ℕ) (number : ℤ) → IfOk (below limit number) (λ n. n < limit)
below_limit limit (pos number) = below_if limit number (nat_lt number limit) refl
below_limit limit (negsuc number) = tt

loaded : (rd : ℕ) (number : ℤ) (b : Bool) (x : Instr) (value : ℕ) → IsInMemory (if b then Plain x else LoadWide rd value)
loaded rd number true x value = tt
loaded rd number false x value = tt

safe_one : (form : Unary) (a : List ℕ) → Safe (with_one form a)
unfolding with_one
safe_one unary.J a = after (value_operand a) _ (λ said. safe_jump 0 said)
safe_one unary.Jr a = after (register_operand a) _ (λ rs. tt)
safe_one unary.Segment a = after (number_operand a) _ (λ number. after_if (below (2 ^ 32) number) (λ n. n < 2 ^ 32) _ (below_limit (2 ^ 32) number) (λ address small. small))
safe_one unary.Entry a = after (label_operand a) _ (λ name. tt)
safe_one unary.Space a = after (number_operand a) _ (λ number. after (below 1048577 number) _ (λ count. tt))

safe_two : (form : Binary) (a b : List ℕ) → Safe (with_two form a b)
unfolding with_two
safe_two binary.Lui a b = after (register_and_upper a b) _ (λ said. tt)
safe_two binary.Auipc a b = after (register_and_upper a b) _ (λ said. tt)
safe_two binary.Jal a b = after (both (register_operand a) (value_operand b)) _ (λ said. safe_jump said.0 said.1)
safe_two binary.Jalr a b = after (both (register_operand a) (indexed_operand b)) _ (λ said. safe_coded _)
safe_two (binary.Load op) a b = after (both (register_operand a) (indexed_operand b)) _ (λ said. safe_coded _)
safe_two (binary.Store op) a b = after (both (register_operand a) (indexed_operand b)) _ (λ said. safe_coded _)
safe_two binary.Mv a b = after (both (register_operand a) (register_operand b)) _ (λ said. tt)
safe_two binary.Li a b = after (both (register_operand a) (number_operand b)) _ (λ said. loaded said.0 said.1 (is_imm12 said.1) _ _)
safe_two binary.La a b = after (both (register_operand a) (label_operand b)) _ (λ said. tt)
safe_two (binary.BranchZero op) a b = after (both (register_operand a) (value_operand b)) _ (λ said. safe_branch op said.0 0 said.1)

safe_three : (form : Ternary) (a b c : List ℕ) → Safe (with_three form a b c)
unfolding with_three
safe_three (ternary.Branch op) a b c = after (both (both (register_operand a) (register_operand b)) (value_operand c)) _ (λ said. safe_branch op said.0.0 said.0.1 said.1)
safe_three (ternary.Imm op) a b c = after (both (both (register_operand a) (register_operand b)) (number_operand c)) _ (λ said. safe_coded _)
safe_three (ternary.Shift op) a b c = after (both (both (register_operand a) (register_operand b)) (number_operand c)) _ (λ said. after (below 32 said.1) _ (λ amount. tt))
safe_three (ternary.Reg op) a b c = after (both (both (register_operand a) (register_operand b)) (register_operand c)) _ (λ said. tt)
safe_three (ternary.Mul op) a b c = after (both (both (register_operand a) (register_operand b)) (register_operand c)) _ (λ said. tt)

safe_none : (i : Instr) (parts : List (List ℕ)) → Safe (if_none i parts)
safe_none i [] = tt
safe_none i (a ∷ parts) = tt

if_one_safe : (form : Unary) (parts : List (List ℕ)) → Safe (if_one form parts)
if_one_safe form [] = tt
if_one_safe form (a ∷ []) = safe_one form a
if_one_safe form (a ∷ b ∷ parts) = tt

if_two_safe : (form : Binary) (parts : List (List ℕ)) → Safe (if_two form parts)
if_two_safe form [] = tt
if_two_safe form (a ∷ []) = tt
if_two_safe form (a ∷ b ∷ []) = safe_two form a b
if_two_safe form (a ∷ b ∷ c ∷ parts) = tt

if_three_safe : (form : Ternary) (parts : List (List ℕ)) → Safe (if_three form parts)
if_three_safe form [] = tt
if_three_safe form (a ∷ []) = tt
if_three_safe form (a ∷ b ∷ []) = tt
if_three_safe form (a ∷ b ∷ c ∷ []) = safe_three form a b c
if_three_safe form (a ∷ b ∷ c ∷ d ∷ parts) = tt

safe_unless : (cell : Cell) (text : List ℕ) (fault : Option Kind) → Safe (cells_unless cell text fault)
safe_unless cell text None = tt
safe_unless cell text (Some kind) = tt

safe_some : (b : Bool) (reading : Result Order Kind) → Safe reading → Safe (if b then Err kinds.Operands else reading)
safe_some true reading h = tt
safe_some false reading h = h

safe_cells : (cell : Cell) (text : List ℕ) → Safe (with_cells cell text)
unfolding with_cells
safe_cells cell text = safe_some (length text == 0) _ (safe_unless cell text (first_cell_fault cell (operand_parts text)))

safe_ordered : (form : Form) (text : List ℕ) → Safe (ordered form text)
safe_ordered (forms.Bare i) text = safe_none i (operands_of text)
safe_ordered (forms.Unary form) text = if_one_safe form (operands_of text)
safe_ordered (forms.Binary form) text = if_two_safe form (operands_of text)
safe_ordered (forms.Ternary form) text = if_three_safe form (operands_of text)
safe_ordered (forms.Data cell) text = safe_cells cell text

safe_form : (form : Option Form) (text : List ℕ) → Safe (order_unless form text)
safe_form None text = tt
safe_form (Some form) text = safe_ordered form text

pub order_in_memory : (words : StatementWords) → IfOk (order_in words) IsInMemory
unfolding order_in
order_in_memory words = safe_form (statement_form words.mnemonic) words.operands
