-- The statements that show writes order their instructions.
use Rattle.std.proofs.Common.{◌≡◌, ◌==◌, ℕ, ◌^◌, ◌<◌, ◌≤◌, suc, ℤ, pos, negsuc, Bool, cond, true, false, ◌&&◌, nat_lt, List, [], ◌∷◌, ◌++◌, length, length-append, Some, None, Ok, refl, ap, ◌∙◌, arith, codes}
use Rattle.std.specs.List.{list_all}
use Rattle.std.specs.Fmt.{decimal, signed_decimal}
use Rattle.std.proofs.lemmas.Bool.{and_parts, ltb-true}
use Rattle.std.proofs.lemmas.Bool.Decides.{nat_tests}
use Rattle.rv_decode.specs.declared.instruction.Instr.{Instr}
use Rattle.rv_decode.specs.declared.instruction.Instr.TheVariants.{Lui, Auipc, Jal, Jalr, Branch, Load, Store, Imm, Shift, Reg, Mul}
use Rattle.rv_decode.specs.declared.instruction.BranchOp.{BranchOp}
use Rattle.rv_decode.specs.declared.instruction.LoadOp.{LoadOp}
use Rattle.rv_decode.specs.declared.instruction.StoreOp.{StoreOp}
use Rattle.rv_decode.specs.declared.instruction.ImmOp.{ImmOp}
use Rattle.rv_decode.specs.declared.instruction.ShiftOp.{ShiftOp}
use Rattle.rv_decode.specs.declared.instruction.RegOp.{RegOp}
use Rattle.rv_decode.specs.declared.instruction.MulOp.{MulOp}
use Rattle.rv_decode.specs.Words.{word_of, fields_fit, is_register, is_imm12, is_branch_offset, is_jump_offset}
use Rattle.asm_lines.specs.Operands.{operands_of, operand_parts}
use Rattle.asm_statements.specs.declared.forms.Binary.TheVariants as binary
use Rattle.asm_statements.specs.declared.forms.Ternary.TheVariants as ternary
use Rattle.asm_statements.specs.declared.forms.Form.TheVariants as forms
use Rattle.asm_statements.specs.Forms.{statement_form, ternary_of, binary_of, imm_named, branch_named, reg_named, shift_named, mul_named, load_named, store_named, zero_branch_named, binary_named, unary_named, bare_named, cell_named}
use Rattle.asm_statements.specs.declared.forms.Binary.{Binary}
use Rattle.asm_statements.specs.declared.forms.Ternary.{Ternary}
use Rattle.asm_statements.specs.Orders.{Plain, coded, with_two, with_three, if_two, if_three, order_in, order_unless}
use Rattle.rv_decode.specs.Names.{branch_name, load_name, store_name, imm_name, shift_name, reg_name, mul_name}
use Rattle.asm_statements.proofs.Mnemonics.{form_branch, form_load, form_store, form_imm, form_shift, form_reg, form_mul}
use Rattle.rv_asm.specs.Shown.{register_text, field_text, indexed_text, comma_joined}
use Rattle.rv_asm.proofs.Plain.{plain, all_append, parts_first, parts_last}
use Rattle.rv_asm.proofs.Numerals.{register_plain, signed_plain}
use Rattle.rv_asm.proofs.ReadBack.{Spells, register_operand-text, number_operand-signed, value_operand-signed, indexed_operand-text}
use Rattle.rv_asm.proofs.Hexes.{number_operand-field, field_plain}

-- ---- operands

some_operands : (text : List ℕ) → 0 < length text → operands_of text ≡ operand_parts text
some_operands text some = let other : (length text == 0) ≡ false = grind (arith, nat_tests) in rw other refl

pub two_operands : (a b : List ℕ) → 0 < length a → list_all plain a ≡ true → list_all plain b ≡ true → operands_of (comma_joined (a ∷ b ∷ [])) ≡ a ∷ b ∷ []
two_operands a b some h g =
    some_operands (comma_joined (a ∷ b ∷ [])) (omega (arith, length-append a (44 ∷ 32 ∷ b)))
    ∙ parts_first a b h ∙ ap (λ l. a ∷ l) (parts_last b g)

pub three_operands : (a b c : List ℕ) → 0 < length a → list_all plain a ≡ true → list_all plain b ≡ true → list_all plain c ≡ true
    → operands_of (comma_joined (a ∷ b ∷ c ∷ [])) ≡ a ∷ b ∷ c ∷ []
three_operands a b c some h g k =
    some_operands (comma_joined (a ∷ b ∷ c ∷ [])) (omega (arith, length-append a (44 ∷ 32 ∷ comma_joined (b ∷ c ∷ []))))
    ∙ parts_first a (comma_joined (b ∷ c ∷ [])) h ∙ ap (λ l. a ∷ l) (parts_first b c g ∙ ap (λ l. b ∷ l) (parts_last c k))

pub some_register : (r : ℕ) → 0 < length (register_text r)
some_register r = omega arith

-- ---- what a word says of its instruction's fields

has_range : {A : Type 0} (b : Bool) (x y : A) → cond b (Some x) None ≡ Some y → b ≡ true
has_range true x y h = refl
has_range false x y h = cc

pub word_in_range : (i : Instr) (w : ℕ) → word_of i ≡ Some w → fields_fit i ≡ true
unfolding word_of
word_in_range i w h = has_range (fields_fit i) _ w h

coded_word : (i : Instr) (w : ℕ) → word_of i ≡ Some w → coded i ≡ Ok (Plain i)
unfolding coded
coded_word i w h = rw h refl

pub register_below : (r : ℕ) → is_register r ≡ true → r < 32
register_below r h = ltb-true r 32 h

pub imm_spells : (z : ℤ) → is_imm12 z ≡ true → Spells z
imm_spells (pos n) h = grind (arith, nat_tests)
imm_spells (negsuc n) h = grind (arith, nat_tests)

pub branch_spells : (z : ℤ) → is_branch_offset z ≡ true → Spells z
branch_spells (pos n) h = grind (arith, nat_tests)
branch_spells (negsuc n) h = grind (arith, nat_tests)

pub jump_spells : (z : ℤ) → is_jump_offset z ≡ true → Spells z
jump_spells (pos n) h = grind (arith, nat_tests)
jump_spells (negsuc n) h = grind (arith, nat_tests)

-- ---- the forms of names

form_lui : statement_form (codes "lui") ≡ Some (forms.Binary binary.Lui)
unfolding statement_form ternary_of binary_of imm_named branch_named reg_named shift_named mul_named load_named store_named zero_branch_named binary_named unary_named bare_named cell_named
form_lui = refl

form_auipc : statement_form (codes "auipc") ≡ Some (forms.Binary binary.Auipc)
unfolding statement_form ternary_of binary_of imm_named branch_named reg_named shift_named mul_named load_named store_named zero_branch_named binary_named unary_named bare_named cell_named
form_auipc = refl

form_jal : statement_form (codes "jal") ≡ Some (forms.Binary binary.Jal)
unfolding statement_form ternary_of binary_of imm_named branch_named reg_named shift_named mul_named load_named store_named zero_branch_named binary_named unary_named bare_named cell_named
form_jal = refl

form_jalr : statement_form (codes "jalr") ≡ Some (forms.Binary binary.Jalr)
unfolding statement_form ternary_of binary_of imm_named branch_named reg_named shift_named mul_named load_named store_named zero_branch_named binary_named unary_named bare_named cell_named
form_jalr = refl

-- ---- what each statement orders

-- a statement of two operands, and of three
two_order : (form : Binary) (name a b : List ℕ) → statement_form name ≡ Some (forms.Binary form) → 0 < length a → list_all plain a ≡ true → list_all plain b ≡ true
    → order_in (record { mnemonic = name; operands = comma_joined (a ∷ b ∷ []) }) ≡ with_two form a b
unfolding order_in
two_order form name a b f some h g =
    ap (λ found. order_unless found (comma_joined (a ∷ b ∷ []))) f ∙ ap (if_two form) (two_operands a b some h g)

three_order : (form : Ternary) (name a b c : List ℕ) → statement_form name ≡ Some (forms.Ternary form) → 0 < length a → list_all plain a ≡ true → list_all plain b ≡ true → list_all plain c ≡ true
    → order_in (record { mnemonic = name; operands = comma_joined (a ∷ b ∷ c ∷ []) }) ≡ with_three form a b c
unfolding order_in
three_order form name a b c f some h g k =
    ap (λ found. order_unless found (comma_joined (a ∷ b ∷ c ∷ []))) f ∙ ap (if_three form) (three_operands a b c some h g k)

-- numbers are plain
pub spelled_plain : (z : ℤ) → Spells z → list_all plain (signed_decimal z) ≡ true
spelled_plain (pos n) h = signed_plain (pos n) (let small : n < 2 ^ 32 = grind (arith, nat_tests) in omega arith)
spelled_plain (negsuc n) h = signed_plain (negsuc n) (let small : suc n ≤ 2 ^ 31 = grind (arith, nat_tests) in omega arith)

pub indexed_plain : (z : ℤ) (r : ℕ) → Spells z → r < 32 → list_all plain (indexed_text z r) ≡ true
indexed_plain z r h small =
    all_append plain (signed_decimal z) (codes "(" ++ (register_text r ++ codes ")")) (spelled_plain z h) (all_append plain (register_text r) (codes ")") (register_plain r small) refl)

pub order_imm : (op : ImmOp) (d a : ℕ) (z : ℤ) (w : ℕ) → word_of (Imm op d a z) ≡ Some w
    → order_in (record { mnemonic = imm_name op; operands = comma_joined (register_text d ∷ register_text a ∷ signed_decimal z ∷ []) }) ≡ Ok (Plain (Imm op d a z))
unfolding with_three
order_imm op d a z w h =
    let range = and_parts (is_register d && is_register a) (is_imm12 z) (word_in_range (Imm op d a z) w h) in
    let registers = and_parts (is_register d) (is_register a) range.0 in
    let small_d = register_below d registers.0 in
    let small_a = register_below a registers.1 in
    let spells = imm_spells z range.1 in
    three_order (ternary.Imm op) (imm_name op) (register_text d) (register_text a) (signed_decimal z) (form_imm op) (some_register d) (register_plain d small_d) (register_plain a small_a) (spelled_plain z spells)
    ∙ rw (register_operand-text d small_d, register_operand-text a small_a, number_operand-signed z spells) (coded_word (Imm op d a z) w h)

pub order_branch : (op : BranchOp) (a b : ℕ) (z : ℤ) (w : ℕ) → word_of (Branch op a b z) ≡ Some w
    → order_in (record { mnemonic = branch_name op; operands = comma_joined (register_text a ∷ register_text b ∷ signed_decimal z ∷ []) }) ≡ Ok (Plain (Branch op a b z))
unfolding with_three
order_branch op a b z w h =
    let range = and_parts (is_register a && is_register b) (is_branch_offset z) (word_in_range (Branch op a b z) w h) in
    let registers = and_parts (is_register a) (is_register b) range.0 in
    let small_a = register_below a registers.0 in
    let small_b = register_below b registers.1 in
    let spells = branch_spells z range.1 in
    three_order (ternary.Branch op) (branch_name op) (register_text a) (register_text b) (signed_decimal z) (form_branch op) (some_register a) (register_plain a small_a) (register_plain b small_b) (spelled_plain z spells)
    ∙ rw (register_operand-text a small_a, register_operand-text b small_b, value_operand-signed z spells) (coded_word (Branch op a b z) w h)

pub order_shift : (op : ShiftOp) (d a n w : ℕ) → word_of (Shift op d a n) ≡ Some w
    → order_in (record { mnemonic = shift_name op; operands = comma_joined (register_text d ∷ register_text a ∷ decimal n ∷ []) }) ≡ Ok (Plain (Shift op d a n))
unfolding with_three
order_shift op d a n w h =
    let range = and_parts (is_register d && is_register a) (nat_lt n 32) (word_in_range (Shift op d a n) w h) in
    let registers = and_parts (is_register d) (is_register a) range.0 in
    let small_d = register_below d registers.0 in
    let small_a = register_below a registers.1 in
    let small_n : n < 32 = ltb-true n 32 range.1 in
    let spells : Spells (pos n) = grind (arith, nat_tests) in
    three_order (ternary.Shift op) (shift_name op) (register_text d) (register_text a) (decimal n) (form_shift op) (some_register d) (register_plain d small_d) (register_plain a small_a) (spelled_plain (pos n) spells)
    ∙ rw (register_operand-text d small_d, register_operand-text a small_a, number_operand-signed (pos n) spells, range.1) refl

pub order_reg : (op : RegOp) (d a b w : ℕ) → word_of (Reg op d a b) ≡ Some w
    → order_in (record { mnemonic = reg_name op; operands = comma_joined (register_text d ∷ register_text a ∷ register_text b ∷ []) }) ≡ Ok (Plain (Reg op d a b))
unfolding with_three
order_reg op d a b w h =
    let range = and_parts (is_register d && is_register a) (is_register b) (word_in_range (Reg op d a b) w h) in
    let registers = and_parts (is_register d) (is_register a) range.0 in
    let small_d = register_below d registers.0 in
    let small_a = register_below a registers.1 in
    let small_b = register_below b range.1 in
    three_order (ternary.Reg op) (reg_name op) (register_text d) (register_text a) (register_text b) (form_reg op) (some_register d) (register_plain d small_d) (register_plain a small_a) (register_plain b small_b)
    ∙ rw (register_operand-text d small_d, register_operand-text a small_a, register_operand-text b small_b) refl

pub order_mul : (op : MulOp) (d a b w : ℕ) → word_of (Mul op d a b) ≡ Some w
    → order_in (record { mnemonic = mul_name op; operands = comma_joined (register_text d ∷ register_text a ∷ register_text b ∷ []) }) ≡ Ok (Plain (Mul op d a b))
unfolding with_three
order_mul op d a b w h =
    let range = and_parts (is_register d && is_register a) (is_register b) (word_in_range (Mul op d a b) w h) in
    let registers = and_parts (is_register d) (is_register a) range.0 in
    let small_d = register_below d registers.0 in
    let small_a = register_below a registers.1 in
    let small_b = register_below b range.1 in
    three_order (ternary.Mul op) (mul_name op) (register_text d) (register_text a) (register_text b) (form_mul op) (some_register d) (register_plain d small_d) (register_plain a small_a) (register_plain b small_b)
    ∙ rw (register_operand-text d small_d, register_operand-text a small_a, register_operand-text b small_b) refl

pub order_lui : (d n w : ℕ) → word_of (Lui d n) ≡ Some w
    → order_in (record { mnemonic = codes "lui"; operands = comma_joined (register_text d ∷ field_text n ∷ []) }) ≡ Ok (Plain (Lui d n))
unfolding with_two
order_lui d n w h =
    let range = and_parts (is_register d) (nat_lt n (2 ^ 20)) (word_in_range (Lui d n) w h) in
    let small_d = register_below d range.0 in
    let small_n : n < 2 ^ 20 = ltb-true n (2 ^ 20) range.1 in
    two_order binary.Lui (codes "lui") (register_text d) (field_text n) form_lui (some_register d) (register_plain d small_d) (field_plain n)
    ∙ rw (register_operand-text d small_d, number_operand-field n small_n, range.1) refl

pub order_auipc : (d n w : ℕ) → word_of (Auipc d n) ≡ Some w
    → order_in (record { mnemonic = codes "auipc"; operands = comma_joined (register_text d ∷ field_text n ∷ []) }) ≡ Ok (Plain (Auipc d n))
unfolding with_two
order_auipc d n w h =
    let range = and_parts (is_register d) (nat_lt n (2 ^ 20)) (word_in_range (Auipc d n) w h) in
    let small_d = register_below d range.0 in
    let small_n : n < 2 ^ 20 = ltb-true n (2 ^ 20) range.1 in
    two_order binary.Auipc (codes "auipc") (register_text d) (field_text n) form_auipc (some_register d) (register_plain d small_d) (field_plain n)
    ∙ rw (register_operand-text d small_d, number_operand-field n small_n, range.1) refl

pub order_jal : (d : ℕ) (z : ℤ) (w : ℕ) → word_of (Jal d z) ≡ Some w
    → order_in (record { mnemonic = codes "jal"; operands = comma_joined (register_text d ∷ signed_decimal z ∷ []) }) ≡ Ok (Plain (Jal d z))
unfolding with_two
order_jal d z w h =
    let range = and_parts (is_register d) (is_jump_offset z) (word_in_range (Jal d z) w h) in
    let small_d = register_below d range.0 in
    let spells = jump_spells z range.1 in
    two_order binary.Jal (codes "jal") (register_text d) (signed_decimal z) form_jal (some_register d) (register_plain d small_d) (spelled_plain z spells)
    ∙ rw (register_operand-text d small_d, value_operand-signed z spells) (coded_word (Jal d z) w h)

pub order_jalr : (d a : ℕ) (z : ℤ) (w : ℕ) → word_of (Jalr d a z) ≡ Some w
    → order_in (record { mnemonic = codes "jalr"; operands = comma_joined (register_text d ∷ indexed_text z a ∷ []) }) ≡ Ok (Plain (Jalr d a z))
unfolding with_two
order_jalr d a z w h =
    let range = and_parts (is_register d && is_register a) (is_imm12 z) (word_in_range (Jalr d a z) w h) in
    let registers = and_parts (is_register d) (is_register a) range.0 in
    let small_d = register_below d registers.0 in
    let small_a = register_below a registers.1 in
    let spells = imm_spells z range.1 in
    two_order binary.Jalr (codes "jalr") (register_text d) (indexed_text z a) form_jalr (some_register d) (register_plain d small_d) (indexed_plain z a spells small_a)
    ∙ rw (register_operand-text d small_d, indexed_operand-text z a spells small_a) (coded_word (Jalr d a z) w h)

pub order_load : (op : LoadOp) (d a : ℕ) (z : ℤ) (w : ℕ) → word_of (Load op d a z) ≡ Some w
    → order_in (record { mnemonic = load_name op; operands = comma_joined (register_text d ∷ indexed_text z a ∷ []) }) ≡ Ok (Plain (Load op d a z))
unfolding with_two
order_load op d a z w h =
    let range = and_parts (is_register d && is_register a) (is_imm12 z) (word_in_range (Load op d a z) w h) in
    let registers = and_parts (is_register d) (is_register a) range.0 in
    let small_d = register_below d registers.0 in
    let small_a = register_below a registers.1 in
    let spells = imm_spells z range.1 in
    two_order (binary.Load op) (load_name op) (register_text d) (indexed_text z a) (form_load op) (some_register d) (register_plain d small_d) (indexed_plain z a spells small_a)
    ∙ rw (register_operand-text d small_d, indexed_operand-text z a spells small_a) (coded_word (Load op d a z) w h)

pub order_store : (op : StoreOp) (a b : ℕ) (z : ℤ) (w : ℕ) → word_of (Store op a b z) ≡ Some w
    → order_in (record { mnemonic = store_name op; operands = comma_joined (register_text b ∷ indexed_text z a ∷ []) }) ≡ Ok (Plain (Store op a b z))
unfolding with_two
order_store op a b z w h =
    let range = and_parts (is_register a && is_register b) (is_imm12 z) (word_in_range (Store op a b z) w h) in
    let registers = and_parts (is_register a) (is_register b) range.0 in
    let small_a = register_below a registers.0 in
    let small_b = register_below b registers.1 in
    let spells = imm_spells z range.1 in
    two_order (binary.Store op) (store_name op) (register_text b) (indexed_text z a) (form_store op) (some_register b) (register_plain b small_b) (indexed_plain z a spells small_a)
    ∙ rw (register_operand-text b small_b, indexed_operand-text z a spells small_a) (coded_word (Store op a b z) w h)
