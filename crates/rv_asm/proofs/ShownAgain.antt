-- Each shown text gives its instruction's word again.
use Rattle.std.proofs.Common.{◌≡◌, ◌==◌, ℕ, ◌^◌, ◌<◌, ℤ, pos, Option, Bool, cond, true, false, ◌&&◌, nat_lt, List, [], ◌∷◌, ◌++◌, length, length-append, Some, None, Ok, refl, sym, ◌∙◌, arith, codes, lit<, if◌then◌else◌}
use Rattle.std.specs.List.{list_all}
use Rattle.std.specs.Int.{w32, to_le_bytes}
use Rattle.std.specs.Fmt.{decimal, signed_decimal}
use Rattle.std.proofs.lemmas.Bool.{and_parts, ltb-true, eqb-true}
use Rattle.std.proofs.lemmas.Bool.Decides.{nat_tests}
use Rattle.rv_decode.specs.declared.instruction.Instr.{Instr}
use Rattle.rv_decode.specs.declared.instruction.Instr.TheVariants.{Lui, Auipc, Jal, Jalr, Branch, Load, Store, Imm, Shift, Reg, Mul as Multiply, Fence, Ecall, Ebreak}
use Rattle.rv_decode.specs.declared.instruction.BranchOp.{BranchOp}
use Rattle.rv_decode.specs.declared.instruction.BranchOp.TheVariants.{Beq, Bne, Blt, Bge, Bltu, Bgeu}
use Rattle.rv_decode.specs.declared.instruction.LoadOp.{LoadOp}
use Rattle.rv_decode.specs.declared.instruction.LoadOp.TheVariants.{Lb, Lh, Lw, Lbu, Lhu}
use Rattle.rv_decode.specs.declared.instruction.StoreOp.{StoreOp}
use Rattle.rv_decode.specs.declared.instruction.StoreOp.TheVariants.{Sb, Sh, Sw}
use Rattle.rv_decode.specs.declared.instruction.ImmOp.{ImmOp}
use Rattle.rv_decode.specs.declared.instruction.ImmOp.TheVariants.{Addi, Slti, Sltiu, Xori, Ori, Andi}
use Rattle.rv_decode.specs.declared.instruction.ShiftOp.{ShiftOp}
use Rattle.rv_decode.specs.declared.instruction.ShiftOp.TheVariants.{Slli, Srli, Srai}
use Rattle.rv_decode.specs.declared.instruction.RegOp.{RegOp}
use Rattle.rv_decode.specs.declared.instruction.RegOp.TheVariants.{Add, Sub, Sll, Slt, Sltu, Xor, Srl, Sra, Or, And}
use Rattle.rv_decode.specs.declared.instruction.MulOp.{MulOp}
use Rattle.rv_decode.specs.declared.instruction.MulOp.TheVariants.{Mul, Mulh, Mulhsu, Mulhu, Div, Divu, Rem, Remu}
use Rattle.rv_decode.specs.Names.{branch_name, load_name, store_name, imm_name, shift_name, reg_name, mul_name}
use Rattle.rv_decode.specs.Words.{word_of, instr_of, fields_fit, is_register, is_imm12, is_branch_offset, is_jump_offset}
use Rattle.asm_lines.specs.Cuts.{StatementWords, is_symbol, worded, labelled, parse_line}
use Rattle.asm_lines.specs.Operands.{operand_parts, value_operand, Number}
use Rattle.asm_statements.specs.declared.forms.Cell.TheVariants.{Word}
use Rattle.asm_statements.specs.Forms.{statement_form, ternary_of, binary_of, imm_named, branch_named, reg_named, shift_named, mul_named, load_named, store_named, zero_branch_named, binary_named, unary_named, bare_named, cell_named}
use Rattle.asm_statements.specs.Orders.{Plain, Cells, low_bits, with_cells, order_in}
use Rattle.rv_asm.specs.First.{with_line, first_line}
use Rattle.rv_asm.specs.Coded.{resolved, cell_bytes}
use Rattle.rv_asm.specs.Second.{emitted_at, second_line}
use Rattle.rv_asm.specs.Assembled.{assembled}
use Rattle.rv_asm.specs.Shown.{register_text, field_text, indexed_text, comma_joined, word_text, text_of, shown_or_word, shown_text, one_statement, one_word_program}
use Rattle.rv_decode.proofs.WordLaws.{writes_word}
use Rattle.rv_asm.proofs.Plain.{plain, shown, all_weaker, all_append, plain_shown, trim_end_append, trim_end_plain, parts_last}
use Rattle.rv_asm.proofs.Numerals.{register_plain}
use Rattle.rv_asm.proofs.ReadBack.{Spells, signed_some}
use Rattle.rv_asm.proofs.Hexes.{field_plain, word_digits_text, word_plain, value_operand-word}
use Rattle.rv_asm.proofs.ShownOrders.{some_register, spelled_plain, indexed_plain, word_in_range, register_below, imm_spells, branch_spells, jump_spells, order_imm, order_branch, order_shift, order_reg, order_mul, order_lui, order_auipc, order_jal, order_jalr, order_load, order_store}
use Rattle.rv_asm.proofs.ShownLines.{IsRest, trim_front_append, cut_statement, source_lines-one, statement_shown, statement_assembles, whole, before_statement, after_statement, label_a, begun_output, first_plain, second_plain}

-- ---- names and operands

record IsShownName (name : List ℕ) : Type 0 where
  some : 0 < length name
  named : is_symbol name ≡ true
  plains : list_all plain name ≡ true

record IsPlain (text : List ℕ) : Type 0 where
  some : 0 < length text
  plains : list_all plain text ≡ true

shown_all : (text : List ℕ) → list_all plain text ≡ true → list_all shown text ≡ true
shown_all text h = all_weaker plain shown plain_shown text h

two_rest : (a b : List ℕ) → IsPlain a → IsPlain b → IsRest (comma_joined (a ∷ b ∷ []))
two_rest a b p q = record {
  some = let longer = length-append a (44 ∷ 32 ∷ b) in omega (arith, longer, p.some);
  shown_all = all_append shown a (44 ∷ 32 ∷ b) (shown_all a p.plains) (shown_all b q.plains);
  front = trim_front_append a (44 ∷ 32 ∷ b) p.some p.plains;
  end = trim_end_append a (44 ∷ 32 ∷ b) (trim_end_append (44 ∷ 32 ∷ []) b (trim_end_plain b q.plains) q.some) (omega arith);
}

three_rest : (a b c : List ℕ) → IsPlain a → IsPlain b → IsPlain c → IsRest (comma_joined (a ∷ b ∷ c ∷ []))
three_rest a b c p q r =
    let more = two_rest b c q r in
    record {
      some = let longer = length-append a (44 ∷ 32 ∷ comma_joined (b ∷ c ∷ [])) in omega (arith, longer, p.some);
      shown_all = all_append shown a (44 ∷ 32 ∷ comma_joined (b ∷ c ∷ [])) (shown_all a p.plains) more.shown_all;
      front = trim_front_append a (44 ∷ 32 ∷ comma_joined (b ∷ c ∷ [])) p.some p.plains;
      end = trim_end_append a (44 ∷ 32 ∷ comma_joined (b ∷ c ∷ [])) (trim_end_append (44 ∷ 32 ∷ []) (comma_joined (b ∷ c ∷ [])) more.end more.some) (omega arith);
    }

register_is : (r : ℕ) → is_register r ≡ true → IsPlain (register_text r)
register_is r h = record { some = some_register r; plains = register_plain r (register_below r h) }

signed_is : (z : ℤ) → Spells z → IsPlain (signed_decimal z)
signed_is z h = record { some = signed_some z h; plains = spelled_plain z h }

indexed_is : (z : ℤ) (r : ℕ) → Spells z → is_register r ≡ true → IsPlain (indexed_text z r)
indexed_is z r h g = record {
  some = let longer = length-append (signed_decimal z) (codes "(" ++ (register_text r ++ codes ")")) in omega (arith, longer, signed_some z h);
  plains = indexed_plain z r h (register_below r g);
}

field_is : (n : ℕ) → IsPlain (field_text n)
field_is n = record { some = omega arith; plains = field_plain n }

branch_is : (op : BranchOp) → IsShownName (branch_name op)
branch_is Beq = record { some = lit< tt; named = refl; plains = refl }
branch_is Bne = record { some = lit< tt; named = refl; plains = refl }
branch_is Blt = record { some = lit< tt; named = refl; plains = refl }
branch_is Bge = record { some = lit< tt; named = refl; plains = refl }
branch_is Bltu = record { some = lit< tt; named = refl; plains = refl }
branch_is Bgeu = record { some = lit< tt; named = refl; plains = refl }

load_is : (op : LoadOp) → IsShownName (load_name op)
load_is Lb = record { some = lit< tt; named = refl; plains = refl }
load_is Lh = record { some = lit< tt; named = refl; plains = refl }
load_is Lw = record { some = lit< tt; named = refl; plains = refl }
load_is Lbu = record { some = lit< tt; named = refl; plains = refl }
load_is Lhu = record { some = lit< tt; named = refl; plains = refl }

store_is : (op : StoreOp) → IsShownName (store_name op)
store_is Sb = record { some = lit< tt; named = refl; plains = refl }
store_is Sh = record { some = lit< tt; named = refl; plains = refl }
store_is Sw = record { some = lit< tt; named = refl; plains = refl }

imm_is : (op : ImmOp) → IsShownName (imm_name op)
imm_is Addi = record { some = lit< tt; named = refl; plains = refl }
imm_is Slti = record { some = lit< tt; named = refl; plains = refl }
imm_is Sltiu = record { some = lit< tt; named = refl; plains = refl }
imm_is Xori = record { some = lit< tt; named = refl; plains = refl }
imm_is Ori = record { some = lit< tt; named = refl; plains = refl }
imm_is Andi = record { some = lit< tt; named = refl; plains = refl }

shift_is : (op : ShiftOp) → IsShownName (shift_name op)
shift_is Slli = record { some = lit< tt; named = refl; plains = refl }
shift_is Srli = record { some = lit< tt; named = refl; plains = refl }
shift_is Srai = record { some = lit< tt; named = refl; plains = refl }

reg_is : (op : RegOp) → IsShownName (reg_name op)
reg_is Add = record { some = lit< tt; named = refl; plains = refl }
reg_is Sub = record { some = lit< tt; named = refl; plains = refl }
reg_is Sll = record { some = lit< tt; named = refl; plains = refl }
reg_is Slt = record { some = lit< tt; named = refl; plains = refl }
reg_is Sltu = record { some = lit< tt; named = refl; plains = refl }
reg_is Xor = record { some = lit< tt; named = refl; plains = refl }
reg_is Srl = record { some = lit< tt; named = refl; plains = refl }
reg_is Sra = record { some = lit< tt; named = refl; plains = refl }
reg_is Or = record { some = lit< tt; named = refl; plains = refl }
reg_is And = record { some = lit< tt; named = refl; plains = refl }

mul_is : (op : MulOp) → IsShownName (mul_name op)
mul_is Mul = record { some = lit< tt; named = refl; plains = refl }
mul_is Mulh = record { some = lit< tt; named = refl; plains = refl }
mul_is Mulhsu = record { some = lit< tt; named = refl; plains = refl }
mul_is Mulhu = record { some = lit< tt; named = refl; plains = refl }
mul_is Div = record { some = lit< tt; named = refl; plains = refl }
mul_is Divu = record { some = lit< tt; named = refl; plains = refl }
mul_is Rem = record { some = lit< tt; named = refl; plains = refl }
mul_is Remu = record { some = lit< tt; named = refl; plains = refl }

name_is : (name : List ℕ) → nat_lt 0 (length name) ≡ true → is_symbol name ≡ true → list_all plain name ≡ true → IsShownName name
name_is name some named plains = record { some = ltb-true _ _ some; named = named; plains = plains }

with_name : (name rest : List ℕ) (i : Instr) (word : ℕ) → IsShownName name → IsRest rest → order_in (record { mnemonic = name; operands = rest }) ≡ Ok (Plain i) → word_of i ≡ Some word
    → assembled (one_statement (name ++ 32 ∷ rest)) ≡ Ok (one_word_program word)
with_name name rest i word n r order h = statement_assembles name rest i word n.some n.named n.plains r order h

-- a name alone
alone : (name : List ℕ) (i : Instr) (word : ℕ) → list_all shown name ≡ true → parse_line (97 ∷ 58 ∷ name) ≡ Some (record { label = Some (97 ∷ []); statement = Some (record { mnemonic = name; operands = [] }) })
    → order_in (record { mnemonic = name; operands = [] }) ≡ Ok (Plain i) → word_of i ≡ Some word → assembled (one_statement name) ≡ Ok (one_word_program word)
alone name i word h cut order w =
    whole (one_statement name) (97 ∷ 58 ∷ name) word (source_lines-one name h)
    (first_plain (97 ∷ 58 ∷ name) (record { mnemonic = name; operands = [] }) i cut order)
    (second_plain (97 ∷ 58 ∷ name) (record { mnemonic = name; operands = [] }) i word cut order w)

cut_ecall : parse_line (97 ∷ 58 ∷ codes "ecall") ≡ Some (record { label = Some (97 ∷ []); statement = Some (record { mnemonic = codes "ecall"; operands = [] }) })
unfolding parse_line labelled worded
cut_ecall = refl

order_ecall : order_in (record { mnemonic = codes "ecall"; operands = [] }) ≡ Ok (Plain Ecall)
unfolding order_in statement_form ternary_of binary_of imm_named branch_named reg_named shift_named mul_named load_named store_named zero_branch_named binary_named unary_named bare_named cell_named
order_ecall = refl

cut_ebreak : parse_line (97 ∷ 58 ∷ codes "ebreak") ≡ Some (record { label = Some (97 ∷ []); statement = Some (record { mnemonic = codes "ebreak"; operands = [] }) })
unfolding parse_line labelled worded
cut_ebreak = refl

order_ebreak : order_in (record { mnemonic = codes "ebreak"; operands = [] }) ≡ Ok (Plain Ebreak)
unfolding order_in statement_form ternary_of binary_of imm_named branch_named reg_named shift_named mul_named load_named store_named zero_branch_named binary_named unary_named bare_named cell_named
order_ebreak = refl

cut_fence : parse_line (97 ∷ 58 ∷ codes "fence") ≡ Some (record { label = Some (97 ∷ []); statement = Some (record { mnemonic = codes "fence"; operands = [] }) })
unfolding parse_line labelled worded
cut_fence = refl

order_fence : order_in (record { mnemonic = codes "fence"; operands = [] }) ≡ Ok (Plain (Fence 0 0 0x0ff))
unfolding order_in statement_form ternary_of binary_of imm_named branch_named reg_named shift_named mul_named load_named store_named zero_branch_named binary_named unary_named bare_named cell_named
order_fence = refl

-- ---- a word

low_word : (w : ℕ) → w < 2 ^ 32 → low_bits 32 (pos w) ≡ w
low_word w small = omega arith

order_word : (w : ℕ) → w < 2 ^ 32 → order_in (record { mnemonic = codes ".word"; operands = word_digits_text w }) ≡ Ok (Cells Word (word_digits_text w))
unfolding order_in statement_form ternary_of binary_of imm_named branch_named reg_named shift_named mul_named load_named store_named zero_branch_named binary_named unary_named bare_named cell_named with_cells
order_word w small =
    let some : (length (word_digits_text w) == 0) ≡ false = grind (arith, nat_tests) in
    rw (some, parts_last (word_digits_text w) (word_plain w), value_operand-word w small) refl

first_cells : (line : List ℕ) (words : StatementWords) (text : List ℕ) → parse_line line ≡ Some (record { label = Some (97 ∷ []); statement = Some words }) → order_in words ≡ Ok (Cells Word text) → operand_parts text ≡ text ∷ []
    → first_line before_statement line ≡ Ok after_statement
unfolding first_line with_line
first_cells line words text cut order parts = rw (cut, order, parts) refl

second_cells : (line : List ℕ) (words : StatementWords) (text : List ℕ) (w : ℕ) → parse_line line ≡ Some (record { label = Some (97 ∷ []); statement = Some words }) → order_in words ≡ Ok (Cells Word text) → operand_parts text ≡ text ∷ []
    → value_operand text ≡ Ok (Number (pos w)) → low_bits 32 (pos w) ≡ w
    → second_line label_a begun_output line ≡ Ok (record { program = record { entry = 0; segments = [] }; here = Some (record { addr = 0; bytes = to_le_bytes w32 w }) })
unfolding second_line emitted_at resolved cell_bytes
second_cells line words text w cut order parts value low = rw (cut, order, parts, value, low) refl

word_assembles : (w : ℕ) → w < 2 ^ 32 → assembled (one_statement (word_text (Some w))) ≡ Ok (one_word_program w)
word_assembles w small =
    let rest : IsRest (word_digits_text w) = record {
      some = omega arith;
      shown_all = shown_all (word_digits_text w) (word_plain w);
      front = refl;
      end = trim_end_plain (word_digits_text w) (word_plain w);
    } in
    let name : IsShownName (codes ".word") = record { some = lit< tt; named = refl; plains = refl } in
    let cut = cut_statement (codes ".word") (word_digits_text w) name.some name.named name.plains rest in
    let line : List ℕ = 97 ∷ 58 ∷ word_text (Some w) in
    let words : StatementWords = record { mnemonic = codes ".word"; operands = word_digits_text w } in
    let order = order_word w small in
    let parts = parts_last (word_digits_text w) (word_plain w) in
    whole (one_statement (word_text (Some w))) line w (source_lines-one (word_text (Some w)) (statement_shown (codes ".word") (word_digits_text w) name.plains rest))
    (first_cells line words (word_digits_text w) cut order parts)
    (second_cells line words (word_digits_text w) w cut order parts (value_operand-word w small) (low_word w small))

-- ---- all instructions

chosen_is : {A : Type 0} (b : Bool) (x y : A) → cond b (Some x) None ≡ Some y → x ≡ y
chosen_is true x y h = cc
chosen_is false x y h = cc

fence_small : (d a imm w : ℕ) → word_of (Fence d a imm) ≡ Some w → w < 2 ^ 32
unfolding word_of
fence_small d a imm w h =
    let range = and_parts (is_register d && is_register a) (nat_lt imm (2 ^ 12)) (word_in_range (Fence d a imm) w h) in
    let registers = and_parts (is_register d) (is_register a) range.0 in
    let small_d = register_below d registers.0 in
    let small_a = register_below a registers.1 in
    let e = chosen_is (fields_fit (Fence d a imm)) _ w h in
    omega (arith, e)

fence_assembles : (d a imm w : ℕ) (full : Bool) → ((d == 0) && (a == 0) && (imm == 0x0ff)) ≡ full → word_of (Fence d a imm) ≡ Some w
    → assembled (one_statement (if full then codes "fence" else word_text (word_of (Fence d a imm)))) ≡ Ok (one_word_program w)
fence_assembles d a imm w true e h =
    let parts = and_parts ((d == 0) && (a == 0)) (imm == 0x0ff) e in
    let zeros = and_parts (d == 0) (a == 0) parts.0 in
    let same : word_of (Fence d a imm) ≡ word_of (Fence 0 0 0x0ff) = rw (eqb-true d 0 zeros.0, eqb-true a 0 zeros.1, eqb-true imm 0x0ff parts.1) refl in
    alone (codes "fence") (Fence 0 0 0x0ff) w refl cut_fence order_fence (sym same ∙ h)
fence_assembles d a imm w false e h = rw h (word_assembles w (fence_small d a imm w h))

pub shown_assembles : (i : Instr) (w : ℕ) → word_of i ≡ Some w → assembled (one_statement (text_of i)) ≡ Ok (one_word_program w)
shown_assembles (Lui d n) w h =
    let range = and_parts (is_register d) (nat_lt n (2 ^ 20)) (word_in_range (Lui d n) w h) in
    with_name (codes "lui") (comma_joined (register_text d ∷ field_text n ∷ [])) (Lui d n) w (name_is (codes "lui") refl refl refl) (two_rest (register_text d) (field_text n) (register_is d range.0) (field_is n)) (order_lui d n w h) h
shown_assembles (Auipc d n) w h =
    let range = and_parts (is_register d) (nat_lt n (2 ^ 20)) (word_in_range (Auipc d n) w h) in
    with_name (codes "auipc") (comma_joined (register_text d ∷ field_text n ∷ [])) (Auipc d n) w (name_is (codes "auipc") refl refl refl) (two_rest (register_text d) (field_text n) (register_is d range.0) (field_is n)) (order_auipc d n w h) h
shown_assembles (Jal d z) w h =
    let range = and_parts (is_register d) (is_jump_offset z) (word_in_range (Jal d z) w h) in
    with_name (codes "jal") (comma_joined (register_text d ∷ signed_decimal z ∷ [])) (Jal d z) w (name_is (codes "jal") refl refl refl) (two_rest (register_text d) (signed_decimal z) (register_is d range.0) (signed_is z (jump_spells z range.1))) (order_jal d z w h) h
shown_assembles (Jalr d a z) w h =
    let range = and_parts (is_register d && is_register a) (is_imm12 z) (word_in_range (Jalr d a z) w h) in
    let registers = and_parts (is_register d) (is_register a) range.0 in
    with_name (codes "jalr") (comma_joined (register_text d ∷ indexed_text z a ∷ [])) (Jalr d a z) w (name_is (codes "jalr") refl refl refl) (two_rest (register_text d) (indexed_text z a) (register_is d registers.0) (indexed_is z a (imm_spells z range.1) registers.1)) (order_jalr d a z w h) h
shown_assembles (Branch op a b z) w h =
    let range = and_parts (is_register a && is_register b) (is_branch_offset z) (word_in_range (Branch op a b z) w h) in
    let registers = and_parts (is_register a) (is_register b) range.0 in
    with_name (branch_name op) (comma_joined (register_text a ∷ register_text b ∷ signed_decimal z ∷ [])) (Branch op a b z) w (branch_is op) (three_rest (register_text a) (register_text b) (signed_decimal z) (register_is a registers.0) (register_is b registers.1) (signed_is z (branch_spells z range.1))) (order_branch op a b z w h) h
shown_assembles (Load op d a z) w h =
    let range = and_parts (is_register d && is_register a) (is_imm12 z) (word_in_range (Load op d a z) w h) in
    let registers = and_parts (is_register d) (is_register a) range.0 in
    with_name (load_name op) (comma_joined (register_text d ∷ indexed_text z a ∷ [])) (Load op d a z) w (load_is op) (two_rest (register_text d) (indexed_text z a) (register_is d registers.0) (indexed_is z a (imm_spells z range.1) registers.1)) (order_load op d a z w h) h
shown_assembles (Store op a b z) w h =
    let range = and_parts (is_register a && is_register b) (is_imm12 z) (word_in_range (Store op a b z) w h) in
    let registers = and_parts (is_register a) (is_register b) range.0 in
    with_name (store_name op) (comma_joined (register_text b ∷ indexed_text z a ∷ [])) (Store op a b z) w (store_is op) (two_rest (register_text b) (indexed_text z a) (register_is b registers.1) (indexed_is z a (imm_spells z range.1) registers.0)) (order_store op a b z w h) h
shown_assembles (Imm op d a z) w h =
    let range = and_parts (is_register d && is_register a) (is_imm12 z) (word_in_range (Imm op d a z) w h) in
    let registers = and_parts (is_register d) (is_register a) range.0 in
    with_name (imm_name op) (comma_joined (register_text d ∷ register_text a ∷ signed_decimal z ∷ [])) (Imm op d a z) w (imm_is op) (three_rest (register_text d) (register_text a) (signed_decimal z) (register_is d registers.0) (register_is a registers.1) (signed_is z (imm_spells z range.1))) (order_imm op d a z w h) h
shown_assembles (Shift op d a n) w h =
    let range = and_parts (is_register d && is_register a) (nat_lt n 32) (word_in_range (Shift op d a n) w h) in
    let registers = and_parts (is_register d) (is_register a) range.0 in
    let small : n < 32 = ltb-true n 32 range.1 in
    let spells : Spells (pos n) = grind (arith, nat_tests) in
    with_name (shift_name op) (comma_joined (register_text d ∷ register_text a ∷ decimal n ∷ [])) (Shift op d a n) w (shift_is op) (three_rest (register_text d) (register_text a) (decimal n) (register_is d registers.0) (register_is a registers.1) (signed_is (pos n) spells)) (order_shift op d a n w h) h
shown_assembles (Reg op d a b) w h =
    let range = and_parts (is_register d && is_register a) (is_register b) (word_in_range (Reg op d a b) w h) in
    let registers = and_parts (is_register d) (is_register a) range.0 in
    with_name (reg_name op) (comma_joined (register_text d ∷ register_text a ∷ register_text b ∷ [])) (Reg op d a b) w (reg_is op) (three_rest (register_text d) (register_text a) (register_text b) (register_is d registers.0) (register_is a registers.1) (register_is b range.1)) (order_reg op d a b w h) h
shown_assembles (Multiply op d a b) w h =
    let range = and_parts (is_register d && is_register a) (is_register b) (word_in_range (Multiply op d a b) w h) in
    let registers = and_parts (is_register d) (is_register a) range.0 in
    with_name (mul_name op) (comma_joined (register_text d ∷ register_text a ∷ register_text b ∷ [])) (Multiply op d a b) w (mul_is op) (three_rest (register_text d) (register_text a) (register_text b) (register_is d registers.0) (register_is a registers.1) (register_is b range.1)) (order_mul op d a b w h) h
shown_assembles (Fence d a imm) w h = fence_assembles d a imm w ((d == 0) && (a == 0) && (imm == 0x0ff)) refl h
shown_assembles Ecall w h = alone (codes "ecall") Ecall w refl cut_ecall order_ecall h
shown_assembles Ebreak w h = alone (codes "ebreak") Ebreak w refl cut_ebreak order_ebreak h

-- ---- all words

word_case : (w : ℕ) → w < 2 ^ 32 → (found : Option Instr) → instr_of w ≡ found → assembled (one_statement (shown_or_word w found)) ≡ Ok (one_word_program w)
word_case w small None e = word_assembles w small
word_case w small (Some i) e = shown_assembles i w (writes_word i w small e)

pub words_assemble : (w : ℕ) → w < 2 ^ 32 → assembled (one_statement (shown_text w)) ≡ Ok (one_word_program w)
words_assemble w small = word_case w small (instr_of w) refl
