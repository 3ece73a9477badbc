-- The word of an instruction has its row and its fields, and an instruction with a word's row and fields has the
-- word. One lemma for each format and direction, over the numbers alone.
use Rattle.std.proofs.Common.{◌≡◌, ℕ, ◌<◌, ◌+◌, ◌*◌, ◌%◌, ◌^◌, ◌&&◌, ℤ, Bool, true, cond, eqb, ltb, IsTrue, ◌↔◌, Option, Some, None, IfSome, lit<, refl, sym, ap, ◌∙◌, subst, arith}
use Rattle.std.specs.Option.{IsNone, option_map}
use Rattle.std.proofs.lemmas.Bool.{and_parts, and_from, ltb-true, lt-ltb, eqb-true, eq-eqb}
use Rattle.std.proofs.lemmas.Option.{cond_some, same_Some, none-some}
use Rattle.rv_decode.specs.declared.instruction.Instr.{Instr}
use Rattle.rv_decode.specs.declared.instruction.Instr.TheVariants.{Lui, Auipc, Jal, Jalr, Branch, Load, Store, Imm, Shift, Reg, Mul as Multiply, Fence, Ecall, Ebreak}
use Rattle.rv_decode.specs.declared.instruction.BranchOp.TheVariants.{Beq, Bne, Blt, Bge, Bltu, Bgeu}
use Rattle.rv_decode.specs.declared.instruction.LoadOp.TheVariants.{Lb, Lh, Lw, Lbu, Lhu}
use Rattle.rv_decode.specs.declared.instruction.StoreOp.TheVariants.{Sb, Sh, Sw}
use Rattle.rv_decode.specs.declared.instruction.ImmOp.TheVariants.{Addi, Slti, Sltiu, Xori, Ori, Andi}
use Rattle.rv_decode.specs.declared.instruction.ShiftOp.TheVariants.{Slli, Srli, Srai}
use Rattle.rv_decode.specs.declared.instruction.RegOp.TheVariants.{Add, Sub, Sll, Slt, Sltu, Xor, Srl, Sra, Or, And}
use Rattle.rv_decode.specs.declared.instruction.MulOp.TheVariants.{Mul, Mulh, Mulhsu, Mulhu, Div, Divu, Rem, Remu}
use Rattle.rv_decode.specs.Fields.{field, opcode, rd, funct3, rs1, rs2, funct7, rest, signed, upper12, imm_i, imm_s, imm_b, imm_u, imm_j}
use Rattle.rv_decode.specs.Table.{Row, LUI, AUIPC, JAL, JALR, BEQ, BNE, BLT, BGE, BLTU, BGEU, LB, LH, LW, LBU, LHU, SB, SH, SW, ADDI, SLTI, SLTIU, XORI, ORI, ANDI, SLLI, SRLI, SRAI, ADD, SUB, SLL, SLT, SLTU, XOR, SRL, SRA, OR, AND, FENCE, ECALL, EBREAK, MUL, MULH, MULHSU, MULHU, DIV, DIVU, REM, REMU, Fixed, by_opcode, by_funct3, by_funct7, by_word, fixed, has_fixed, listed, row_of}
use Rattle.rv_decode.specs.Words.{branch_row, load_row, store_row, imm_row, shift_row, reg_row, mul_row, instr_row, is_register, is_imm12, is_branch_offset, is_jump_offset, fixed_bits, imm_bits, r_operands, i_operands, s_operands, b_operands, u_operands, j_operands, word_of, instr_in, instr_of}
use Rattle.rv_decode.proofs.Sums.{r_parts, i_parts, s_parts, b_parts, u_parts, j_parts, r_sum, i_sum, s_sum, b_sum, u_sum, j_sum, word_sum, upper12-split, upper20-split, bit31-split, bits21-split, bit20-split, bits12-split}
use Rattle.rv_decode.proofs.Immediates.{Stands, stands, imm12_back, imm12_fits, imm12_bits, store_whole, store_low, store_high, offset13, branch_whole, branch_back, branch_even, branch_fits, branch_bits, branch_low, branch_mid, branch_11, branch_12, offset21, jump_whole, jump_back, jump_even, jump_fits, jump_bits, jump_low, jump_11, jump_mid, jump_20}
use Rattle.rv_decode.proofs.Listing.{listed_fits, fits_listed, HasFunct3, HasFunct7, branch_fixes, load_fixes, store_fixes, imm_fixes, shift_fixes, reg_fixes, mul_fixes}
use Rattle.rv_decode.proofs.Rows.{at_row}

-- ---- rows

row_by_opcode : (o : ℕ) (row : Row) → fixed row ≡ by_opcode o → (w : ℕ) → opcode w ≡ o → row_of w ≡ Some row
row_by_opcode o row s w e = fits_listed row (opcode w) (funct3 w) (funct7 w) (rest w) (ap (λ x. has_fixed x (opcode w) (funct3 w) (funct7 w) (rest w)) s ∙ eq-eqb (opcode w) o e)

row_by_funct3 : (o : ℕ) (row : Row) (s : HasFunct3 o row) (w : ℕ) → opcode w ≡ o → funct3 w ≡ s.f → row_of w ≡ Some row
row_by_funct3 o row s w e e3 = fits_listed row (opcode w) (funct3 w) (funct7 w) (rest w)
    (ap (λ x. has_fixed x (opcode w) (funct3 w) (funct7 w) (rest w)) s.is
    ∙ and_from (eqb (opcode w) o) (eqb (funct3 w) s.f) (eq-eqb (opcode w) o e) (eq-eqb (funct3 w) s.f e3))

row_by_funct7 : (o : ℕ) (row : Row) (s : HasFunct7 o row) (w : ℕ) → opcode w ≡ o → funct3 w ≡ s.f → funct7 w ≡ s.g → row_of w ≡ Some row
row_by_funct7 o row s w e e3 e7 = fits_listed row (opcode w) (funct3 w) (funct7 w) (rest w)
    (ap (λ x. has_fixed x (opcode w) (funct3 w) (funct7 w) (rest w)) s.is
    ∙ and_from (eqb (opcode w) o && eqb (funct3 w) s.f) (eqb (funct7 w) s.g)
    (and_from (eqb (opcode w) o) (eqb (funct3 w) s.f) (eq-eqb (opcode w) o e) (eq-eqb (funct3 w) s.f e3)) (eq-eqb (funct7 w) s.g e7))

row_fits : (row : Row) (x : Fixed) (w : ℕ) → fixed row ≡ x → row_of w ≡ Some row → has_fixed x (opcode w) (funct3 w) (funct7 w) (rest w) ≡ true
row_fits row x w s h = sym (ap (λ y. has_fixed y (opcode w) (funct3 w) (funct7 w) (rest w)) s) ∙ listed_fits row (opcode w) (funct3 w) (funct7 w) (rest w) h

base_by_funct3 : (o : ℕ) (row : Row) (s : HasFunct3 o row) (w : ℕ) → row_of w ≡ Some row → fixed_bits (fixed row) ≡ opcode w + funct3 w * 2 ^ 12
base_by_funct3 o row s w h =
    let t = and_parts (eqb (opcode w) o) (eqb (funct3 w) s.f) (row_fits row (by_funct3 o s.f) w s.is h) in
    let eo : opcode w ≡ o = eqb-true (opcode w) o t.0 in
    let ef : funct3 w ≡ s.f = eqb-true (funct3 w) s.f t.1 in
    let q : fixed_bits (fixed row) ≡ o + s.f * 2 ^ 12 = ap fixed_bits s.is in
    q ∙ ap (λ x. o + x * 2 ^ 12) (sym ef) ∙ ap (λ x. x + funct3 w * 2 ^ 12) (sym eo)

base_by_funct7 : (o : ℕ) (row : Row) (s : HasFunct7 o row) (w : ℕ) → row_of w ≡ Some row → fixed_bits (fixed row) ≡ opcode w + funct3 w * 2 ^ 12 + funct7 w * 2 ^ 25
base_by_funct7 o row s w h =
    let t = and_parts (eqb (opcode w) o && eqb (funct3 w) s.f) (eqb (funct7 w) s.g) (row_fits row (by_funct7 o s.f s.g) w s.is h) in
    let u = and_parts (eqb (opcode w) o) (eqb (funct3 w) s.f) t.0 in
    let eo : opcode w ≡ o = eqb-true (opcode w) o u.0 in
    let ef : funct3 w ≡ s.f = eqb-true (funct3 w) s.f u.1 in
    let eg : funct7 w ≡ s.g = eqb-true (funct7 w) s.g t.1 in
    let q : fixed_bits (fixed row) ≡ o + s.f * 2 ^ 12 + s.g * 2 ^ 25 = ap fixed_bits s.is in
    q ∙ ap (λ x. o + x * 2 ^ 12 + s.g * 2 ^ 25) (sym ef) ∙ ap (λ x. o + funct3 w * 2 ^ 12 + x * 2 ^ 25) (sym eg) ∙ ap (λ x. x + funct3 w * 2 ^ 12 + funct7 w * 2 ^ 25) (sym eo)

-- ---- from the word's sum to the fields

read_r : (o : ℕ) (row : Row) (s : HasFunct7 o row) (d a b w : ℕ) → o < 2 ^ 7 → (is_register d && is_register a && ltb b 32) ≡ true → fixed_bits (fixed row) + r_operands d a b ≡ w
    → (w < 2 ^ 32) × (row_of w ≡ Some row) × (d ≡ rd w) × (a ≡ rs1 w) × (b ≡ rs2 w)
read_r o row s d a b w po h e =
    let t = and_parts (ltb d 32 && ltb a 32) (ltb b 32) h in
    let u = and_parts (ltb d 32) (ltb a 32) t.0 in
    let p = r_parts w (fixed_bits (fixed row)) o d s.f a b s.g po (ltb-true d 32 u.0) s.small (ltb-true a 32 u.1) (ltb-true b 32 t.1) s.small7 (ap fixed_bits s.is) e in
    (p.small, row_by_funct7 o row s w p.o_is p.f_is p.g_is, sym p.d_is, sym p.a_is, sym p.b_is)

read_i : (o : ℕ) (row : Row) (s : HasFunct3 o row) (d a x w : ℕ) → o < 2 ^ 7 → (is_register d && is_register a) ≡ true → x < 2 ^ 12 → fixed_bits (fixed row) + (d * 2 ^ 7 + a * 2 ^ 15 + x * 2 ^ 20) ≡ w
    → (w < 2 ^ 32) × (row_of w ≡ Some row) × (d ≡ rd w) × (a ≡ rs1 w) × (x ≡ field 20 12 w)
read_i o row s d a x w po h px e =
    let u = and_parts (ltb d 32) (ltb a 32) h in
    let p = i_parts w (fixed_bits (fixed row)) o d s.f a x po (ltb-true d 32 u.0) s.small (ltb-true a 32 u.1) px (ap fixed_bits s.is) e in
    let eb : rs2 w ≡ field 0 5 x = p.b_is in
    let eg : funct7 w ≡ field 5 7 x = p.g_is in
    (p.small, row_by_funct3 o row s w p.o_is p.f_is, sym p.d_is, sym p.a_is, omega (arith, upper12-split w))

read_imm : (o : ℕ) (row : Row) (s : HasFunct3 o row) (d a : ℕ) (imm : ℤ) (w : ℕ) → o < 2 ^ 7 → (is_register d && is_register a && is_imm12 imm) ≡ true → fixed_bits (fixed row) + i_operands d a (imm_bits imm) ≡ w
    → (w < 2 ^ 32) × (row_of w ≡ Some row) × (d ≡ rd w) × (a ≡ rs1 w) × (imm ≡ imm_i w)
read_imm o row s d a imm w po h e =
    let t = and_parts (is_register d && is_register a) (is_imm12 imm) h in
    let px : field 0 12 (imm_bits imm) < 2 ^ 12 = omega arith in
    let p = read_i o row s d a (field 0 12 (imm_bits imm)) w po t.0 px e in
    (p.0, p.1, p.2, p.3, sym (imm12_back imm t.1) ∙ ap (signed 12) p.4)

read_s : (o : ℕ) (row : Row) (s : HasFunct3 o row) (a b : ℕ) (imm : ℤ) (w : ℕ) → o < 2 ^ 7 → (is_register a && is_register b && is_imm12 imm) ≡ true → fixed_bits (fixed row) + s_operands a b (imm_bits imm) ≡ w
    → (w < 2 ^ 32) × (row_of w ≡ Some row) × (a ≡ rs1 w) × (b ≡ rs2 w) × (imm ≡ imm_s w)
read_s o row s a b imm w po h e =
    let t = and_parts (is_register a && is_register b) (is_imm12 imm) h in
    let u = and_parts (ltb a 32) (ltb b 32) t.0 in
    let x = imm_bits imm in
    let pl : field 0 5 x < 2 ^ 5 = omega arith in
    let ph : field 5 7 x < 2 ^ 7 = omega arith in
    let p = s_parts w (fixed_bits (fixed row)) o (field 0 5 x) s.f a b (field 5 7 x) po pl s.small (ltb-true a 32 u.0) (ltb-true b 32 u.1) ph (ap fixed_bits s.is) e in
    let whole : rd w + funct7 w * 2 ^ 5 ≡ field 0 12 x = ap (λ y. y + funct7 w * 2 ^ 5) p.d_is ∙ ap (λ y. field 0 5 x + y * 2 ^ 5) p.g_is ∙ store_whole x in
    (p.small, row_by_funct3 o row s w p.o_is p.f_is, sym p.a_is, sym p.b_is, sym (imm12_back imm t.1) ∙ ap (signed 12) (sym whole))

-- the parts of a branch's offset, from rd and funct7
b_whole : (w c l m h : ℕ) → c < 2 → l < 2 ^ 4 → m < 2 ^ 6 → h < 2 → rd w ≡ c + l * 2 → funct7 w ≡ m + h * 2 ^ 6 → offset13 (field 8 4 w) (field 25 6 w) (field 7 1 w) (field 31 1 w) ≡ offset13 l m c h
b_whole w c l m h pc pl pm ph ed eg = omega arith

read_b : (o : ℕ) (row : Row) (s : HasFunct3 o row) (a b : ℕ) (imm : ℤ) (w : ℕ) → o < 2 ^ 7 → (is_register a && is_register b && is_branch_offset imm) ≡ true → fixed_bits (fixed row) + b_operands a b (imm_bits imm) ≡ w
    → (w < 2 ^ 32) × (row_of w ≡ Some row) × (a ≡ rs1 w) × (b ≡ rs2 w) × (imm ≡ imm_b w)
read_b o row s a b imm w po h e =
    let t = and_parts (is_register a && is_register b) (is_branch_offset imm) h in
    let u = and_parts (ltb a 32) (ltb b 32) t.0 in
    let x = imm_bits imm in
    let pc : field 11 1 x < 2 = omega arith in
    let pl : field 1 4 x < 2 ^ 4 = omega arith in
    let pm : field 5 6 x < 2 ^ 6 = omega arith in
    let ph : field 12 1 x < 2 = omega arith in
    let p = b_parts w (fixed_bits (fixed row)) o s.f a b (field 11 1 x) (field 1 4 x) (field 5 6 x) (field 12 1 x) po s.small (ltb-true a 32 u.0) (ltb-true b 32 u.1) pc pl pm ph (ap fixed_bits s.is) e in (
      p.small,
      row_by_funct3 o row s w p.o_is p.f_is,
      sym p.a_is,
      sym p.b_is,
      sym (branch_back imm t.1) ∙ ap (signed 13) (sym (branch_whole x (branch_even imm t.1)) ∙ sym (b_whole w _ _ _ _ pc pl pm ph p.d_is p.g_is)),
    )

u_whole : (w x : ℕ) → x < 2 ^ 20 → funct3 w ≡ field 0 3 x → rs1 w ≡ field 3 5 x → rs2 w ≡ field 8 5 x → funct7 w ≡ field 13 7 x → x ≡ field 12 20 w
u_whole w x px ef ea eb eg = omega (arith, upper20-split w)

read_u : (o : ℕ) (row : Row) → fixed row ≡ by_opcode o → (d x w : ℕ) → o < 2 ^ 7 → (is_register d && ltb x (2 ^ 20)) ≡ true → fixed_bits (fixed row) + u_operands d x ≡ w
    → (w < 2 ^ 32) × (row_of w ≡ Some row) × (d ≡ rd w) × (x ≡ imm_u w)
read_u o row s d x w po h e =
    let t = and_parts (ltb d 32) (ltb x 1048576) h in
    let px : x < 2 ^ 20 = ltb-true x 1048576 t.1 in
    let p = u_parts w o d x po (ltb-true d 32 t.0) px (sym (ap (λ y. fixed_bits y + u_operands d x) s) ∙ e) in
    let ef : funct3 w ≡ field 0 3 x = p.f_is in
    let ea : rs1 w ≡ field 3 5 x = p.a_is in
    let eb : rs2 w ≡ field 8 5 x = p.b_is in
    let eg : funct7 w ≡ field 13 7 x = p.g_is in
    (p.small, row_by_opcode o row s w p.o_is, sym p.d_is, u_whole w x px ef ea eb eg)

j_whole : (w m c l h : ℕ) → m < 2 ^ 8 → c < 2 → l < 2 ^ 10 → h < 2 → funct3 w ≡ field 0 3 m → rs1 w ≡ field 3 5 m → rs2 w ≡ c + field 0 4 l * 2 → funct7 w ≡ field 4 6 l + h * 2 ^ 6 → offset21 (field 21 10 w) (field 20 1 w) (field 12 8 w) (field 31 1 w) ≡ offset21 l c m h
j_whole w m c l h pm pc pl ph ef ea eb eg =
    let em : field 12 8 w ≡ m = omega (arith, bits12-split w) in
    let ec : field 20 1 w ≡ c = omega (arith, bit20-split w) in
    let el : field 21 10 w ≡ l = omega (arith, bits21-split w) in
    let eh : field 31 1 w ≡ h = omega (arith, bit31-split w) in
    rw (em, ec, el, eh) refl

read_j : (o : ℕ) (row : Row) → fixed row ≡ by_opcode o → (d : ℕ) (imm : ℤ) (w : ℕ) → o < 2 ^ 7 → (is_register d && is_jump_offset imm) ≡ true → fixed_bits (fixed row) + j_operands d (imm_bits imm) ≡ w
    → (w < 2 ^ 32) × (row_of w ≡ Some row) × (d ≡ rd w) × (imm ≡ imm_j w)
read_j o row s d imm w po h e =
    let t = and_parts (ltb d 32) (is_jump_offset imm) h in
    let x = imm_bits imm in
    let pm : field 12 8 x < 2 ^ 8 = omega arith in
    let pc : field 11 1 x < 2 = omega arith in
    let pl : field 1 10 x < 2 ^ 10 = omega arith in
    let ph : field 20 1 x < 2 = omega arith in
    let p = j_parts w o d (field 12 8 x) (field 11 1 x) (field 1 10 x) (field 20 1 x) po (ltb-true d 32 t.0) pm pc pl ph (sym (ap (λ y. fixed_bits y + j_operands d x) s) ∙ e) in (
      p.small,
      row_by_opcode o row s w p.o_is,
      sym p.d_is,
      sym (jump_back imm t.1) ∙ ap (signed 21) (sym (jump_whole x (jump_even imm t.1)) ∙ sym (j_whole w _ _ _ _ pm pc pl ph p.f_is p.a_is p.b_is p.g_is)),
    )

-- ---- from the fields to the word's sum

rd_fits : (d w : ℕ) → d ≡ rd w → is_register d ≡ true
rd_fits d w e = lt-ltb d 32 (omega arith)

rs1_fits : (a w : ℕ) → a ≡ rs1 w → is_register a ≡ true
rs1_fits a w e = lt-ltb a 32 (omega arith)

rs2_fits : (b w : ℕ) → b ≡ rs2 w → is_register b ≡ true
rs2_fits b w e = lt-ltb b 32 (omega arith)

write_r : (o : ℕ) (row : Row) (s : HasFunct7 o row) (d a b w : ℕ) → w < 2 ^ 32 → row_of w ≡ Some row → d ≡ rd w → a ≡ rs1 w → b ≡ rs2 w
    → ((is_register d && is_register a && ltb b 32) ≡ true) × (fixed_bits (fixed row) + r_operands d a b ≡ w)
write_r o row s d a b w h r ed ea eb = (
  and_from _ _ (and_from _ _ (rd_fits d w ed) (rs1_fits a w ea)) (rs2_fits b w eb),
  r_sum w (fixed_bits (fixed row)) d a b h (base_by_funct7 o row s w r) ed ea eb,
)

write_imm : (o : ℕ) (row : Row) (s : HasFunct3 o row) (d a : ℕ) (imm : ℤ) (w : ℕ) → w < 2 ^ 32 → row_of w ≡ Some row → d ≡ rd w → a ≡ rs1 w → imm ≡ imm_i w
    → ((is_register d && is_register a && is_imm12 imm) ≡ true) × (fixed_bits (fixed row) + i_operands d a (imm_bits imm) ≡ w)
write_imm o row s d a imm w h r ed ea ei =
    let x = field 20 12 w in
    let small : x < 4096 = omega arith in
    let st = subst (Stands 2048 4096 x) (sym ei) (stands 2048 4096 x small) in (
      and_from _ _ (and_from _ _ (rd_fits d w ed) (rs1_fits a w ea)) (imm12_fits x imm st),
      i_sum w (fixed_bits (fixed row)) d a (field 0 12 (imm_bits imm)) h (base_by_funct3 o row s w r) ed ea (imm12_bits x imm st),
    )

write_s : (o : ℕ) (row : Row) (s : HasFunct3 o row) (a b : ℕ) (imm : ℤ) (w : ℕ) → w < 2 ^ 32 → row_of w ≡ Some row → a ≡ rs1 w → b ≡ rs2 w → imm ≡ imm_s w
    → ((is_register a && is_register b && is_imm12 imm) ≡ true) × (fixed_bits (fixed row) + s_operands a b (imm_bits imm) ≡ w)
write_s o row s a b imm w h r ea eb ei =
    let x = rd w + funct7 w * 2 ^ 5 in
    let small : x < 4096 = omega arith in
    let st = subst (Stands 2048 4096 x) (sym ei) (stands 2048 4096 x small) in
    let bits = imm12_bits x imm st in
    let l : field 0 5 x ≡ rd w = omega arith in
    let g : field 5 7 x ≡ funct7 w = omega arith in (
      and_from _ _ (and_from _ _ (rs1_fits a w ea) (rs2_fits b w eb)) (imm12_fits x imm st),
      s_sum w (fixed_bits (fixed row)) (field 0 5 (imm_bits imm)) a b (field 5 7 (imm_bits imm)) h (base_by_funct3 o row s w r) (store_low (imm_bits imm) x bits ∙ l) ea eb (store_high (imm_bits imm) x bits ∙ g),
    )

offset13_even : (l m c k : ℕ) → offset13 l m c k % 2 ≡ 0
offset13_even l m c k = omega arith

offset21_even : (l c m k : ℕ) → offset21 l c m k % 2 ≡ 0
offset21_even l c m k = omega arith

write_b : (o : ℕ) (row : Row) (s : HasFunct3 o row) (a b : ℕ) (imm : ℤ) (w : ℕ) → w < 2 ^ 32 → row_of w ≡ Some row → a ≡ rs1 w → b ≡ rs2 w → imm ≡ imm_b w
    → ((is_register a && is_register b && is_branch_offset imm) ≡ true) × (fixed_bits (fixed row) + b_operands a b (imm_bits imm) ≡ w)
write_b o row s a b imm w h r ea eb ei =
    let l = field 8 4 w in
    let m = field 25 6 w in
    let c = field 7 1 w in
    let k = field 31 1 w in
    let pl : l < 2 ^ 4 = omega arith in
    let pm : m < 2 ^ 6 = omega arith in
    let pc : c < 2 = omega arith in
    let pk : k < 2 = omega arith in
    let x = offset13 l m c k in
    let small : x < 8192 = omega arith in
    let even : x % 2 ≡ 0 = offset13_even l m c k in
    let st = subst (Stands 4096 8192 x) (sym ei) (stands 4096 8192 x small) in
    let p = imm_bits imm in
    let bits = branch_bits x imm st in (
      and_from _ _ (and_from _ _ (rs1_fits a w ea) (rs2_fits b w eb)) (branch_fits x imm st even),
      b_sum w (fixed_bits (fixed row)) a b (field 11 1 p) (field 1 4 p) (field 5 6 p) (field 12 1 p) h (base_by_funct3 o row s w r) ea eb
          (branch_11 p l m c k pl pm pc pk bits) (branch_low p l m c k pl pm pc pk bits) (branch_mid p l m c k pl pm pc pk bits) (branch_12 p l m c k pl pm pc pk bits),
    )

base_by_opcode : (o : ℕ) (row : Row) → fixed row ≡ by_opcode o → (w : ℕ) → row_of w ≡ Some row → fixed_bits (fixed row) ≡ opcode w
base_by_opcode o row s w r = ap fixed_bits s ∙ sym (eqb-true (opcode w) o (row_fits row (by_opcode o) w s r))

write_u : (o : ℕ) (row : Row) → fixed row ≡ by_opcode o → (d x w : ℕ) → w < 2 ^ 32 → row_of w ≡ Some row → d ≡ rd w → x ≡ imm_u w
    → ((is_register d && ltb x (2 ^ 20)) ≡ true) × (fixed_bits (fixed row) + u_operands d x ≡ w)
write_u o row s d x w h r ed ex =
    (and_from _ _ (rd_fits d w ed) (lt-ltb x 1048576 (omega arith)), u_sum w (fixed_bits (fixed row)) d x h (base_by_opcode o row s w r) ed ex)

write_j : (o : ℕ) (row : Row) → fixed row ≡ by_opcode o → (d : ℕ) (imm : ℤ) (w : ℕ) → w < 2 ^ 32 → row_of w ≡ Some row → d ≡ rd w → imm ≡ imm_j w
    → ((is_register d && is_jump_offset imm) ≡ true) × (fixed_bits (fixed row) + j_operands d (imm_bits imm) ≡ w)
write_j o row s d imm w h r ed ei =
    let l = field 21 10 w in
    let c = field 20 1 w in
    let m = field 12 8 w in
    let k = field 31 1 w in
    let pl : l < 2 ^ 10 = omega arith in
    let pc : c < 2 = omega arith in
    let pm : m < 2 ^ 8 = omega arith in
    let pk : k < 2 = omega arith in
    let x = offset21 l c m k in
    let small : x < 2097152 = omega arith in
    let even : x % 2 ≡ 0 = offset21_even l c m k in
    let st = subst (Stands 1048576 2097152 x) (sym ei) (stands 1048576 2097152 x small) in
    let p = imm_bits imm in
    let bits = jump_bits x imm st in (
      and_from _ _ (rd_fits d w ed) (jump_fits x imm st even),
      j_sum w (fixed_bits (fixed row)) d (field 12 8 p) (field 11 1 p) (field 1 10 p) (field 20 1 p) h (base_by_opcode o row s w r) ed
          (jump_mid p l c m k pl pc pm pk bits) (jump_11 p l c m k pl pc pm pk bits) (jump_low p l c m k pl pc pm pk bits) (jump_20 p l c m k pl pc pm pk bits),
    )

-- ---- the laws

-- the fields of the word are those of the instruction
abbrev HasFields : ℕ → Instr → Type 0
HasFields word (Lui d imm) = (d ≡ rd word) × (imm ≡ imm_u word)
HasFields word (Auipc d imm) = (d ≡ rd word) × (imm ≡ imm_u word)
HasFields word (Jal d imm) = (d ≡ rd word) × (imm ≡ imm_j word)
HasFields word (Jalr d a imm) = (d ≡ rd word) × (a ≡ rs1 word) × (imm ≡ imm_i word)
HasFields word (Branch op a b imm) = (a ≡ rs1 word) × (b ≡ rs2 word) × (imm ≡ imm_b word)
HasFields word (Load op d a imm) = (d ≡ rd word) × (a ≡ rs1 word) × (imm ≡ imm_i word)
HasFields word (Store op a b imm) = (a ≡ rs1 word) × (b ≡ rs2 word) × (imm ≡ imm_s word)
HasFields word (Imm op d a imm) = (d ≡ rd word) × (a ≡ rs1 word) × (imm ≡ imm_i word)
HasFields word (Shift op d a shamt) = (d ≡ rd word) × (a ≡ rs1 word) × (shamt ≡ rs2 word)
HasFields word (Reg op d a b) = (d ≡ rd word) × (a ≡ rs1 word) × (b ≡ rs2 word)
HasFields word (Multiply op d a b) = (d ≡ rd word) × (a ≡ rs1 word) × (b ≡ rs2 word)
HasFields word (Fence d a imm) = (d ≡ rd word) × (a ≡ rs1 word) × (imm ≡ upper12 word)
HasFields word Ecall = Unit {0}
HasFields word Ebreak = Unit {0}

-- the word's row and its fields are the instruction's
record IsInstruction (word : ℕ) (instr : Instr) : Type 0 where
  row : row_of word ≡ Some (instr_row instr)
  fields : HasFields word instr

jalr_fixes : HasFunct3 0b1100111 JALR
jalr_fixes = record { f = 0; small = lit< tt; is = refl }

fence_fixes : HasFunct3 0b0001111 FENCE
fence_fixes = record { f = 0; small = lit< tt; is = refl }

ecall_is : IsInstruction 115 Ecall
unfolding listed
ecall_is = record { row = refl; fields = tt }

ebreak_is : IsInstruction 1048691 Ebreak
unfolding listed
ebreak_is = record { row = refl; fields = tt }

write_word : (o r : ℕ) (row : Row) → fixed row ≡ by_word o r → (w : ℕ) → w < 2 ^ 32 → row_of w ≡ Some row → o + r * 2 ^ 7 ≡ w
write_word o r row s w h e =
    let t = and_parts (eqb (opcode w) o) (eqb (rest w) r) (row_fits row (by_word o r) w s e) in
    word_sum w o r (sym (eqb-true (opcode w) o t.0)) (sym (eqb-true (rest w) r t.1)) h

reads : (instr : Instr) (w : ℕ) → word_of instr ≡ Some w → (w < 2 ^ 32) × IsInstruction w instr
unfolding word_of
reads (Lui d imm) w h =
    let t = cond_some _ _ _ h in
    let p = read_u 0b0110111 LUI refl d imm w (lit< tt) t.0 t.1 in
    (p.0, record { row = p.1; fields = (p.2, p.3) })
reads (Auipc d imm) w h =
    let t = cond_some _ _ _ h in
    let p = read_u 0b0010111 AUIPC refl d imm w (lit< tt) t.0 t.1 in
    (p.0, record { row = p.1; fields = (p.2, p.3) })
reads (Jal d imm) w h =
    let t = cond_some _ _ _ h in
    let p = read_j 0b1101111 JAL refl d imm w (lit< tt) t.0 t.1 in
    (p.0, record { row = p.1; fields = (p.2, p.3) })
reads (Jalr d a imm) w h =
    let t = cond_some _ _ _ h in
    let p = read_imm 0b1100111 JALR jalr_fixes d a imm w (lit< tt) t.0 t.1 in
    (p.0, record { row = p.1; fields = (p.2, p.3, p.4) })
reads (Branch op a b imm) w h =
    let t = cond_some _ _ _ h in
    let p = read_b 0b1100011 (branch_row op) (branch_fixes op) a b imm w (lit< tt) t.0 t.1 in
    (p.0, record { row = p.1; fields = (p.2, p.3, p.4) })
reads (Load op d a imm) w h =
    let t = cond_some _ _ _ h in
    let p = read_imm 0b0000011 (load_row op) (load_fixes op) d a imm w (lit< tt) t.0 t.1 in
    (p.0, record { row = p.1; fields = (p.2, p.3, p.4) })
reads (Store op a b imm) w h =
    let t = cond_some _ _ _ h in
    let p = read_s 0b0100011 (store_row op) (store_fixes op) a b imm w (lit< tt) t.0 t.1 in
    (p.0, record { row = p.1; fields = (p.2, p.3, p.4) })
reads (Imm op d a imm) w h =
    let t = cond_some _ _ _ h in
    let p = read_imm 0b0010011 (imm_row op) (imm_fixes op) d a imm w (lit< tt) t.0 t.1 in
    (p.0, record { row = p.1; fields = (p.2, p.3, p.4) })
reads (Shift op d a shamt) w h =
    let t = cond_some _ _ _ h in
    let p = read_r 0b0010011 (shift_row op) (shift_fixes op) d a shamt w (lit< tt) t.0 t.1 in
    (p.0, record { row = p.1; fields = (p.2, p.3, p.4) })
reads (Reg op d a b) w h =
    let t = cond_some _ _ _ h in
    let p = read_r 0b0110011 (reg_row op) (reg_fixes op) d a b w (lit< tt) t.0 t.1 in
    (p.0, record { row = p.1; fields = (p.2, p.3, p.4) })
reads (Multiply op d a b) w h =
    let t = cond_some _ _ _ h in
    let p = read_r 0b0110011 (mul_row op) (mul_fixes op) d a b w (lit< tt) t.0 t.1 in
    (p.0, record { row = p.1; fields = (p.2, p.3, p.4) })
reads (Fence d a imm) w h =
    let t = cond_some _ _ _ h in
    let u = and_parts (is_register d && is_register a) (ltb imm 4096) t.0 in
    let small : imm < 4096 = ltb-true imm 4096 u.1 in
    let whole : field 0 12 imm ≡ imm = omega arith in
    let px : field 0 12 imm < 2 ^ 12 = omega arith in
    let p = read_i 0b0001111 FENCE fence_fixes d a (field 0 12 imm) w (lit< tt) u.0 px t.1 in
    (p.0, record { row = p.1; fields = (p.2, p.3, sym whole ∙ p.4) })
reads Ecall w h = subst (λ x. (x < 2 ^ 32) × IsInstruction x Ecall) (same_Some _ w h) (lit< tt, ecall_is)
reads Ebreak w h = subst (λ x. (x < 2 ^ 32) × IsInstruction x Ebreak) (same_Some _ w h) (lit< tt, ebreak_is)

given_some : (b : Bool) (x y : ℕ) → b ≡ true → x ≡ y → cond b (Some x) None ≡ Some y
given_some b x y e h = rw e (ap Some h)

writes : (instr : Instr) (w : ℕ) → w < 2 ^ 32 → IsInstruction w instr → word_of instr ≡ Some w
unfolding word_of
writes (Lui d imm) w h i =
    let p = write_u 0b0110111 LUI refl d imm w h i.row i.fields.0 i.fields.1 in
    given_some _ _ w p.0 p.1
writes (Auipc d imm) w h i =
    let p = write_u 0b0010111 AUIPC refl d imm w h i.row i.fields.0 i.fields.1 in
    given_some _ _ w p.0 p.1
writes (Jal d imm) w h i =
    let p = write_j 0b1101111 JAL refl d imm w h i.row i.fields.0 i.fields.1 in
    given_some _ _ w p.0 p.1
writes (Jalr d a imm) w h i =
    let p = write_imm 0b1100111 JALR jalr_fixes d a imm w h i.row i.fields.0 i.fields.1 i.fields.2 in
    given_some _ _ w p.0 p.1
writes (Branch op a b imm) w h i =
    let p = write_b 0b1100011 (branch_row op) (branch_fixes op) a b imm w h i.row i.fields.0 i.fields.1 i.fields.2 in
    given_some _ _ w p.0 p.1
writes (Load op d a imm) w h i =
    let p = write_imm 0b0000011 (load_row op) (load_fixes op) d a imm w h i.row i.fields.0 i.fields.1 i.fields.2 in
    given_some _ _ w p.0 p.1
writes (Store op a b imm) w h i =
    let p = write_s 0b0100011 (store_row op) (store_fixes op) a b imm w h i.row i.fields.0 i.fields.1 i.fields.2 in
    given_some _ _ w p.0 p.1
writes (Imm op d a imm) w h i =
    let p = write_imm 0b0010011 (imm_row op) (imm_fixes op) d a imm w h i.row i.fields.0 i.fields.1 i.fields.2 in
    given_some _ _ w p.0 p.1
writes (Shift op d a shamt) w h i =
    let p = write_r 0b0010011 (shift_row op) (shift_fixes op) d a shamt w h i.row i.fields.0 i.fields.1 i.fields.2 in
    given_some _ _ w p.0 p.1
writes (Reg op d a b) w h i =
    let p = write_r 0b0110011 (reg_row op) (reg_fixes op) d a b w h i.row i.fields.0 i.fields.1 i.fields.2 in
    given_some _ _ w p.0 p.1
writes (Multiply op d a b) w h i =
    let p = write_r 0b0110011 (mul_row op) (mul_fixes op) d a b w h i.row i.fields.0 i.fields.1 i.fields.2 in
    given_some _ _ w p.0 p.1
writes (Fence d a imm) w h i =
    let ed : d ≡ rd w = i.fields.0 in
    let ea : a ≡ rs1 w = i.fields.1 in
    let ei : imm ≡ upper12 w = i.fields.2 in
    given_some _ _ w
    (and_from _ _ (and_from _ _ (rd_fits d w ed) (rs1_fits a w ea)) (lt-ltb imm 4096 (omega arith)))
    (i_sum w (fixed_bits (fixed FENCE)) d a (field 0 12 imm) h (base_by_funct3 0b0001111 FENCE fence_fixes w i.row) ed ea (omega arith))
writes Ecall w h i = ap Some (write_word 0b1110011 0 ECALL refl w h i.row)
writes Ebreak w h i = ap Some (write_word 0b1110011 8192 EBREAK refl w h i.row)

-- ---- the instruction of a word

from_row : (w : ℕ) (i : Instr) → HasFields w i → i ≡ instr_in (instr_row i) w
from_row w (Lui d x) h = cc
from_row w (Auipc d x) h = cc
from_row w (Jal d x) h = cc
from_row w (Jalr d a x) h = cc
from_row w (Branch Beq a b x) h = cc
from_row w (Branch Bne a b x) h = cc
from_row w (Branch Blt a b x) h = cc
from_row w (Branch Bge a b x) h = cc
from_row w (Branch Bltu a b x) h = cc
from_row w (Branch Bgeu a b x) h = cc
from_row w (Load Lb d a x) h = cc
from_row w (Load Lh d a x) h = cc
from_row w (Load Lw d a x) h = cc
from_row w (Load Lbu d a x) h = cc
from_row w (Load Lhu d a x) h = cc
from_row w (Store Sb a b x) h = cc
from_row w (Store Sh a b x) h = cc
from_row w (Store Sw a b x) h = cc
from_row w (Imm Addi d a x) h = cc
from_row w (Imm Slti d a x) h = cc
from_row w (Imm Sltiu d a x) h = cc
from_row w (Imm Xori d a x) h = cc
from_row w (Imm Ori d a x) h = cc
from_row w (Imm Andi d a x) h = cc
from_row w (Shift Slli d a x) h = cc
from_row w (Shift Srli d a x) h = cc
from_row w (Shift Srai d a x) h = cc
from_row w (Reg Add d a b) h = cc
from_row w (Reg Sub d a b) h = cc
from_row w (Reg Sll d a b) h = cc
from_row w (Reg Slt d a b) h = cc
from_row w (Reg Sltu d a b) h = cc
from_row w (Reg Xor d a b) h = cc
from_row w (Reg Srl d a b) h = cc
from_row w (Reg Sra d a b) h = cc
from_row w (Reg Or d a b) h = cc
from_row w (Reg And d a b) h = cc
from_row w (Multiply Mul d a b) h = cc
from_row w (Multiply Mulh d a b) h = cc
from_row w (Multiply Mulhsu d a b) h = cc
from_row w (Multiply Mulhu d a b) h = cc
from_row w (Multiply Div d a b) h = cc
from_row w (Multiply Divu d a b) h = cc
from_row w (Multiply Rem d a b) h = cc
from_row w (Multiply Remu d a b) h = cc
from_row w (Fence d a x) h = cc
from_row w Ecall h = refl
from_row w Ebreak h = refl

in_row : (row : Row) (w : ℕ) → (instr_row (instr_in row w) ≡ row) × HasFields w (instr_in row w)
in_row LUI w = (refl, (refl, refl))
in_row AUIPC w = (refl, (refl, refl))
in_row JAL w = (refl, (refl, refl))
in_row JALR w = (refl, (refl, refl, refl))
in_row BEQ w = (refl, (refl, refl, refl))
in_row BNE w = (refl, (refl, refl, refl))
in_row BLT w = (refl, (refl, refl, refl))
in_row BGE w = (refl, (refl, refl, refl))
in_row BLTU w = (refl, (refl, refl, refl))
in_row BGEU w = (refl, (refl, refl, refl))
in_row LB w = (refl, (refl, refl, refl))
in_row LH w = (refl, (refl, refl, refl))
in_row LW w = (refl, (refl, refl, refl))
in_row LBU w = (refl, (refl, refl, refl))
in_row LHU w = (refl, (refl, refl, refl))
in_row SB w = (refl, (refl, refl, refl))
in_row SH w = (refl, (refl, refl, refl))
in_row SW w = (refl, (refl, refl, refl))
in_row ADDI w = (refl, (refl, refl, refl))
in_row SLTI w = (refl, (refl, refl, refl))
in_row SLTIU w = (refl, (refl, refl, refl))
in_row XORI w = (refl, (refl, refl, refl))
in_row ORI w = (refl, (refl, refl, refl))
in_row ANDI w = (refl, (refl, refl, refl))
in_row SLLI w = (refl, (refl, refl, refl))
in_row SRLI w = (refl, (refl, refl, refl))
in_row SRAI w = (refl, (refl, refl, refl))
in_row ADD w = (refl, (refl, refl, refl))
in_row SUB w = (refl, (refl, refl, refl))
in_row SLL w = (refl, (refl, refl, refl))
in_row SLT w = (refl, (refl, refl, refl))
in_row SLTU w = (refl, (refl, refl, refl))
in_row XOR w = (refl, (refl, refl, refl))
in_row SRL w = (refl, (refl, refl, refl))
in_row SRA w = (refl, (refl, refl, refl))
in_row OR w = (refl, (refl, refl, refl))
in_row AND w = (refl, (refl, refl, refl))
in_row FENCE w = (refl, (refl, refl, refl))
in_row ECALL w = (refl, tt)
in_row EBREAK w = (refl, tt)
in_row MUL w = (refl, (refl, refl, refl))
in_row MULH w = (refl, (refl, refl, refl))
in_row MULHSU w = (refl, (refl, refl, refl))
in_row MULHU w = (refl, (refl, refl, refl))
in_row DIV w = (refl, (refl, refl, refl))
in_row DIVU w = (refl, (refl, refl, refl))
in_row REM w = (refl, (refl, refl, refl))
in_row REMU w = (refl, (refl, refl, refl))

-- an instruction has a word's row and fields exactly where it is the word's

is_found : (w : ℕ) (i : Instr) → IsInstruction w i → instr_of w ≡ Some i
is_found w i h = sym (at_row w (instr_row i) h.row) ∙ ap Some (sym (from_row w i h.fields))

in_known_row : (w : ℕ) (row : Row) (i : Instr) → row_of w ≡ Some row → instr_in row w ≡ i → IsInstruction w i
in_known_row w row i r e =
    let p = in_row row w in
    subst (IsInstruction w) e (record { row = r ∙ ap Some (sym p.0); fields = p.1 })

found_in : (w : ℕ) (row : Option Row) (i : Instr) → row_of w ≡ row → option_map (λ r. instr_in r w) row ≡ Some i → IsInstruction w i
found_in w None i r e = absurd (none-some _ e)
found_in w (Some row) i r e = in_known_row w row i r (same_Some _ _ e)

found_is : (w : ℕ) (i : Instr) → instr_of w ≡ Some i → IsInstruction w i
unfolding instr_of
found_is w i h = found_in w (row_of w) i refl h

pub reads_word : (i : Instr) (w : ℕ) → word_of i ≡ Some w → (w < 2 ^ 32) × (instr_of w ≡ Some i)
reads_word i w h = let p = reads i w h in (p.0, is_found w i p.1)

pub writes_word : (i : Instr) (w : ℕ) → w < 2 ^ 32 → instr_of w ≡ Some i → word_of i ≡ Some w
writes_word i w small h = writes i w small (found_is w i h)

pub has_row : (i : Instr) (w : ℕ) → instr_of w ≡ Some i → row_of w ≡ Some (instr_row i)
has_row i w h = (found_is w i h).row

pub one_instruction : (i j : Instr) (w : ℕ) → word_of i ≡ Some w → word_of j ≡ Some w → i ≡ j
one_instruction i j w hi hj = same_Some i j (sym (reads_word i w hi).1 ∙ (reads_word j w hj).1)

pub row_is : (row : Row) (w : ℕ) → (row_of w ≡ Some row) ↔ IsTrue (has_fixed (fixed row) (opcode w) (funct3 w) (funct7 w) (rest w))
row_is row w = (listed_fits row (opcode w) (funct3 w) (funct7 w) (rest w), fits_listed row (opcode w) (funct3 w) (funct7 w) (rest w))

pub found_of : (w : ℕ) (r : Option Instr) → w < 2 ^ 32 → r ≡ instr_of w → IfSome r (λ instr. word_of instr ≡ Some w)
found_of w None h d = tt
found_of w (Some i) h d = writes_word i w h (sym d)

pub only_of : (w : ℕ) (r : Option Instr) → r ≡ instr_of w → (instr : Instr) → word_of instr ≡ Some w → r ≡ Some instr
only_of w r d i h = d ∙ (reads_word i w h).1

none_in : (w : ℕ) (row : Option Row) → row_of w ≡ row → option_map (λ r. instr_in r w) row ≡ None → row_of w ≡ None
none_in w None r e = r
none_in w (Some row) r e = absurd (none-some _ (sym e))

none_is : (w : ℕ) → instr_of w ≡ None → row_of w ≡ None
unfolding instr_of
none_is w h = none_in w (row_of w) refl h

is_none_of : (w : ℕ) → row_of w ≡ None → instr_of w ≡ None
unfolding instr_of
is_none_of w h = rw h refl

as_none : (r : Option Instr) → IsNone r → r ≡ None
as_none None h = refl
as_none (Some i) h = cc

none_as : (r : Option Instr) → r ≡ None → IsNone r
none_as None h = refl
none_as (Some i) h = absurd (none-some _ (sym h))

pub none_of : (w : ℕ) (r : Option Instr) → r ≡ instr_of w → IsNone r ↔ (row_of w ≡ None)
none_of w r d = (λ n. none_is w (sym d ∙ as_none r n), λ h. none_as r (d ∙ is_none_of w h))
