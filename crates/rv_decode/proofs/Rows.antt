-- The row and the instruction of a word whose opcode is known.
use Rattle.std.proofs.Common.{◌≡◌, ◌≢◌, ℕ, Some, None, eqb, false, refl, ap, sym, ◌∙◌, arith}
use Rattle.std.proofs.lemmas.Bool.Decides.{nat_tests}
use Rattle.rv_decode.specs.declared.instruction.Instr.TheVariants.{Lui, Auipc, Jal, Jalr, Branch, Load, Store, Imm, Shift, Reg, Mul as Multiply, Fence, Ecall, Ebreak}
use Rattle.rv_decode.specs.declared.instruction.BranchOp.{BranchOp}
use Rattle.rv_decode.specs.declared.instruction.BranchOp.TheVariants.{Beq, Bne, Blt, Bge, Bltu, Bgeu}
use Rattle.rv_decode.specs.declared.instruction.LoadOp.{LoadOp}
use Rattle.rv_decode.specs.declared.instruction.LoadOp.TheVariants.{Lb, Lh, Lw, Lbu, Lhu}
use Rattle.rv_decode.specs.declared.instruction.StoreOp.{StoreOp}
use Rattle.rv_decode.specs.declared.instruction.StoreOp.TheVariants.{Sb, Sh, Sw}
use Rattle.rv_decode.specs.declared.instruction.ImmOp.{ImmOp}
use Rattle.rv_decode.specs.declared.instruction.ImmOp.TheVariants.{Addi, Slti, Sltiu, Xori, Ori, Andi}
use Rattle.rv_decode.specs.declared.instruction.ShiftOp.{ShiftOp}
use Rattle.rv_decode.specs.declared.instruction.ShiftOp.TheVariants.{Slli, Srli, Srai}
use Rattle.rv_decode.specs.declared.instruction.RegOp.{RegOp}
use Rattle.rv_decode.specs.declared.instruction.RegOp.TheVariants.{Add, Sub, Sll, Slt, Sltu, Xor, Srl, Sra, Or, And}
use Rattle.rv_decode.specs.declared.instruction.MulOp.{MulOp}
use Rattle.rv_decode.specs.declared.instruction.MulOp.TheVariants.{Mul, Mulh, Mulhsu, Mulhu, Div, Divu, Rem, Remu}
use Rattle.rv_decode.specs.Fields.{opcode, rd, funct3, rs1, rs2, funct7, rest, upper12, imm_i, imm_s, imm_b, imm_u, imm_j}
use Rattle.rv_decode.specs.Table.{Row, LUI, AUIPC, JAL, JALR, FENCE, ECALL, EBREAK, listed, row_of}
use Rattle.rv_decode.specs.Words.{branch_row, load_row, store_row, imm_row, shift_row, reg_row, mul_row, instr_in, instr_of}

pub of_jalr : (word : ℕ) → opcode word ≡ 0b1100111 → row_of word ≡ listed 0b1100111 (funct3 word) 0 0
unfolding listed
of_jalr word e = rw e refl

pub of_branch : (word : ℕ) → opcode word ≡ 0b1100011 → row_of word ≡ listed 0b1100011 (funct3 word) 0 0
unfolding listed
of_branch word e = rw e refl

pub of_load : (word : ℕ) → opcode word ≡ 0b0000011 → row_of word ≡ listed 0b0000011 (funct3 word) 0 0
unfolding listed
of_load word e = rw e refl

pub of_store : (word : ℕ) → opcode word ≡ 0b0100011 → row_of word ≡ listed 0b0100011 (funct3 word) 0 0
unfolding listed
of_store word e = rw e refl

pub of_immediate : (word : ℕ) → opcode word ≡ 0b0010011 → row_of word ≡ listed 0b0010011 (funct3 word) (funct7 word) 0
unfolding listed
of_immediate word e = rw e refl

pub of_register : (word : ℕ) → opcode word ≡ 0b0110011 → row_of word ≡ listed 0b0110011 (funct3 word) (funct7 word) 0
unfolding listed
of_register word e = rw e refl

pub of_fence : (word : ℕ) → opcode word ≡ 0b0001111 → row_of word ≡ listed 0b0001111 (funct3 word) 0 0
unfolding listed
of_fence word e = rw e refl

pub of_system : (word : ℕ) → opcode word ≡ 0b1110011 → row_of word ≡ listed 0b1110011 0 0 (rest word)
unfolding listed
of_system word e = rw e refl

eqb_not : (a b : ℕ) → a ≢ b → eqb a b ≡ false
eqb_not a b n = grind (arith, nat_tests)

-- no other opcode has a row
of_other : (op f3 f7 rest : ℕ) → op ≢ 0b0110111 → op ≢ 0b0010111 → op ≢ 0b1101111 → op ≢ 0b1100111 → op ≢ 0b1100011 → op ≢ 0b0000011 → op ≢ 0b0100011 → op ≢ 0b0010011 → op ≢ 0b0110011 → op ≢ 0b0001111 → op ≢ 0b1110011 → listed op f3 f7 rest ≡ None
unfolding listed
of_other op f3 f7 rest a b c d e f g h i j k =
    rw (eqb_not _ _ a, eqb_not _ _ b, eqb_not _ _ c, eqb_not _ _ d, eqb_not _ _ e, eqb_not _ _ f, eqb_not _ _ g, eqb_not _ _ h, eqb_not _ _ i, eqb_not _ _ j, eqb_not _ _ k) refl

-- ---- the instruction of a word whose row is known

pub at_row : (word : ℕ) (row : Row) → row_of word ≡ Some row → Some (instr_in row word) ≡ instr_of word
unfolding instr_of
at_row word row h = rw h refl

pub at_none : (word : ℕ) → row_of word ≡ None → None ≡ instr_of word
unfolding instr_of
at_none word h = rw h refl

branch_in : (op : BranchOp) (word : ℕ) → instr_in (branch_row op) word ≡ Branch op (rs1 word) (rs2 word) (imm_b word)
branch_in Beq word = refl
branch_in Bne word = refl
branch_in Blt word = refl
branch_in Bge word = refl
branch_in Bltu word = refl
branch_in Bgeu word = refl

pub branch_at : (word : ℕ) (op : BranchOp) → row_of word ≡ Some (branch_row op) → Some (Branch op (rs1 word) (rs2 word) (imm_b word)) ≡ instr_of word
branch_at word op h = ap Some (sym (branch_in op word)) ∙ at_row word (branch_row op) h

load_in : (op : LoadOp) (word : ℕ) → instr_in (load_row op) word ≡ Load op (rd word) (rs1 word) (imm_i word)
load_in Lb word = refl
load_in Lh word = refl
load_in Lw word = refl
load_in Lbu word = refl
load_in Lhu word = refl

pub load_at : (word : ℕ) (op : LoadOp) → row_of word ≡ Some (load_row op) → Some (Load op (rd word) (rs1 word) (imm_i word)) ≡ instr_of word
load_at word op h = ap Some (sym (load_in op word)) ∙ at_row word (load_row op) h

store_in : (op : StoreOp) (word : ℕ) → instr_in (store_row op) word ≡ Store op (rs1 word) (rs2 word) (imm_s word)
store_in Sb word = refl
store_in Sh word = refl
store_in Sw word = refl

pub store_at : (word : ℕ) (op : StoreOp) → row_of word ≡ Some (store_row op) → Some (Store op (rs1 word) (rs2 word) (imm_s word)) ≡ instr_of word
store_at word op h = ap Some (sym (store_in op word)) ∙ at_row word (store_row op) h

imm_in : (op : ImmOp) (word : ℕ) → instr_in (imm_row op) word ≡ Imm op (rd word) (rs1 word) (imm_i word)
imm_in Addi word = refl
imm_in Slti word = refl
imm_in Sltiu word = refl
imm_in Xori word = refl
imm_in Ori word = refl
imm_in Andi word = refl

pub imm_at : (word : ℕ) (op : ImmOp) → row_of word ≡ Some (imm_row op) → Some (Imm op (rd word) (rs1 word) (imm_i word)) ≡ instr_of word
imm_at word op h = ap Some (sym (imm_in op word)) ∙ at_row word (imm_row op) h

shift_in : (op : ShiftOp) (word : ℕ) → instr_in (shift_row op) word ≡ Shift op (rd word) (rs1 word) (rs2 word)
shift_in Slli word = refl
shift_in Srli word = refl
shift_in Srai word = refl

pub shift_at : (word : ℕ) (op : ShiftOp) → row_of word ≡ Some (shift_row op) → Some (Shift op (rd word) (rs1 word) (rs2 word)) ≡ instr_of word
shift_at word op h = ap Some (sym (shift_in op word)) ∙ at_row word (shift_row op) h

reg_in : (op : RegOp) (word : ℕ) → instr_in (reg_row op) word ≡ Reg op (rd word) (rs1 word) (rs2 word)
reg_in Add word = refl
reg_in Sub word = refl
reg_in Sll word = refl
reg_in Slt word = refl
reg_in Sltu word = refl
reg_in Xor word = refl
reg_in Srl word = refl
reg_in Sra word = refl
reg_in Or word = refl
reg_in And word = refl

pub reg_at : (word : ℕ) (op : RegOp) → row_of word ≡ Some (reg_row op) → Some (Reg op (rd word) (rs1 word) (rs2 word)) ≡ instr_of word
reg_at word op h = ap Some (sym (reg_in op word)) ∙ at_row word (reg_row op) h

mul_in : (op : MulOp) (word : ℕ) → instr_in (mul_row op) word ≡ Multiply op (rd word) (rs1 word) (rs2 word)
mul_in Mul word = refl
mul_in Mulh word = refl
mul_in Mulhsu word = refl
mul_in Mulhu word = refl
mul_in Div word = refl
mul_in Divu word = refl
mul_in Rem word = refl
mul_in Remu word = refl

pub mul_at : (word : ℕ) (op : MulOp) → row_of word ≡ Some (mul_row op) → Some (Multiply op (rd word) (rs1 word) (rs2 word)) ≡ instr_of word
mul_at word op h = ap Some (sym (mul_in op word)) ∙ at_row word (mul_row op) h

-- ---- the opcodes of few rows

pub of_lui : (word : ℕ) → opcode word ≡ 0b0110111 → instr_of word ≡ Some (Lui (rd word) (imm_u word))
unfolding listed
of_lui word e = sym (at_row word LUI (rw e refl))

pub of_auipc : (word : ℕ) → opcode word ≡ 0b0010111 → instr_of word ≡ Some (Auipc (rd word) (imm_u word))
unfolding listed
of_auipc word e = sym (at_row word AUIPC (rw e refl))

pub of_jal : (word : ℕ) → opcode word ≡ 0b1101111 → instr_of word ≡ Some (Jal (rd word) (imm_j word))
unfolding listed
of_jal word e = sym (at_row word JAL (rw e refl))

pub of_jalr_0 : (word : ℕ) → opcode word ≡ 0b1100111 → funct3 word ≡ 0 → instr_of word ≡ Some (Jalr (rd word) (rs1 word) (imm_i word))
unfolding listed
of_jalr_0 word e h = sym (at_row word JALR (of_jalr word e ∙ ap (λ f. listed 0b1100111 f 0 0) h))

pub of_jalr_other : (word : ℕ) → opcode word ≡ 0b1100111 → funct3 word ≢ 0 → instr_of word ≡ None
unfolding listed
of_jalr_other word e n = sym (at_none word (of_jalr word e ∙ rw (eqb_not _ _ n) refl))

pub of_fence_0 : (word : ℕ) → opcode word ≡ 0b0001111 → funct3 word ≡ 0 → instr_of word ≡ Some (Fence (rd word) (rs1 word) (upper12 word))
unfolding listed
of_fence_0 word e h = sym (at_row word FENCE (of_fence word e ∙ ap (λ f. listed 0b0001111 f 0 0) h))

pub of_fence_other : (word : ℕ) → opcode word ≡ 0b0001111 → funct3 word ≢ 0 → instr_of word ≡ None
unfolding listed
of_fence_other word e n = sym (at_none word (of_fence word e ∙ rw (eqb_not _ _ n) refl))

pub of_ecall : (word : ℕ) → opcode word ≡ 0b1110011 → rest word ≡ 0 → instr_of word ≡ Some Ecall
unfolding listed
of_ecall word e h = sym (at_row word ECALL (of_system word e ∙ ap (λ r. listed 0b1110011 0 0 r) h))

pub of_ebreak : (word : ℕ) → opcode word ≡ 0b1110011 → rest word ≡ 0b000000000001_00000_000_00000 → instr_of word ≡ Some Ebreak
unfolding listed
of_ebreak word e h = sym (at_row word EBREAK (of_system word e ∙ ap (λ r. listed 0b1110011 0 0 r) h))

pub of_system_other : (word : ℕ) → opcode word ≡ 0b1110011 → rest word ≢ 0 → rest word ≢ 0b000000000001_00000_000_00000 → instr_of word ≡ None
unfolding listed
of_system_other word e n m = sym (at_none word (of_system word e ∙ rw (eqb_not _ _ n, eqb_not _ _ m) refl))

-- no other opcode has an instruction
pub no_instr : (word : ℕ) → opcode word ≢ 0b0110111 → opcode word ≢ 0b0010111 → opcode word ≢ 0b1101111 → opcode word ≢ 0b1100111 → opcode word ≢ 0b1100011 → opcode word ≢ 0b0000011 → opcode word ≢ 0b0100011 → opcode word ≢ 0b0010011 → opcode word ≢ 0b0110011 → opcode word ≢ 0b0001111 → opcode word ≢ 0b1110011 → instr_of word ≡ None
no_instr word a b c d e f g h i j k =
    sym (at_none word (of_other (opcode word) (funct3 word) (funct7 word) (rest word) a b c d e f g h i j k))

pub ruleset jalr_rows = (of_jalr_0, of_jalr_other)

pub ruleset fence_rows = (of_fence_0, of_fence_other)

pub ruleset system_rows = (of_ecall, of_ebreak, of_system_other)
