-- A word has a row exactly where it has what the row fixes.
use Rattle.std.proofs.Common.{◌≡◌, ℕ, ◌<◌, ◌^◌, ◌&&◌, Bool, true, cond, eqb, inl, inr, List, [], ◌∷◌, Some, find, lit<, refl, sym, ap, ◌∙◌, subst}
use Rattle.std.proofs.lemmas.Bool.{and_parts, eqb-true, cases_Bool}
use Rattle.std.proofs.lemmas.Option.{same_Some}
use Rattle.rv_decode.specs.declared.instruction.BranchOp.{BranchOp}
use Rattle.rv_decode.specs.declared.instruction.BranchOp.TheVariants.{Beq, Bne, Blt, Bge, Bltu, Bgeu}
use Rattle.rv_decode.specs.declared.instruction.LoadOp.{LoadOp}
use Rattle.rv_decode.specs.declared.instruction.LoadOp.TheVariants.{Lb, Lh, Lw, Lbu, Lhu}
use Rattle.rv_decode.specs.declared.instruction.StoreOp.{StoreOp}
use Rattle.rv_decode.specs.declared.instruction.StoreOp.TheVariants.{Sb, Sh, Sw}
use Rattle.rv_decode.specs.declared.instruction.ImmOp.{ImmOp}
use Rattle.rv_decode.specs.declared.instruction.ImmOp.TheVariants.{Addi, Slti, Sltiu, Xori, Ori, Andi}
use Rattle.rv_decode.specs.declared.instruction.ShiftOp.{ShiftOp}
use Rattle.rv_decode.specs.declared.instruction.ShiftOp.TheVariants.{Slli, Srli, Srai}
use Rattle.rv_decode.specs.declared.instruction.RegOp.{RegOp}
use Rattle.rv_decode.specs.declared.instruction.RegOp.TheVariants.{Add, Sub, Sll, Slt, Sltu, Xor, Srl, Sra, Or, And}
use Rattle.rv_decode.specs.declared.instruction.MulOp.{MulOp}
use Rattle.rv_decode.specs.declared.instruction.MulOp.TheVariants.{Mul, Mulh, Mulhsu, Mulhu, Div, Divu, Rem, Remu}
use Rattle.rv_decode.specs.Table.{Row, LUI, AUIPC, JAL, JALR, BEQ, BNE, BLT, BGE, BLTU, BGEU, LB, LH, LW, LBU, LHU, SB, SH, SW, ADDI, SLTI, SLTIU, XORI, ORI, ANDI, SLLI, SRLI, SRAI, ADD, SUB, SLL, SLT, SLTU, XOR, SRL, SRA, OR, AND, FENCE, ECALL, EBREAK, MUL, MULH, MULHSU, MULHU, DIV, DIVU, REM, REMU, by_funct3, by_funct7, fixed, has_fixed, rows, listed}
use Rattle.rv_decode.specs.Words.{branch_row, load_row, store_row, imm_row, shift_row, reg_row, mul_row}

-- what a search finds passes the test
found_passes : {X : Type 0} (p : X → Bool) (xs : List X) (y : X) → find p xs ≡ Some y → p y ≡ true
found_passes p [] y h = cc
found_passes p (x ∷ xs) y h = elim (cases_Bool (p x)) [
  | inl e ↦ (let same : x ≡ y = same_Some x y (sym (ap (λ b. cond b (Some x) (find p xs)) e) ∙ h) in subst (λ z. p z ≡ true) same e)
  | inr e ↦ found_passes p xs y (sym (ap (λ b. cond b (Some x) (find p xs)) e) ∙ h)
]

pub listed_fits : (row : Row) (op f g r : ℕ) → listed op f g r ≡ Some row → has_fixed (fixed row) op f g r ≡ true
unfolding listed
listed_fits row op f g r h = found_passes (λ x. has_fixed (fixed x) op f g r) rows row h

-- where it is enough to look at the numbers that the row fixes

from_opcode : (o : ℕ) (row : Row) → ((f g r : ℕ) → listed o f g r ≡ Some row) → (op f g r : ℕ) → eqb op o ≡ true → listed op f g r ≡ Some row
from_opcode o row h op f g r e = subst (λ x. listed x f g r ≡ Some row) (sym (eqb-true op o e)) (h f g r)

from_funct3 : (o f : ℕ) (row : Row) → ((g r : ℕ) → listed o f g r ≡ Some row) → (op f3 g r : ℕ) → (eqb op o && eqb f3 f) ≡ true → listed op f3 g r ≡ Some row
from_funct3 o f row h op f3 g r e =
    let t = and_parts (eqb op o) (eqb f3 f) e in
    subst (λ x. listed x f3 g r ≡ Some row) (sym (eqb-true op o t.0)) (subst (λ x. listed o x g r ≡ Some row) (sym (eqb-true f3 f t.1)) (h g r))

from_funct7 : (o f g : ℕ) (row : Row) → ((r : ℕ) → listed o f g r ≡ Some row) → (op f3 f7 r : ℕ) → (eqb op o && eqb f3 f && eqb f7 g) ≡ true → listed op f3 f7 r ≡ Some row
from_funct7 o f g row h op f3 f7 r e =
    let t = and_parts (eqb op o && eqb f3 f) (eqb f7 g) e in
    let u = and_parts (eqb op o) (eqb f3 f) t.0 in
    subst (λ x. listed x f3 f7 r ≡ Some row) (sym (eqb-true op o u.0))
    (subst (λ x. listed o x f7 r ≡ Some row) (sym (eqb-true f3 f u.1)) (subst (λ x. listed o f x r ≡ Some row) (sym (eqb-true f7 g t.1)) (h r)))

from_word : (o w : ℕ) (row : Row) → ((f g : ℕ) → listed o f g w ≡ Some row) → (op f g r : ℕ) → (eqb op o && eqb r w) ≡ true → listed op f g r ≡ Some row
from_word o w row h op f g r e =
    let t = and_parts (eqb op o) (eqb r w) e in
    subst (λ x. listed x f g r ≡ Some row) (sym (eqb-true op o t.0)) (subst (λ x. listed o f g x ≡ Some row) (sym (eqb-true r w t.1)) (h f g))

pub fits_listed : (row : Row) (op f g r : ℕ) → has_fixed (fixed row) op f g r ≡ true → listed op f g r ≡ Some row
unfolding listed
fits_listed LUI = from_opcode 0b0110111 LUI (λ f g r. refl)
fits_listed AUIPC = from_opcode 0b0010111 AUIPC (λ f g r. refl)
fits_listed JAL = from_opcode 0b1101111 JAL (λ f g r. refl)
fits_listed JALR = from_funct3 0b1100111 0b000 JALR (λ g r. refl)
fits_listed BEQ = from_funct3 0b1100011 0b000 BEQ (λ g r. refl)
fits_listed BNE = from_funct3 0b1100011 0b001 BNE (λ g r. refl)
fits_listed BLT = from_funct3 0b1100011 0b100 BLT (λ g r. refl)
fits_listed BGE = from_funct3 0b1100011 0b101 BGE (λ g r. refl)
fits_listed BLTU = from_funct3 0b1100011 0b110 BLTU (λ g r. refl)
fits_listed BGEU = from_funct3 0b1100011 0b111 BGEU (λ g r. refl)
fits_listed LB = from_funct3 0b0000011 0b000 LB (λ g r. refl)
fits_listed LH = from_funct3 0b0000011 0b001 LH (λ g r. refl)
fits_listed LW = from_funct3 0b0000011 0b010 LW (λ g r. refl)
fits_listed LBU = from_funct3 0b0000011 0b100 LBU (λ g r. refl)
fits_listed LHU = from_funct3 0b0000011 0b101 LHU (λ g r. refl)
fits_listed SB = from_funct3 0b0100011 0b000 SB (λ g r. refl)
fits_listed SH = from_funct3 0b0100011 0b001 SH (λ g r. refl)
fits_listed SW = from_funct3 0b0100011 0b010 SW (λ g r. refl)
fits_listed ADDI = from_funct3 0b0010011 0b000 ADDI (λ g r. refl)
fits_listed SLTI = from_funct3 0b0010011 0b010 SLTI (λ g r. refl)
fits_listed SLTIU = from_funct3 0b0010011 0b011 SLTIU (λ g r. refl)
fits_listed XORI = from_funct3 0b0010011 0b100 XORI (λ g r. refl)
fits_listed ORI = from_funct3 0b0010011 0b110 ORI (λ g r. refl)
fits_listed ANDI = from_funct3 0b0010011 0b111 ANDI (λ g r. refl)
fits_listed SLLI = from_funct7 0b0010011 0b001 0b0000000 SLLI (λ r. refl)
fits_listed SRLI = from_funct7 0b0010011 0b101 0b0000000 SRLI (λ r. refl)
fits_listed SRAI = from_funct7 0b0010011 0b101 0b0100000 SRAI (λ r. refl)
fits_listed ADD = from_funct7 0b0110011 0b000 0b0000000 ADD (λ r. refl)
fits_listed SUB = from_funct7 0b0110011 0b000 0b0100000 SUB (λ r. refl)
fits_listed SLL = from_funct7 0b0110011 0b001 0b0000000 SLL (λ r. refl)
fits_listed SLT = from_funct7 0b0110011 0b010 0b0000000 SLT (λ r. refl)
fits_listed SLTU = from_funct7 0b0110011 0b011 0b0000000 SLTU (λ r. refl)
fits_listed XOR = from_funct7 0b0110011 0b100 0b0000000 XOR (λ r. refl)
fits_listed SRL = from_funct7 0b0110011 0b101 0b0000000 SRL (λ r. refl)
fits_listed SRA = from_funct7 0b0110011 0b101 0b0100000 SRA (λ r. refl)
fits_listed OR = from_funct7 0b0110011 0b110 0b0000000 OR (λ r. refl)
fits_listed AND = from_funct7 0b0110011 0b111 0b0000000 AND (λ r. refl)
fits_listed FENCE = from_funct3 0b0001111 0b000 FENCE (λ g r. refl)
fits_listed ECALL = from_word 0b1110011 0b000000000000_00000_000_00000 ECALL (λ f g. refl)
fits_listed EBREAK = from_word 0b1110011 0b000000000001_00000_000_00000 EBREAK (λ f g. refl)
fits_listed MUL = from_funct7 0b0110011 0b000 0b0000001 MUL (λ r. refl)
fits_listed MULH = from_funct7 0b0110011 0b001 0b0000001 MULH (λ r. refl)
fits_listed MULHSU = from_funct7 0b0110011 0b010 0b0000001 MULHSU (λ r. refl)
fits_listed MULHU = from_funct7 0b0110011 0b011 0b0000001 MULHU (λ r. refl)
fits_listed DIV = from_funct7 0b0110011 0b100 0b0000001 DIV (λ r. refl)
fits_listed DIVU = from_funct7 0b0110011 0b101 0b0000001 DIVU (λ r. refl)
fits_listed REM = from_funct7 0b0110011 0b110 0b0000001 REM (λ r. refl)
fits_listed REMU = from_funct7 0b0110011 0b111 0b0000001 REMU (λ r. refl)

-- what the rows of the operations fix

pub record HasFunct3 (o : ℕ) (row : Row) : Type 0 where
  pub f : ℕ
  pub small : f < 2 ^ 3
  pub is : fixed row ≡ by_funct3 o f

pub record HasFunct7 (o : ℕ) (row : Row) : Type 0 where
  pub f : ℕ
  pub g : ℕ
  pub small : f < 2 ^ 3
  pub small7 : g < 2 ^ 7
  pub is : fixed row ≡ by_funct7 o f g

pub branch_fixes : (op : BranchOp) → HasFunct3 0b1100011 (branch_row op)
branch_fixes Beq = record { f = 0b000; small = lit< tt; is = refl }
branch_fixes Bne = record { f = 0b001; small = lit< tt; is = refl }
branch_fixes Blt = record { f = 0b100; small = lit< tt; is = refl }
branch_fixes Bge = record { f = 0b101; small = lit< tt; is = refl }
branch_fixes Bltu = record { f = 0b110; small = lit< tt; is = refl }
branch_fixes Bgeu = record { f = 0b111; small = lit< tt; is = refl }

pub load_fixes : (op : LoadOp) → HasFunct3 0b0000011 (load_row op)
load_fixes Lb = record { f = 0b000; small = lit< tt; is = refl }
load_fixes Lh = record { f = 0b001; small = lit< tt; is = refl }
load_fixes Lw = record { f = 0b010; small = lit< tt; is = refl }
load_fixes Lbu = record { f = 0b100; small = lit< tt; is = refl }
load_fixes Lhu = record { f = 0b101; small = lit< tt; is = refl }

pub store_fixes : (op : StoreOp) → HasFunct3 0b0100011 (store_row op)
store_fixes Sb = record { f = 0b000; small = lit< tt; is = refl }
store_fixes Sh = record { f = 0b001; small = lit< tt; is = refl }
store_fixes Sw = record { f = 0b010; small = lit< tt; is = refl }

pub imm_fixes : (op : ImmOp) → HasFunct3 0b0010011 (imm_row op)
imm_fixes Addi = record { f = 0b000; small = lit< tt; is = refl }
imm_fixes Slti = record { f = 0b010; small = lit< tt; is = refl }
imm_fixes Sltiu = record { f = 0b011; small = lit< tt; is = refl }
imm_fixes Xori = record { f = 0b100; small = lit< tt; is = refl }
imm_fixes Ori = record { f = 0b110; small = lit< tt; is = refl }
imm_fixes Andi = record { f = 0b111; small = lit< tt; is = refl }

pub shift_fixes : (op : ShiftOp) → HasFunct7 0b0010011 (shift_row op)
shift_fixes Slli = record { f = 0b001; g = 0b0000000; small = lit< tt; small7 = lit< tt; is = refl }
shift_fixes Srli = record { f = 0b101; g = 0b0000000; small = lit< tt; small7 = lit< tt; is = refl }
shift_fixes Srai = record { f = 0b101; g = 0b0100000; small = lit< tt; small7 = lit< tt; is = refl }

pub reg_fixes : (op : RegOp) → HasFunct7 0b0110011 (reg_row op)
reg_fixes Add = record { f = 0b000; g = 0b0000000; small = lit< tt; small7 = lit< tt; is = refl }
reg_fixes Sub = record { f = 0b000; g = 0b0100000; small = lit< tt; small7 = lit< tt; is = refl }
reg_fixes Sll = record { f = 0b001; g = 0b0000000; small = lit< tt; small7 = lit< tt; is = refl }
reg_fixes Slt = record { f = 0b010; g = 0b0000000; small = lit< tt; small7 = lit< tt; is = refl }
reg_fixes Sltu = record { f = 0b011; g = 0b0000000; small = lit< tt; small7 = lit< tt; is = refl }
reg_fixes Xor = record { f = 0b100; g = 0b0000000; small = lit< tt; small7 = lit< tt; is = refl }
reg_fixes Srl = record { f = 0b101; g = 0b0000000; small = lit< tt; small7 = lit< tt; is = refl }
reg_fixes Sra = record { f = 0b101; g = 0b0100000; small = lit< tt; small7 = lit< tt; is = refl }
reg_fixes Or = record { f = 0b110; g = 0b0000000; small = lit< tt; small7 = lit< tt; is = refl }
reg_fixes And = record { f = 0b111; g = 0b0000000; small = lit< tt; small7 = lit< tt; is = refl }

pub mul_fixes : (op : MulOp) → HasFunct7 0b0110011 (mul_row op)
mul_fixes Mul = record { f = 0b000; g = 0b0000001; small = lit< tt; small7 = lit< tt; is = refl }
mul_fixes Mulh = record { f = 0b001; g = 0b0000001; small = lit< tt; small7 = lit< tt; is = refl }
mul_fixes Mulhsu = record { f = 0b010; g = 0b0000001; small = lit< tt; small7 = lit< tt; is = refl }
mul_fixes Mulhu = record { f = 0b011; g = 0b0000001; small = lit< tt; small7 = lit< tt; is = refl }
mul_fixes Div = record { f = 0b100; g = 0b0000001; small = lit< tt; small7 = lit< tt; is = refl }
mul_fixes Divu = record { f = 0b101; g = 0b0000001; small = lit< tt; small7 = lit< tt; is = refl }
mul_fixes Rem = record { f = 0b110; g = 0b0000001; small = lit< tt; small7 = lit< tt; is = refl }
mul_fixes Remu = record { f = 0b111; g = 0b0000001; small = lit< tt; small7 = lit< tt; is = refl }
