-- Pieces that are appended one after the other, and how long the names are.
use Rattle.std.proofs.Common.{◌≡◌, ℕ, ◌≤◌, List, ◌∷◌, [], ◌++◌, append_assoc, length, codes, lit≤}
use Rattle.rv_decode.specs.declared.instruction.BranchOp.{BranchOp}
use Rattle.rv_decode.specs.declared.instruction.BranchOp.TheVariants.{Beq, Bne, Blt, Bge, Bltu, Bgeu}
use Rattle.rv_decode.specs.declared.instruction.LoadOp.{LoadOp}
use Rattle.rv_decode.specs.declared.instruction.LoadOp.TheVariants.{Lb, Lh, Lw, Lbu, Lhu}
use Rattle.rv_decode.specs.declared.instruction.StoreOp.{StoreOp}
use Rattle.rv_decode.specs.declared.instruction.StoreOp.TheVariants.{Sb, Sh, Sw}
use Rattle.rv_decode.specs.declared.instruction.ImmOp.{ImmOp}
use Rattle.rv_decode.specs.declared.instruction.ImmOp.TheVariants.{Addi, Slti, Sltiu, Xori, Ori, Andi}
use Rattle.rv_decode.specs.declared.instruction.ShiftOp.{ShiftOp}
use Rattle.rv_decode.specs.declared.instruction.ShiftOp.TheVariants.{Slli, Srli, Srai}
use Rattle.rv_decode.specs.declared.instruction.RegOp.{RegOp}
use Rattle.rv_decode.specs.declared.instruction.RegOp.TheVariants.{Add, Sub, Sll, Slt, Sltu, Xor, Srl, Sra, Or, And}
use Rattle.rv_decode.specs.declared.instruction.MulOp.{MulOp}
use Rattle.rv_decode.specs.declared.instruction.MulOp.TheVariants.{Mul, Mulh, Mulhsu, Mulhu, Div, Divu, Rem, Remu}
use Rattle.rv_decode.specs.Names.{branch_name, load_name, store_name, imm_name, shift_name, reg_name, mul_name}
use Rattle.rv_asm.specs.Shown.{statement_text}

-- a statement of two operands, piece by piece
pub two_joined : (old name a b : List ℕ) → ((((old ++ name) ++ codes " ") ++ a) ++ codes ", ") ++ b ≡ old ++ statement_text name (a ∷ b ∷ [])
two_joined old name a b = simp append_assoc

-- and of three, behind what two of them begin with
pub three_joined : (old name a b c : List ℕ) → (old ++ (name ++ (codes " " ++ (a ++ (codes ", " ++ (b ++ codes ", ")))))) ++ c ≡ old ++ statement_text name (a ∷ b ∷ c ∷ [])
three_joined old name a b c = simp append_assoc

pub branch_short : (op : BranchOp) → length (branch_name op) ≤ 6
branch_short Beq = lit≤ tt
branch_short Bne = lit≤ tt
branch_short Blt = lit≤ tt
branch_short Bge = lit≤ tt
branch_short Bltu = lit≤ tt
branch_short Bgeu = lit≤ tt

pub load_short : (op : LoadOp) → length (load_name op) ≤ 6
load_short Lb = lit≤ tt
load_short Lh = lit≤ tt
load_short Lw = lit≤ tt
load_short Lbu = lit≤ tt
load_short Lhu = lit≤ tt

pub store_short : (op : StoreOp) → length (store_name op) ≤ 6
store_short Sb = lit≤ tt
store_short Sh = lit≤ tt
store_short Sw = lit≤ tt

pub imm_short : (op : ImmOp) → length (imm_name op) ≤ 6
imm_short Addi = lit≤ tt
imm_short Slti = lit≤ tt
imm_short Sltiu = lit≤ tt
imm_short Xori = lit≤ tt
imm_short Ori = lit≤ tt
imm_short Andi = lit≤ tt

pub shift_short : (op : ShiftOp) → length (shift_name op) ≤ 6
shift_short Slli = lit≤ tt
shift_short Srli = lit≤ tt
shift_short Srai = lit≤ tt

pub reg_short : (op : RegOp) → length (reg_name op) ≤ 6
reg_short Add = lit≤ tt
reg_short Sub = lit≤ tt
reg_short Sll = lit≤ tt
reg_short Slt = lit≤ tt
reg_short Sltu = lit≤ tt
reg_short Xor = lit≤ tt
reg_short Srl = lit≤ tt
reg_short Sra = lit≤ tt
reg_short Or = lit≤ tt
reg_short And = lit≤ tt

pub mul_short : (op : MulOp) → length (mul_name op) ≤ 6
mul_short Mul = lit≤ tt
mul_short Mulh = lit≤ tt
mul_short Mulhsu = lit≤ tt
mul_short Mulhu = lit≤ tt
mul_short Div = lit≤ tt
mul_short Divu = lit≤ tt
mul_short Rem = lit≤ tt
mul_short Remu = lit≤ tt
