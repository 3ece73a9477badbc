-- The word of each instruction, and the instruction of each word.
use Rattle.std.specs.Prelude.{ℕ, ◌+◌, ◌*◌, ◌%◌, ◌^◌, ℤ, pos, neg_ℤ, Bool, true, ◌&&◌, ◌==◌, nat_lt, int_le, unsigned_abs, if◌then◌else◌, Option, Some, None, option_map}
use Rattle.std.specs.Int.{w32, cast_unsigned}
use Rattle.rv_decode.specs.declared.instruction.Instr.{Instr}
use Rattle.rv_decode.specs.declared.instruction.Instr.TheVariants.{Lui, Auipc, Jal, Jalr, Branch, Load, Store, Imm, Shift, Reg, Mul as Multiply, Fence, Ecall, Ebreak}
use Rattle.rv_decode.specs.declared.instruction.BranchOp.{BranchOp}
use Rattle.rv_decode.specs.declared.instruction.BranchOp.TheVariants.{Beq, Bne, Blt, Bge, Bltu, Bgeu}
use Rattle.rv_decode.specs.declared.instruction.LoadOp.{LoadOp}
use Rattle.rv_decode.specs.declared.instruction.LoadOp.TheVariants.{Lb, Lh, Lw, Lbu, Lhu}
use Rattle.rv_decode.specs.declared.instruction.StoreOp.{StoreOp}
use Rattle.rv_decode.specs.declared.instruction.StoreOp.TheVariants.{Sb, Sh, Sw}
use Rattle.rv_decode.specs.declared.instruction.ImmOp.{ImmOp}
use Rattle.rv_decode.specs.declared.instruction.ImmOp.TheVariants.{Addi, Slti, Sltiu, Xori, Ori, Andi}
use Rattle.rv_decode.specs.declared.instruction.ShiftOp.{ShiftOp}
use Rattle.rv_decode.specs.declared.instruction.ShiftOp.TheVariants.{Slli, Srli, Srai}
use Rattle.rv_decode.specs.declared.instruction.RegOp.{RegOp}
use Rattle.rv_decode.specs.declared.instruction.RegOp.TheVariants.{Add, Sub, Sll, Slt, Sltu, Xor, Srl, Sra, Or, And}
use Rattle.rv_decode.specs.declared.instruction.MulOp.{MulOp}
use Rattle.rv_decode.specs.declared.instruction.MulOp.TheVariants.{Mul, Mulh, Mulhsu, Mulhu, Div, Divu, Rem, Remu}
use Rattle.rv_decode.specs.Fields.{field, rd, rs1, rs2, upper12, imm_i, imm_s, imm_b, imm_u, imm_j}
use Rattle.rv_decode.specs.Table.{Row, LUI, AUIPC, JAL, JALR, BEQ, BNE, BLT, BGE, BLTU, BGEU, LB, LH, LW, LBU, LHU, SB, SH, SW, ADDI, SLTI, SLTIU, XORI, ORI, ANDI, SLLI, SRLI, SRAI, ADD, SUB, SLL, SLT, SLTU, XOR, SRL, SRA, OR, AND, FENCE, ECALL, EBREAK, MUL, MULH, MULHSU, MULHU, DIV, DIVU, REM, REMU, Fixed, by_opcode, by_funct3, by_funct7, by_word, fixed, row_of}

-- ---- the row of each instruction

abbrev pub branch_row : BranchOp → Row
branch_row Beq = BEQ
branch_row Bne = BNE
branch_row Blt = BLT
branch_row Bge = BGE
branch_row Bltu = BLTU
branch_row Bgeu = BGEU

abbrev pub load_row : LoadOp → Row
load_row Lb = LB
load_row Lh = LH
load_row Lw = LW
load_row Lbu = LBU
load_row Lhu = LHU

abbrev pub store_row : StoreOp → Row
store_row Sb = SB
store_row Sh = SH
store_row Sw = SW

abbrev pub imm_row : ImmOp → Row
imm_row Addi = ADDI
imm_row Slti = SLTI
imm_row Sltiu = SLTIU
imm_row Xori = XORI
imm_row Ori = ORI
imm_row Andi = ANDI

abbrev pub shift_row : ShiftOp → Row
shift_row Slli = SLLI
shift_row Srli = SRLI
shift_row Srai = SRAI

abbrev pub reg_row : RegOp → Row
reg_row Add = ADD
reg_row Sub = SUB
reg_row Sll = SLL
reg_row Slt = SLT
reg_row Sltu = SLTU
reg_row Xor = XOR
reg_row Srl = SRL
reg_row Sra = SRA
reg_row Or = OR
reg_row And = AND

abbrev pub mul_row : MulOp → Row
mul_row Mul = MUL
mul_row Mulh = MULH
mul_row Mulhsu = MULHSU
mul_row Mulhu = MULHU
mul_row Div = DIV
mul_row Divu = DIVU
mul_row Rem = REM
mul_row Remu = REMU

abbrev pub instr_row : Instr → Row
instr_row (Lui d imm) = LUI
instr_row (Auipc d imm) = AUIPC
instr_row (Jal d imm) = JAL
instr_row (Jalr d a imm) = JALR
instr_row (Branch op a b imm) = branch_row op
instr_row (Load op d a imm) = load_row op
instr_row (Store op a b imm) = store_row op
instr_row (Imm op d a imm) = imm_row op
instr_row (Shift op d a shamt) = shift_row op
instr_row (Reg op d a b) = reg_row op
instr_row (Multiply op d a b) = mul_row op
instr_row (Fence d a imm) = FENCE
instr_row Ecall = ECALL
instr_row Ebreak = EBREAK

-- ---- from an instruction to its word

abbrev pub is_register : ℕ → Bool
is_register r = nat_lt r 32

-- low <= z <= high
abbrev pub is_from : ℤ → ℤ → ℤ → Bool
is_from low high z = int_le low z && int_le z high

abbrev pub is_even : ℤ → Bool
is_even z = unsigned_abs z % 2 == 0

-- an immediate of 12 bits
abbrev pub is_imm12 : ℤ → Bool
is_imm12 z = is_from (neg_ℤ (pos 2048)) (pos 2047) z

-- a branch's offset: even, of 13 bits
abbrev pub is_branch_offset : ℤ → Bool
is_branch_offset z = is_from (neg_ℤ (pos 4096)) (pos 4094) z && is_even z

-- a jump's offset: even, of 21 bits
abbrev pub is_jump_offset : ℤ → Bool
is_jump_offset z = is_from (neg_ℤ (pos 1048576)) (pos 1048574) z && is_even z

-- whether each field is in its range
abbrev pub fields_fit : Instr → Bool
fields_fit (Lui d imm) = is_register d && nat_lt imm (2 ^ 20)
fields_fit (Auipc d imm) = is_register d && nat_lt imm (2 ^ 20)
fields_fit (Jal d imm) = is_register d && is_jump_offset imm
fields_fit (Jalr d a imm) = is_register d && is_register a && is_imm12 imm
fields_fit (Branch op a b imm) = is_register a && is_register b && is_branch_offset imm
fields_fit (Load op d a imm) = is_register d && is_register a && is_imm12 imm
fields_fit (Store op a b imm) = is_register a && is_register b && is_imm12 imm
fields_fit (Imm op d a imm) = is_register d && is_register a && is_imm12 imm
fields_fit (Shift op d a shamt) = is_register d && is_register a && nat_lt shamt 32
fields_fit (Reg op d a b) = is_register d && is_register a && is_register b
fields_fit (Multiply op d a b) = is_register d && is_register a && is_register b
fields_fit (Fence d a imm) = is_register d && is_register a && nat_lt imm (2 ^ 12)
fields_fit Ecall = true
fields_fit Ebreak = true

-- what a row fixes, at its place in the word
abbrev pub fixed_bits : Fixed → ℕ
fixed_bits (by_opcode o) = o
fixed_bits (by_funct3 o f) = o + f * 2 ^ 12
fixed_bits (by_funct7 o f g) = o + f * 2 ^ 12 + g * 2 ^ 25
fixed_bits (by_word o r) = o + r * 2 ^ 7

-- the bits of an immediate, imm[31:0], in two's complement
abbrev pub imm_bits : ℤ → ℕ
imm_bits imm = cast_unsigned w32 imm

-- The operands of each format at their places: RV32I, "Base Instruction Formats". In the formats with an
-- immediate, `field low count` takes imm[low + count - 1 : low].

abbrev pub r_operands : ℕ → ℕ → ℕ → ℕ
r_operands d a b = d * 2 ^ 7 + a * 2 ^ 15 + b * 2 ^ 20

abbrev pub i_operands : ℕ → ℕ → ℕ → ℕ
i_operands d a imm = d * 2 ^ 7 + a * 2 ^ 15 + field 0 12 imm * 2 ^ 20

abbrev pub s_operands : ℕ → ℕ → ℕ → ℕ
s_operands a b imm = field 0 5 imm * 2 ^ 7 + a * 2 ^ 15 + b * 2 ^ 20 + field 5 7 imm * 2 ^ 25

abbrev pub b_operands : ℕ → ℕ → ℕ → ℕ
b_operands a b imm = field 11 1 imm * 2 ^ 7 + field 1 4 imm * 2 ^ 8 + a * 2 ^ 15 + b * 2 ^ 20 + field 5 6 imm * 2 ^ 25 + field 12 1 imm * 2 ^ 31

abbrev pub u_operands : ℕ → ℕ → ℕ
u_operands d imm = d * 2 ^ 7 + imm * 2 ^ 12

abbrev pub j_operands : ℕ → ℕ → ℕ
j_operands d imm = d * 2 ^ 7 + field 12 8 imm * 2 ^ 12 + field 11 1 imm * 2 ^ 20 + field 1 10 imm * 2 ^ 21 + field 20 1 imm * 2 ^ 31

abbrev pub operands : Instr → ℕ
operands (Lui d imm) = u_operands d imm
operands (Auipc d imm) = u_operands d imm
operands (Jal d imm) = j_operands d (imm_bits imm)
operands (Jalr d a imm) = i_operands d a (imm_bits imm)
operands (Branch op a b imm) = b_operands a b (imm_bits imm)
operands (Load op d a imm) = i_operands d a (imm_bits imm)
operands (Store op a b imm) = s_operands a b (imm_bits imm)
operands (Imm op d a imm) = i_operands d a (imm_bits imm)
operands (Shift op d a shamt) = r_operands d a shamt
operands (Reg op d a b) = r_operands d a b
operands (Multiply op d a b) = r_operands d a b
operands (Fence d a imm) = i_operands d a imm
operands Ecall = 0
operands Ebreak = 0

-- the word of an instruction, exactly where each field is in its range
unfoldable pub word_of : Instr → Option ℕ
word_of instr = if fields_fit instr then Some (fixed_bits (fixed (instr_row instr)) + operands instr) else None

-- ---- from a word to its instruction

-- the instruction of a row, with the fields of a word
abbrev pub instr_in : Row → ℕ → Instr
instr_in LUI word = Lui (rd word) (imm_u word)
instr_in AUIPC word = Auipc (rd word) (imm_u word)
instr_in JAL word = Jal (rd word) (imm_j word)
instr_in JALR word = Jalr (rd word) (rs1 word) (imm_i word)
instr_in BEQ word = Branch Beq (rs1 word) (rs2 word) (imm_b word)
instr_in BNE word = Branch Bne (rs1 word) (rs2 word) (imm_b word)
instr_in BLT word = Branch Blt (rs1 word) (rs2 word) (imm_b word)
instr_in BGE word = Branch Bge (rs1 word) (rs2 word) (imm_b word)
instr_in BLTU word = Branch Bltu (rs1 word) (rs2 word) (imm_b word)
instr_in BGEU word = Branch Bgeu (rs1 word) (rs2 word) (imm_b word)
instr_in LB word = Load Lb (rd word) (rs1 word) (imm_i word)
instr_in LH word = Load Lh (rd word) (rs1 word) (imm_i word)
instr_in LW word = Load Lw (rd word) (rs1 word) (imm_i word)
instr_in LBU word = Load Lbu (rd word) (rs1 word) (imm_i word)
instr_in LHU word = Load Lhu (rd word) (rs1 word) (imm_i word)
instr_in SB word = Store Sb (rs1 word) (rs2 word) (imm_s word)
instr_in SH word = Store Sh (rs1 word) (rs2 word) (imm_s word)
instr_in SW word = Store Sw (rs1 word) (rs2 word) (imm_s word)
instr_in ADDI word = Imm Addi (rd word) (rs1 word) (imm_i word)
instr_in SLTI word = Imm Slti (rd word) (rs1 word) (imm_i word)
instr_in SLTIU word = Imm Sltiu (rd word) (rs1 word) (imm_i word)
instr_in XORI word = Imm Xori (rd word) (rs1 word) (imm_i word)
instr_in ORI word = Imm Ori (rd word) (rs1 word) (imm_i word)
instr_in ANDI word = Imm Andi (rd word) (rs1 word) (imm_i word)
instr_in SLLI word = Shift Slli (rd word) (rs1 word) (rs2 word)
instr_in SRLI word = Shift Srli (rd word) (rs1 word) (rs2 word)
instr_in SRAI word = Shift Srai (rd word) (rs1 word) (rs2 word)
instr_in ADD word = Reg Add (rd word) (rs1 word) (rs2 word)
instr_in SUB word = Reg Sub (rd word) (rs1 word) (rs2 word)
instr_in SLL word = Reg Sll (rd word) (rs1 word) (rs2 word)
instr_in SLT word = Reg Slt (rd word) (rs1 word) (rs2 word)
instr_in SLTU word = Reg Sltu (rd word) (rs1 word) (rs2 word)
instr_in XOR word = Reg Xor (rd word) (rs1 word) (rs2 word)
instr_in SRL word = Reg Srl (rd word) (rs1 word) (rs2 word)
instr_in SRA word = Reg Sra (rd word) (rs1 word) (rs2 word)
instr_in OR word = Reg Or (rd word) (rs1 word) (rs2 word)
instr_in AND word = Reg And (rd word) (rs1 word) (rs2 word)
instr_in FENCE word = Fence (rd word) (rs1 word) (upper12 word)
instr_in ECALL word = Ecall
instr_in EBREAK word = Ebreak
instr_in MUL word = Multiply Mul (rd word) (rs1 word) (rs2 word)
instr_in MULH word = Multiply Mulh (rd word) (rs1 word) (rs2 word)
instr_in MULHSU word = Multiply Mulhsu (rd word) (rs1 word) (rs2 word)
instr_in MULHU word = Multiply Mulhu (rd word) (rs1 word) (rs2 word)
instr_in DIV word = Multiply Div (rd word) (rs1 word) (rs2 word)
instr_in DIVU word = Multiply Divu (rd word) (rs1 word) (rs2 word)
instr_in REM word = Multiply Rem (rd word) (rs1 word) (rs2 word)
instr_in REMU word = Multiply Remu (rd word) (rs1 word) (rs2 word)

-- the instruction of a word: its row's, with its fields; None where no row fits the word
unfoldable pub instr_of : ℕ → Option Instr
instr_of word = option_map (λ row. instr_in row word) (row_of word)
