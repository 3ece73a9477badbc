-- The listing of RV32IM: RISC-V Unprivileged ISA, chapter "RV32/64G Instruction Set Listings", tables "RV32I Base
-- Instruction Set" and "RV32M Standard Extension". It stands on the numeric fields of a word alone.
use Rattle.std.specs.Prelude.{ℕ, Bool, ◌&&◌, ◌==◌, List, [], ◌∷◌, Option}
use Rattle.std.specs.List.{find}
use Rattle.rv_decode.specs.Fields.{opcode, funct3, funct7, rest}

-- the rows, by the manual's names
pub data Row : Type 0 where
  LUI : Row
  AUIPC : Row
  JAL : Row
  JALR : Row
  BEQ : Row
  BNE : Row
  BLT : Row
  BGE : Row
  BLTU : Row
  BGEU : Row
  LB : Row
  LH : Row
  LW : Row
  LBU : Row
  LHU : Row
  SB : Row
  SH : Row
  SW : Row
  ADDI : Row
  SLTI : Row
  SLTIU : Row
  XORI : Row
  ORI : Row
  ANDI : Row
  SLLI : Row
  SRLI : Row
  SRAI : Row
  ADD : Row
  SUB : Row
  SLL : Row
  SLT : Row
  SLTU : Row
  XOR : Row
  SRL : Row
  SRA : Row
  OR : Row
  AND : Row
  FENCE : Row
  ECALL : Row
  EBREAK : Row
  MUL : Row
  MULH : Row
  MULHSU : Row
  MULHU : Row
  DIV : Row
  DIVU : Row
  REM : Row
  REMU : Row

-- what a row fixes: its opcode, and where the listing gives them its funct3 and funct7; or the whole word, as its
-- opcode and the bits above it
pub data Fixed : Type 0 where
  by_opcode : ℕ → Fixed
  by_funct3 : ℕ → ℕ → Fixed
  by_funct7 : ℕ → ℕ → ℕ → Fixed
  by_word : ℕ → ℕ → Fixed

abbrev pub fixed : Row → Fixed
fixed LUI = by_opcode 0b0110111
fixed AUIPC = by_opcode 0b0010111
fixed JAL = by_opcode 0b1101111
fixed JALR = by_funct3 0b1100111 0b000
fixed BEQ = by_funct3 0b1100011 0b000
fixed BNE = by_funct3 0b1100011 0b001
fixed BLT = by_funct3 0b1100011 0b100
fixed BGE = by_funct3 0b1100011 0b101
fixed BLTU = by_funct3 0b1100011 0b110
fixed BGEU = by_funct3 0b1100011 0b111
fixed LB = by_funct3 0b0000011 0b000
fixed LH = by_funct3 0b0000011 0b001
fixed LW = by_funct3 0b0000011 0b010
fixed LBU = by_funct3 0b0000011 0b100
fixed LHU = by_funct3 0b0000011 0b101
fixed SB = by_funct3 0b0100011 0b000
fixed SH = by_funct3 0b0100011 0b001
fixed SW = by_funct3 0b0100011 0b010
fixed ADDI = by_funct3 0b0010011 0b000
fixed SLTI = by_funct3 0b0010011 0b010
fixed SLTIU = by_funct3 0b0010011 0b011
fixed XORI = by_funct3 0b0010011 0b100
fixed ORI = by_funct3 0b0010011 0b110
fixed ANDI = by_funct3 0b0010011 0b111
fixed SLLI = by_funct7 0b0010011 0b001 0b0000000
fixed SRLI = by_funct7 0b0010011 0b101 0b0000000
fixed SRAI = by_funct7 0b0010011 0b101 0b0100000
fixed ADD = by_funct7 0b0110011 0b000 0b0000000
fixed SUB = by_funct7 0b0110011 0b000 0b0100000
fixed SLL = by_funct7 0b0110011 0b001 0b0000000
fixed SLT = by_funct7 0b0110011 0b010 0b0000000
fixed SLTU = by_funct7 0b0110011 0b011 0b0000000
fixed XOR = by_funct7 0b0110011 0b100 0b0000000
fixed SRL = by_funct7 0b0110011 0b101 0b0000000
fixed SRA = by_funct7 0b0110011 0b101 0b0100000
fixed OR = by_funct7 0b0110011 0b110 0b0000000
fixed AND = by_funct7 0b0110011 0b111 0b0000000
fixed FENCE = by_funct3 0b0001111 0b000
fixed ECALL = by_word 0b1110011 0b000000000000_00000_000_00000
fixed EBREAK = by_word 0b1110011 0b000000000001_00000_000_00000
fixed MUL = by_funct7 0b0110011 0b000 0b0000001
fixed MULH = by_funct7 0b0110011 0b001 0b0000001
fixed MULHSU = by_funct7 0b0110011 0b010 0b0000001
fixed MULHU = by_funct7 0b0110011 0b011 0b0000001
fixed DIV = by_funct7 0b0110011 0b100 0b0000001
fixed DIVU = by_funct7 0b0110011 0b101 0b0000001
fixed REM = by_funct7 0b0110011 0b110 0b0000001
fixed REMU = by_funct7 0b0110011 0b111 0b0000001

-- whether a word with these fields has what a row fixes
abbrev pub has_fixed : Fixed → ℕ → ℕ → ℕ → ℕ → Bool
has_fixed (by_opcode o) op f3 f7 rest = op == o
has_fixed (by_funct3 o f) op f3 f7 rest = (op == o) && (f3 == f)
has_fixed (by_funct7 o f g) op f3 f7 rest = (op == o) && (f3 == f) && (f7 == g)
has_fixed (by_word o r) op f3 f7 rest = (op == o) && (rest == r)

abbrev pub rows : List Row
rows =
    LUI ∷ AUIPC ∷ JAL ∷ JALR
    ∷ BEQ ∷ BNE ∷ BLT ∷ BGE ∷ BLTU ∷ BGEU
    ∷ LB ∷ LH ∷ LW ∷ LBU ∷ LHU ∷ SB ∷ SH ∷ SW
    ∷ ADDI ∷ SLTI ∷ SLTIU ∷ XORI ∷ ORI ∷ ANDI ∷ SLLI ∷ SRLI ∷ SRAI
    ∷ ADD ∷ SUB ∷ SLL ∷ SLT ∷ SLTU ∷ XOR ∷ SRL ∷ SRA ∷ OR ∷ AND
    ∷ FENCE ∷ ECALL ∷ EBREAK
    ∷ MUL ∷ MULH ∷ MULHSU ∷ MULHU ∷ DIV ∷ DIVU ∷ REM ∷ REMU ∷ []

-- the row that a word with these fields fits
unfoldable pub listed : ℕ → ℕ → ℕ → ℕ → Option Row
listed op f3 f7 rest = find (λ row. has_fixed (fixed row) op f3 f7 rest) rows

-- the row that a word fits, if there is one
abbrev pub row_of : ℕ → Option Row
row_of word = listed (opcode word) (funct3 word) (funct7 word) (rest word)
