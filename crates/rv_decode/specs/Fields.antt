-- The fields of an instruction word of 32 bits: RISC-V Unprivileged ISA, chapter RV32I, sections "Base
-- Instruction Formats" and "Immediate Encoding Variants".
use Rattle.std.specs.Prelude.{ℕ, ◌+◌, ◌-◌, ◌*◌, ◌/◌, ◌%◌, ◌^◌, ℤ, pos, ◌-ℤ◌, nat_lt, if◌then◌else◌}

-- the `count` bits of a number from bit `low` on
abbrev pub field : ℕ → ℕ → ℕ → ℕ
field low count word = word / 2 ^ low % 2 ^ count

abbrev pub opcode : ℕ → ℕ
opcode word = field 0 7 word

abbrev pub rd : ℕ → ℕ
rd word = field 7 5 word

abbrev pub funct3 : ℕ → ℕ
funct3 word = field 12 3 word

abbrev pub rs1 : ℕ → ℕ
rs1 word = field 15 5 word

abbrev pub rs2 : ℕ → ℕ
rs2 word = field 20 5 word

abbrev pub funct7 : ℕ → ℕ
funct7 word = field 25 7 word

-- the 25 bits above the opcode
abbrev pub rest : ℕ → ℕ
rest word = field 7 25 word

-- the number that `count` bits stand for in two's complement
abbrev pub signed : ℕ → ℕ → ℤ
signed count bits = if nat_lt bits (2 ^ (count - 1)) then pos bits else pos bits -ℤ pos (2 ^ count)

-- the upper 12 bits, unsigned, as FENCE has them (fm, predecessors, successors)
abbrev pub upper12 : ℕ → ℕ
upper12 word = field 20 12 word

-- imm[11:0] from bits 31..20
abbrev pub imm_i : ℕ → ℤ
imm_i word = signed 12 (field 20 12 word)

-- imm[4:0] from bits 11..7, imm[11:5] from bits 31..25
abbrev pub imm_s : ℕ → ℤ
imm_s word = signed 12 (field 7 5 word + field 25 7 word * 2 ^ 5)

-- imm[4:1] from bits 11..8, imm[10:5] from bits 30..25, imm[11] from bit 7, imm[12] from bit 31; imm[0] is 0
abbrev pub imm_b : ℕ → ℤ
imm_b word = signed 13 (field 8 4 word * 2 + field 25 6 word * 2 ^ 5 + field 7 1 word * 2 ^ 11 + field 31 1 word * 2 ^ 12)

-- imm[31:12] from bits 31..12, as the field of 20 bits
abbrev pub imm_u : ℕ → ℕ
imm_u word = field 12 20 word

-- imm[10:1] from bits 30..21, imm[11] from bit 20, imm[19:12] from bits 19..12, imm[20] from bit 31; imm[0] is 0
abbrev pub imm_j : ℕ → ℤ
imm_j word = signed 21 (field 21 10 word * 2 + field 20 1 word * 2 ^ 11 + field 12 8 word * 2 ^ 12 + field 31 1 word * 2 ^ 20)
