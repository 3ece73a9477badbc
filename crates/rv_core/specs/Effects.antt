-- What each word of RV32IM does: RISC-V Unprivileged ISA, chapters "RV32I Base Integer Instruction Set" and "M
-- Standard Extension for Integer Multiplication and Division". One clause for each row of the manual's listing, on the
-- word's numeric fields. `x` is the list of the 32 registers, of which
-- x0 is 0, and `pc` the address of the word.
use Rattle.std.specs.Prelude.{ℕ, ◌+◌, ◌-◌, ◌*◌, ◌/◌, ◌%◌, ◌^◌, ℤ, pos, ◌*ℤ◌, int_div, int_rem, Bool, true, false, not, ◌==◌, nat_le, nat_lt, int_le, int_lt, bit_and, bit_or, bit_xor, if◌then◌else◌, List, slice_index, slice_set, Option, Some, None}
use Rattle.std.specs.Int.{w32, w64, cast_signed, cast_unsigned, int_shr}
use Rattle.history.specs.declared.events.Width.{Width}
use Rattle.history.specs.declared.events.Width.TheVariants.{Byte, Half, Word}
use Rattle.history.specs.Layout.{width_bytes}
use Rattle.rv_decode.specs.Fields.{rd, rs1, rs2, signed, imm_i, imm_s, imm_b, imm_u, imm_j}
use Rattle.rv_decode.specs.Table.{Row, LUI, AUIPC, JAL, JALR, BEQ, BNE, BLT, BGE, BLTU, BGEU, LB, LH, LW, LBU, LHU, SB, SH, SW, ADDI, SLTI, SLTIU, XORI, ORI, ANDI, SLLI, SRLI, SRAI, ADD, SUB, SLL, SLT, SLTU, XOR, SRL, SRA, OR, AND, FENCE, ECALL, EBREAK, MUL, MULH, MULHSU, MULHU, DIV, DIVU, REM, REMU, row_of}
use Rattle.rv_core.specs.declared.waits.TrapKind.{TrapKind}
use Rattle.rv_core.specs.declared.waits.TrapKind.TheVariants.{Illegal, FetchAccess, FetchMisaligned, LoadAccess, LoadMisaligned, StoreAccess, StoreMisaligned, Breakpoint, UnknownCall}
use Rattle.rv_core.specs.declared.waits.Effect.{Effect}
use Rattle.rv_core.specs.declared.waits.Effect.TheVariants.{Writes, Goes, Loads, Stores, Calls, Traps}

-- the trap's number in what is printed
abbrev pub trap_code : TrapKind → ℕ
trap_code Illegal = 1
trap_code FetchAccess = 2
trap_code FetchMisaligned = 3
trap_code LoadAccess = 4
trap_code LoadMisaligned = 5
trap_code StoreAccess = 6
trap_code StoreMisaligned = 7
trap_code Breakpoint = 8
trap_code UnknownCall = 9

-- ---- numbers of 32 bits

-- a + b and a - b; overflow is ignored
abbrev pub sum : ℕ → ℕ → ℕ
sum a b = (a + b) % 2 ^ 32

abbrev pub difference : ℕ → ℕ → ℕ
difference a b = (a + (2 ^ 32 - b)) % 2 ^ 32

-- a number's 32 bits in two's complement, and the number that 32 bits stand for
abbrev pub bits_of : ℤ → ℕ
bits_of z = cast_unsigned w32 z

abbrev pub signed_of : ℕ → ℤ
signed_of a = cast_signed w32 a

-- the shifts by so many bits: to the left, to the right with zeros, to the right with the sign
abbrev pub shifted_left : ℕ → ℕ → ℕ
shifted_left a by = (a * 2 ^ by) % 2 ^ 32

abbrev pub shifted_right : ℕ → ℕ → ℕ
shifted_right a by = a / 2 ^ by

abbrev pub shifted_right_signed : ℕ → ℕ → ℕ
shifted_right_signed a by = bits_of (int_shr (signed_of a) by)

-- the comparisons of two's complement numbers
abbrev pub is_less_signed : ℕ → ℕ → Bool
is_less_signed a b = int_lt (signed_of a) (signed_of b)

abbrev pub is_at_most_signed : ℕ → ℕ → Bool
is_at_most_signed a b = int_le (signed_of a) (signed_of b)

-- a * b, its lowest 32 bits
abbrev pub product : ℕ → ℕ → ℕ
product a b = (a * b) % 2 ^ 32

-- the upper 32 of the 64 bits of a product
abbrev pub upper_bits : ℤ → ℕ
upper_bits z = cast_unsigned w64 z / 2 ^ 32

-- the quotients, rounded towards zero; a quotient by zero has all bits set. The signed one of -2^31 by -1 is 2^31, whose
-- bits are those of -2^31.
abbrev pub quotient : ℕ → ℕ → ℕ
quotient a b = if b == 0 then 2 ^ 32 - 1 else a / b

abbrev pub quotient_signed : ℕ → ℕ → ℕ
quotient_signed a b = if b == 0 then 2 ^ 32 - 1 else bits_of (int_div (signed_of a) (signed_of b))

-- the remainders of these quotients, of which the signed one has the dividend's sign; by zero they are the dividend
abbrev pub remainder : ℕ → ℕ → ℕ
remainder a b = if b == 0 then a else a % b

abbrev pub remainder_signed : ℕ → ℕ → ℕ
remainder_signed a b = if b == 0 then a else bits_of (int_rem (signed_of a) (signed_of b))

-- 1 where the test holds, else 0
abbrev pub one_if : Bool → ℕ
one_if test = if test then 1 else 0

-- a value of this width in a register: its highest bit fills the rest, or zeros do
abbrev pub extended : Bool → Width → ℕ → ℕ
extended true width value = bits_of (signed (8 * width_bytes width) value)
extended false width value = value

-- ---- registers and pc

-- the registers after a write; a write to x0 does nothing
abbrev pub with_register : ℕ → ℕ → List ℕ → List ℕ
with_register d value x = if d == 0 then x else slice_set x d value

-- the address of the word after this one
abbrev pub next : ℕ → ℕ
next pc = sum pc 4

-- the values of the registers rs1 and rs2
abbrev pub rs1_value : ℕ → List ℕ → ℕ
rs1_value word x = slice_index x (rs1 word)

abbrev pub rs2_value : ℕ → List ℕ → ℕ
rs2_value word x = slice_index x (rs2 word)

-- rd becomes the value, and the next word follows
abbrev pub puts : ℕ → ℕ → ℕ → Effect
puts word pc value = Writes (rd word) value (next pc)

-- a jump to this address, with pc + 4 in rd; the target of a jump is divisible by 4, or the jump traps
abbrev pub jump_effect : ℕ → ℕ → ℕ → Effect
jump_effect d pc target = if target % 4 == 0 then Writes d (next pc) target else Traps FetchMisaligned

-- a branch to this address, if it is taken; one that isn't taken never traps
abbrev pub branch_effect : Bool → ℕ → ℕ → Effect
branch_effect taken pc target =
    if taken then (if target % 4 == 0 then Goes target else Traps FetchMisaligned) else Goes (next pc)

-- a branch by the word's offset
abbrev pub branch_by_offset : Bool → ℕ → ℕ → Effect
branch_by_offset taken word pc = branch_effect taken pc (sum pc (bits_of (imm_b word)))

-- a load from rs1 + imm for rd
abbrev pub load_effect : Width → Bool → ℕ → List ℕ → Effect
load_effect width is_signed word x = Loads width is_signed (sum (rs1_value word x) (bits_of (imm_i word))) (rd word)

-- a store of the lowest bytes of rs2 at rs1 + imm
abbrev pub store_effect : Width → ℕ → List ℕ → Effect
store_effect width word x =
    Stores width (sum (rs1_value word x) (bits_of (imm_s word))) (rs2_value word x % 256 ^ width_bytes width)

-- ---- the rows

abbrev pub row_effect : Row → ℕ → List ℕ → ℕ → Effect
-- "Integer Register-Immediate Instructions"
row_effect LUI word x pc = puts word pc (imm_u word * 2 ^ 12)
row_effect AUIPC word x pc = puts word pc (sum pc (imm_u word * 2 ^ 12))
-- "Unconditional Jumps"; JALR clears bit 0 of its target
row_effect JAL word x pc = jump_effect (rd word) pc (sum pc (bits_of (imm_j word)))
row_effect JALR word x pc = jump_effect (rd word) pc (sum (rs1_value word x) (bits_of (imm_i word)) / 2 * 2)
-- "Conditional Branches"
row_effect BEQ word x pc = branch_by_offset (rs1_value word x == rs2_value word x) word pc
row_effect BNE word x pc = branch_by_offset (not (rs1_value word x == rs2_value word x)) word pc
row_effect BLT word x pc = branch_by_offset (is_less_signed (rs1_value word x) (rs2_value word x)) word pc
row_effect BGE word x pc = branch_by_offset (is_at_most_signed (rs2_value word x) (rs1_value word x)) word pc
row_effect BLTU word x pc = branch_by_offset (nat_lt (rs1_value word x) (rs2_value word x)) word pc
row_effect BGEU word x pc = branch_by_offset (nat_le (rs2_value word x) (rs1_value word x)) word pc
-- "Load and Store Instructions"
row_effect LB word x pc = load_effect Byte true word x
row_effect LH word x pc = load_effect Half true word x
row_effect LW word x pc = load_effect Word false word x
row_effect LBU word x pc = load_effect Byte false word x
row_effect LHU word x pc = load_effect Half false word x
row_effect SB word x pc = store_effect Byte word x
row_effect SH word x pc = store_effect Half word x
row_effect SW word x pc = store_effect Word word x
-- "Integer Register-Immediate Instructions"
row_effect ADDI word x pc = puts word pc (sum (rs1_value word x) (bits_of (imm_i word)))
row_effect SLTI word x pc = puts word pc (one_if (int_lt (signed_of (rs1_value word x)) (imm_i word)))
row_effect SLTIU word x pc = puts word pc (one_if (nat_lt (rs1_value word x) (bits_of (imm_i word))))
row_effect XORI word x pc = puts word pc (bit_xor (rs1_value word x) (bits_of (imm_i word)))
row_effect ORI word x pc = puts word pc (bit_or (rs1_value word x) (bits_of (imm_i word)))
row_effect ANDI word x pc = puts word pc (bit_and (rs1_value word x) (bits_of (imm_i word)))
row_effect SLLI word x pc = puts word pc (shifted_left (rs1_value word x) (rs2 word))
row_effect SRLI word x pc = puts word pc (shifted_right (rs1_value word x) (rs2 word))
row_effect SRAI word x pc = puts word pc (shifted_right_signed (rs1_value word x) (rs2 word))
-- "Integer Register-Register Operations"; a shift is by the low 5 bits of rs2
row_effect ADD word x pc = puts word pc (sum (rs1_value word x) (rs2_value word x))
row_effect SUB word x pc = puts word pc (difference (rs1_value word x) (rs2_value word x))
row_effect SLL word x pc = puts word pc (shifted_left (rs1_value word x) (rs2_value word x % 2 ^ 5))
row_effect SLT word x pc = puts word pc (one_if (is_less_signed (rs1_value word x) (rs2_value word x)))
row_effect SLTU word x pc = puts word pc (one_if (nat_lt (rs1_value word x) (rs2_value word x)))
row_effect XOR word x pc = puts word pc (bit_xor (rs1_value word x) (rs2_value word x))
row_effect SRL word x pc = puts word pc (shifted_right (rs1_value word x) (rs2_value word x % 2 ^ 5))
row_effect SRA word x pc = puts word pc (shifted_right_signed (rs1_value word x) (rs2_value word x % 2 ^ 5))
row_effect OR word x pc = puts word pc (bit_or (rs1_value word x) (rs2_value word x))
row_effect AND word x pc = puts word pc (bit_and (rs1_value word x) (rs2_value word x))
-- "Memory Ordering Instructions": one core sees its own accesses in their order
row_effect FENCE word x pc = Goes (next pc)
-- "Environment Call and Breakpoints"
row_effect ECALL word x pc = Calls
row_effect EBREAK word x pc = Traps Breakpoint
-- "Multiplication Operations": both factors signed, or only rs1, or none
row_effect MUL word x pc = puts word pc (product (rs1_value word x) (rs2_value word x))
row_effect MULH word x pc = puts word pc (upper_bits (signed_of (rs1_value word x) *ℤ signed_of (rs2_value word x)))
row_effect MULHSU word x pc = puts word pc (upper_bits (signed_of (rs1_value word x) *ℤ pos (rs2_value word x)))
row_effect MULHU word x pc = puts word pc (upper_bits (pos (rs1_value word x) *ℤ pos (rs2_value word x)))
-- "Division Operations"
row_effect DIV word x pc = puts word pc (quotient_signed (rs1_value word x) (rs2_value word x))
row_effect DIVU word x pc = puts word pc (quotient (rs1_value word x) (rs2_value word x))
row_effect REM word x pc = puts word pc (remainder_signed (rs1_value word x) (rs2_value word x))
row_effect REMU word x pc = puts word pc (remainder (rs1_value word x) (rs2_value word x))

-- the effect of a word with this row; a word of no row is illegal
abbrev pub effect_at : Option Row → ℕ → List ℕ → ℕ → Effect
effect_at (Some row) word x pc = row_effect row word x pc
effect_at None word x pc = Traps Illegal

-- the effect of a word on these registers at this pc
abbrev pub effect_of : ℕ → List ℕ → ℕ → Effect
effect_of word x pc = effect_at (row_of word) word x pc
