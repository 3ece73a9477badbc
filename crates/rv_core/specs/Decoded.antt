-- Serves private functions alone: the effects by the decoder's instructions, as the code has them.
-- `specs/Effects.antt` decides; that both agree is proved in `proofs/DecodedLaws.antt`.
use Rattle.std.specs.Prelude.{◌≡◌, ℕ, ◌*◌, ◌/◌, ◌%◌, ◌^◌, ◌<◌, ℤ, pos, ◌*ℤ◌, Bool, true, false, not, ◌==◌, nat_le, nat_lt, int_lt, bit_and, bit_or, bit_xor, List, slice_index}
use Rattle.history.specs.declared.events.Width.{Width}
use Rattle.history.specs.declared.events.Width.TheVariants.{Byte, Half, Word}
use Rattle.history.specs.Layout.{width_bytes}
use Rattle.rv_decode.specs.declared.instruction.Instr.{Instr}
use Rattle.rv_decode.specs.declared.instruction.Instr.TheVariants.{Lui, Auipc, Jal, Jalr, Branch, Load, Store, Imm, Shift, Reg, Mul as Multiply, Fence, Ecall, Ebreak}
use Rattle.rv_decode.specs.declared.instruction.BranchOp.{BranchOp}
use Rattle.rv_decode.specs.declared.instruction.BranchOp.TheVariants.{Beq, Bne, Blt, Bge, Bltu, Bgeu}
use Rattle.rv_decode.specs.declared.instruction.LoadOp.{LoadOp}
use Rattle.rv_decode.specs.declared.instruction.LoadOp.TheVariants.{Lb, Lh, Lw, Lbu, Lhu}
use Rattle.rv_decode.specs.declared.instruction.StoreOp.{StoreOp}
use Rattle.rv_decode.specs.declared.instruction.StoreOp.TheVariants.{Sb, Sh, Sw}
use Rattle.rv_decode.specs.declared.instruction.ImmOp.{ImmOp}
use Rattle.rv_decode.specs.declared.instruction.ImmOp.TheVariants.{Addi, Slti, Sltiu, Xori, Ori, Andi}
use Rattle.rv_decode.specs.declared.instruction.ShiftOp.{ShiftOp}
use Rattle.rv_decode.specs.declared.instruction.ShiftOp.TheVariants.{Slli, Srli, Srai}
use Rattle.rv_decode.specs.declared.instruction.RegOp.{RegOp}
use Rattle.rv_decode.specs.declared.instruction.RegOp.TheVariants.{Add, Sub, Sll, Slt, Sltu, Xor, Srl, Sra, Or, And}
use Rattle.rv_decode.specs.declared.instruction.MulOp.{MulOp}
use Rattle.rv_decode.specs.declared.instruction.MulOp.TheVariants.{Mul, Mulh, Mulhsu, Mulhu, Div, Divu, Rem, Remu}
use Rattle.rv_core.specs.declared.waits.TrapKind.TheVariants.{Breakpoint}
use Rattle.rv_core.specs.declared.waits.Effect.{Effect}
use Rattle.rv_core.specs.declared.waits.Effect.TheVariants.{Writes, Goes, Loads, Stores, Calls, Traps}
use Rattle.rv_core.specs.Effects.{sum, difference, product, upper_bits, quotient, quotient_signed, remainder, remainder_signed, bits_of, signed_of, shifted_left, shifted_right, shifted_right_signed, is_less_signed, is_at_most_signed, one_if, next, jump_effect, branch_effect}

-- what an operation makes of the values of its two registers
abbrev pub reg_value : RegOp → ℕ → ℕ → ℕ
reg_value Add a b = sum a b
reg_value Sub a b = difference a b
reg_value Sll a b = shifted_left a (b % 2 ^ 5)
reg_value Slt a b = one_if (is_less_signed a b)
reg_value Sltu a b = one_if (nat_lt a b)
reg_value Xor a b = bit_xor a b
reg_value Srl a b = shifted_right a (b % 2 ^ 5)
reg_value Sra a b = shifted_right_signed a (b % 2 ^ 5)
reg_value Or a b = bit_or a b
reg_value And a b = bit_and a b

-- what an operation of the M extension makes of them
abbrev pub mul_value : MulOp → ℕ → ℕ → ℕ
mul_value Mul a b = product a b
mul_value Mulh a b = upper_bits (signed_of a *ℤ signed_of b)
mul_value Mulhsu a b = upper_bits (signed_of a *ℤ pos b)
mul_value Mulhu a b = upper_bits (pos a *ℤ pos b)
mul_value Div a b = quotient_signed a b
mul_value Divu a b = quotient a b
mul_value Rem a b = remainder_signed a b
mul_value Remu a b = remainder a b

-- what an operation makes of a register's value and its immediate
abbrev pub imm_value : ImmOp → ℕ → ℤ → ℕ
imm_value Addi a imm = sum a (bits_of imm)
imm_value Slti a imm = one_if (int_lt (signed_of a) imm)
imm_value Sltiu a imm = one_if (nat_lt a (bits_of imm))
imm_value Xori a imm = bit_xor a (bits_of imm)
imm_value Ori a imm = bit_or a (bits_of imm)
imm_value Andi a imm = bit_and a (bits_of imm)

-- what a shift by a constant makes of a register's value
abbrev pub shift_value : ShiftOp → ℕ → ℕ → ℕ
shift_value Slli a shamt = shifted_left a shamt
shift_value Srli a shamt = shifted_right a shamt
shift_value Srai a shamt = shifted_right_signed a shamt

-- the branch is taken at these values
abbrev pub is_taken : BranchOp → ℕ → ℕ → Bool
is_taken Beq a b = a == b
is_taken Bne a b = not (a == b)
is_taken Blt a b = is_less_signed a b
is_taken Bge a b = is_at_most_signed b a
is_taken Bltu a b = nat_lt a b
is_taken Bgeu a b = nat_le b a

abbrev pub load_width : LoadOp → Width
load_width Lb = Byte
load_width Lh = Half
load_width Lw = Word
load_width Lbu = Byte
load_width Lhu = Half

abbrev pub is_signed_load : LoadOp → Bool
is_signed_load Lb = true
is_signed_load Lh = true
is_signed_load Lw = false
is_signed_load Lbu = false
is_signed_load Lhu = false

abbrev pub store_width : StoreOp → Width
store_width Sb = Byte
store_width Sh = Half
store_width Sw = Word

-- the effect of an instruction on these registers at this pc
abbrev pub instr_effect : Instr → List ℕ → ℕ → Effect
instr_effect (Lui d imm) x pc = Writes d (imm * 2 ^ 12) (next pc)
instr_effect (Auipc d imm) x pc = Writes d (sum pc (imm * 2 ^ 12)) (next pc)
instr_effect (Jal d imm) x pc = jump_effect d pc (sum pc (bits_of imm))
instr_effect (Jalr d a imm) x pc = jump_effect d pc (sum (slice_index x a) (bits_of imm) / 2 * 2)
instr_effect (Branch op a b imm) x pc =
    branch_effect (is_taken op (slice_index x a) (slice_index x b)) pc (sum pc (bits_of imm))
instr_effect (Load op d a imm) x pc =
    Loads (load_width op) (is_signed_load op) (sum (slice_index x a) (bits_of imm)) d
instr_effect (Store op a b imm) x pc =
    Stores (store_width op) (sum (slice_index x a) (bits_of imm)) (slice_index x b % 256 ^ width_bytes (store_width op))
instr_effect (Imm op d a imm) x pc = Writes d (imm_value op (slice_index x a) imm) (next pc)
instr_effect (Shift op d a shamt) x pc = Writes d (shift_value op (slice_index x a) shamt) (next pc)
instr_effect (Reg op d a b) x pc = Writes d (reg_value op (slice_index x a) (slice_index x b)) (next pc)
instr_effect (Multiply op d a b) x pc = Writes d (mul_value op (slice_index x a) (slice_index x b)) (next pc)
instr_effect (Fence d a imm) x pc = Goes (next pc)
instr_effect Ecall x pc = Calls
instr_effect Ebreak x pc = Traps Breakpoint

-- the registers and fields that the code relies on are in their ranges
abbrev pub HasRegisters : Instr → Type 0
HasRegisters (Lui d imm) = (d < 32) × (imm < 2 ^ 20)
HasRegisters (Auipc d imm) = (d < 32) × (imm < 2 ^ 20)
HasRegisters (Jal d imm) = d < 32
HasRegisters (Jalr d a imm) = (d < 32) × (a < 32)
HasRegisters (Branch op a b imm) = (a < 32) × (b < 32)
HasRegisters (Load op d a imm) = (d < 32) × (a < 32)
HasRegisters (Store op a b imm) = (a < 32) × (b < 32)
HasRegisters (Imm op d a imm) = (d < 32) × (a < 32)
HasRegisters (Shift op d a shamt) = (d < 32) × (a < 32) × (shamt < 32)
HasRegisters (Reg op d a b) = (d < 32) × (a < 32) × (b < 32)
HasRegisters (Multiply op d a b) = (d < 32) × (a < 32) × (b < 32)
HasRegisters (Fence d a imm) = Unit {0}
HasRegisters Ecall = Unit {0}
HasRegisters Ebreak = Unit {0}

-- the registers of an effect are registers, its pc is divisible by 4, its stored value has no more bytes than its width
abbrev pub IsProperEffect : Effect → Type 0
IsProperEffect (Writes d value pc) = (d < 32) × (pc % 4 ≡ 0)
IsProperEffect (Goes pc) = pc % 4 ≡ 0
IsProperEffect (Loads width is_signed addr d) = d < 32
IsProperEffect (Stores width addr value) = value < 256 ^ width_bytes width
IsProperEffect Calls = Unit {0}
IsProperEffect (Traps kind) = Unit {0}
