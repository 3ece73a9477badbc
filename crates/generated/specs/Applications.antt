-- What a generated application runs, as instructions and as bytes.
use Rattle.std.specs.Prelude.{ℕ, ◌+◌, ◌-◌, ◌*◌, ◌/◌, ◌%◌, ◌^◌, ℤ, pos, neg_ℤ, ◌-ℤ◌, List, [], ◌∷◌, ◌++◌, length, replicate, flat_map, unwrap_or}
use Rattle.std.specs.Int.{w32, to_le_bytes}
use Rattle.rv_decode.specs.declared.instruction.Instr.{Instr}
use Rattle.rv_decode.specs.declared.instruction.Instr.TheVariants.{Lui, Branch, Load, Store, Imm, Ecall}
use Rattle.rv_decode.specs.declared.instruction.BranchOp.TheVariants.{Bne}
use Rattle.rv_decode.specs.declared.instruction.LoadOp.TheVariants.{Lw}
use Rattle.rv_decode.specs.declared.instruction.StoreOp.TheVariants.{Sw}
use Rattle.rv_decode.specs.declared.instruction.ImmOp.TheVariants.{Addi}
use Rattle.rv_decode.specs.Words.{word_of}

-- the registers t0, t1, t2, a0 and a7 (RISC-V psABI, "Integer Register Convention")
abbrev pub reg_t0 : ℕ
reg_t0 = 5

abbrev pub reg_t1 : ℕ
reg_t1 = 6

abbrev pub reg_t2 : ℕ
reg_t2 = 7

abbrev pub reg_a0 : ℕ
reg_a0 = 10

abbrev pub reg_a7 : ℕ
reg_a7 = 17

-- the field of lui nearest to a number of 32 bits, and the rest for addi, from -2048 to 2047
abbrev pub lui_field : ℕ → ℕ
lui_field number = (number + 0x800) / 4096 % 2 ^ 20

abbrev pub addi_rest : ℕ → ℤ
addi_rest number = pos number -ℤ pos ((number + 0x800) / 4096 * 4096)

-- It adds 1 to the word at this address, so many times, and exits with 0. Beside each instruction stands its line of an
-- assembler text.
unfoldable pub program : ℕ → ℕ → List Instr
program address count =
    Lui reg_t0 (lui_field address)  --       li t0, ADDRESS
    ∷ Imm Addi reg_t0 reg_t0 (addi_rest address)
    ∷ Imm Addi reg_t1 0 (pos count)  --       li t1, COUNT
    ∷ Load Lw reg_t2 reg_t0 (pos 0)  -- loop: lw t2, 0(t0)
    ∷ Imm Addi reg_t2 reg_t2 (pos 1)  --       addi t2, t2, 1
    ∷ Store Sw reg_t0 reg_t2 (pos 0)  --       sw t2, 0(t0)
    ∷ Imm Addi reg_t1 reg_t1 (neg_ℤ (pos 1))  --       addi t1, t1, -1
    ∷ Branch Bne reg_t1 0 (neg_ℤ (pos 16))  --       bnez t1, loop
    ∷ Imm Addi reg_a7 0 (pos 93)  --       li a7, 93
    ∷ Imm Addi reg_a0 reg_t1 (pos 0)  --       mv a0, t1
    ∷ Ecall ∷ []  --       ecall

-- the bytes of an instruction's word, the low one first
abbrev pub little_endian : Instr → List ℕ
little_endian instr = to_le_bytes w32 (unwrap_or (word_of instr) 0)

-- the bytes of these instructions, one after the other
abbrev pub code : List Instr → List ℕ
code instrs = flat_map little_endian instrs

-- bytes and the zeros behind them, so many in all
unfoldable pub zero_padded : ℕ → List ℕ → List ℕ
zero_padded size bytes = bytes ++ replicate (size - length bytes) 0
