-- The effects by the decoder's instructions are those by the rows of the listing.
use Rattle.std.proofs.Common.{◌≡◌, ℕ, ◌/◌, ◌^◌, ◌<◌, List, Option, Some, None, refl, sym, ap, ◌∙◌, subst}
use Rattle.std.specs.Option.{option_map}
use Rattle.std.proofs.Math.Nat.{mod-lt}
use Rattle.std.proofs.lemmas.Nat.{pow_pos}
use Rattle.std.proofs.lemmas.Option.{same_Some, none-some}
use Rattle.rv_decode.specs.declared.instruction.Instr.{Instr}
use Rattle.rv_decode.specs.Fields.{field}
use Rattle.rv_decode.specs.Table.{Row, LUI, AUIPC, JAL, JALR, BEQ, BNE, BLT, BGE, BLTU, BGEU, LB, LH, LW, LBU, LHU, SB, SH, SW, ADDI, SLTI, SLTIU, XORI, ORI, ANDI, SLLI, SRLI, SRAI, ADD, SUB, SLL, SLT, SLTU, XOR, SRL, SRA, OR, AND, FENCE, ECALL, EBREAK, MUL, MULH, MULHSU, MULHU, DIV, DIVU, REM, REMU, row_of}
use Rattle.rv_decode.specs.Words.{instr_in, instr_of}
use Rattle.rv_core.specs.declared.waits.TrapKind.TheVariants.{Illegal}
use Rattle.rv_core.specs.declared.waits.Effect.TheVariants.{Traps}
use Rattle.rv_core.specs.Effects.{row_effect, effect_at, effect_of}
use Rattle.rv_core.specs.Decoded.{instr_effect, HasRegisters}

row_is : (row : Row) (word : ℕ) (x : List ℕ) (pc : ℕ) → row_effect row word x pc ≡ instr_effect (instr_in row word) x pc
row_is LUI word x pc = refl
row_is AUIPC word x pc = refl
row_is JAL word x pc = refl
row_is JALR word x pc = refl
row_is BEQ word x pc = refl
row_is BNE word x pc = refl
row_is BLT word x pc = refl
row_is BGE word x pc = refl
row_is BLTU word x pc = refl
row_is BGEU word x pc = refl
row_is LB word x pc = refl
row_is LH word x pc = refl
row_is LW word x pc = refl
row_is LBU word x pc = refl
row_is LHU word x pc = refl
row_is SB word x pc = refl
row_is SH word x pc = refl
row_is SW word x pc = refl
row_is ADDI word x pc = refl
row_is SLTI word x pc = refl
row_is SLTIU word x pc = refl
row_is XORI word x pc = refl
row_is ORI word x pc = refl
row_is ANDI word x pc = refl
row_is SLLI word x pc = refl
row_is SRLI word x pc = refl
row_is SRAI word x pc = refl
row_is ADD word x pc = refl
row_is SUB word x pc = refl
row_is SLL word x pc = refl
row_is SLT word x pc = refl
row_is SLTU word x pc = refl
row_is XOR word x pc = refl
row_is SRL word x pc = refl
row_is SRA word x pc = refl
row_is OR word x pc = refl
row_is AND word x pc = refl
row_is FENCE word x pc = refl
row_is ECALL word x pc = refl
row_is EBREAK word x pc = refl
row_is MUL word x pc = refl
row_is MULH word x pc = refl
row_is MULHSU word x pc = refl
row_is MULHU word x pc = refl
row_is DIV word x pc = refl
row_is DIVU word x pc = refl
row_is REM word x pc = refl
row_is REMU word x pc = refl

effect_is : (word : ℕ) (row : Option Row) (instr : Instr) (x : List ℕ) (pc : ℕ) → option_map (λ r. instr_in r word) row ≡ Some instr
    → effect_at row word x pc ≡ instr_effect instr x pc
effect_is word None instr x pc h = absurd (none-some _ h)
effect_is word (Some row) instr x pc h = row_is row word x pc ∙ ap (λ i. instr_effect i x pc) (same_Some _ _ h)

-- the effect of a word is that of its instruction
pub decoded_effect : (word : ℕ) (instr : Instr) (x : List ℕ) (pc : ℕ) → instr_of word ≡ Some instr
    → effect_of word x pc ≡ instr_effect instr x pc
unfolding instr_of
decoded_effect word instr x pc h = effect_is word (row_of word) instr x pc h

no_effect : (word : ℕ) (row : Option Row) (x : List ℕ) (pc : ℕ) → option_map (λ r. instr_in r word) row ≡ None
    → effect_at row word x pc ≡ Traps Illegal
no_effect word None x pc h = refl
no_effect word (Some row) x pc h = absurd (none-some _ (sym h))

-- a word without an instruction is illegal
pub illegal_effect : (word : ℕ) (x : List ℕ) (pc : ℕ) → instr_of word ≡ None → effect_of word x pc ≡ Traps Illegal
unfolding instr_of
illegal_effect word x pc h = no_effect word (row_of word) x pc h

-- a field of so many bits
field_small : (low count word : ℕ) → field low count word < 2 ^ count
field_small low count word = mod-lt (word / 2 ^ low) (pow_pos count)

-- the fields of a word's instruction are in their ranges
row_registers : (row : Row) (word : ℕ) → HasRegisters (instr_in row word)
row_registers LUI word = (field_small 7 5 word, field_small 12 20 word)
row_registers AUIPC word = (field_small 7 5 word, field_small 12 20 word)
row_registers JAL word = field_small 7 5 word
row_registers JALR word = (field_small 7 5 word, field_small 15 5 word)
row_registers BEQ word = (field_small 15 5 word, field_small 20 5 word)
row_registers BNE word = (field_small 15 5 word, field_small 20 5 word)
row_registers BLT word = (field_small 15 5 word, field_small 20 5 word)
row_registers BGE word = (field_small 15 5 word, field_small 20 5 word)
row_registers BLTU word = (field_small 15 5 word, field_small 20 5 word)
row_registers BGEU word = (field_small 15 5 word, field_small 20 5 word)
row_registers LB word = (field_small 7 5 word, field_small 15 5 word)
row_registers LH word = (field_small 7 5 word, field_small 15 5 word)
row_registers LW word = (field_small 7 5 word, field_small 15 5 word)
row_registers LBU word = (field_small 7 5 word, field_small 15 5 word)
row_registers LHU word = (field_small 7 5 word, field_small 15 5 word)
row_registers SB word = (field_small 15 5 word, field_small 20 5 word)
row_registers SH word = (field_small 15 5 word, field_small 20 5 word)
row_registers SW word = (field_small 15 5 word, field_small 20 5 word)
row_registers ADDI word = (field_small 7 5 word, field_small 15 5 word)
row_registers SLTI word = (field_small 7 5 word, field_small 15 5 word)
row_registers SLTIU word = (field_small 7 5 word, field_small 15 5 word)
row_registers XORI word = (field_small 7 5 word, field_small 15 5 word)
row_registers ORI word = (field_small 7 5 word, field_small 15 5 word)
row_registers ANDI word = (field_small 7 5 word, field_small 15 5 word)
row_registers SLLI word = (field_small 7 5 word, field_small 15 5 word, field_small 20 5 word)
row_registers SRLI word = (field_small 7 5 word, field_small 15 5 word, field_small 20 5 word)
row_registers SRAI word = (field_small 7 5 word, field_small 15 5 word, field_small 20 5 word)
row_registers ADD word = (field_small 7 5 word, field_small 15 5 word, field_small 20 5 word)
row_registers SUB word = (field_small 7 5 word, field_small 15 5 word, field_small 20 5 word)
row_registers SLL word = (field_small 7 5 word, field_small 15 5 word, field_small 20 5 word)
row_registers SLT word = (field_small 7 5 word, field_small 15 5 word, field_small 20 5 word)
row_registers SLTU word = (field_small 7 5 word, field_small 15 5 word, field_small 20 5 word)
row_registers XOR word = (field_small 7 5 word, field_small 15 5 word, field_small 20 5 word)
row_registers SRL word = (field_small 7 5 word, field_small 15 5 word, field_small 20 5 word)
row_registers SRA word = (field_small 7 5 word, field_small 15 5 word, field_small 20 5 word)
row_registers OR word = (field_small 7 5 word, field_small 15 5 word, field_small 20 5 word)
row_registers AND word = (field_small 7 5 word, field_small 15 5 word, field_small 20 5 word)
row_registers FENCE word = tt
row_registers ECALL word = tt
row_registers EBREAK word = tt
row_registers MUL word = (field_small 7 5 word, field_small 15 5 word, field_small 20 5 word)
row_registers MULH word = (field_small 7 5 word, field_small 15 5 word, field_small 20 5 word)
row_registers MULHSU word = (field_small 7 5 word, field_small 15 5 word, field_small 20 5 word)
row_registers MULHU word = (field_small 7 5 word, field_small 15 5 word, field_small 20 5 word)
row_registers DIV word = (field_small 7 5 word, field_small 15 5 word, field_small 20 5 word)
row_registers DIVU word = (field_small 7 5 word, field_small 15 5 word, field_small 20 5 word)
row_registers REM word = (field_small 7 5 word, field_small 15 5 word, field_small 20 5 word)
row_registers REMU word = (field_small 7 5 word, field_small 15 5 word, field_small 20 5 word)

registers_are : (word : ℕ) (row : Option Row) (instr : Instr) → option_map (λ r. instr_in r word) row ≡ Some instr → HasRegisters instr
registers_are word None instr h = absurd (none-some _ h)
registers_are word (Some row) instr h = subst HasRegisters (same_Some _ _ h) (row_registers row word)

pub decoded_registers : (word : ℕ) (instr : Instr) → instr_of word ≡ Some instr → HasRegisters instr
unfolding instr_of
decoded_registers word instr h = registers_are word (row_of word) instr h
