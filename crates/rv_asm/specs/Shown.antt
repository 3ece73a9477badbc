-- The listing's text of an instruction.
use Rattle.std.specs.Prelude.{ℕ, ℤ, ◌==◌, ◌&&◌, if◌then◌else◌, List, [], ◌∷◌, ◌++◌, drop, codes, Option, Some, None}
use Rattle.std.specs.Int.{to_le_bytes, w32}
use Rattle.executable.specs.declared.Program.{Program}
use Rattle.std.specs.Fmt.{decimal, signed_decimal}
use Rattle.rv_decode.specs.declared.instruction.Instr.{Instr}
use Rattle.rv_decode.specs.declared.instruction.Instr.TheVariants.{Lui, Auipc, Jal, Jalr, Branch, Load, Store, Imm, Shift, Reg, Mul, Fence, Ecall, Ebreak}
use Rattle.rv_decode.specs.Names.{branch_name, load_name, store_name, imm_name, shift_name, reg_name, mul_name}
use Rattle.rv_decode.specs.Words.{word_of, instr_of}
use Rattle.text_readers.specs.Digits.{word_digits}

-- a register, in decimal after its letter
abbrev pub register_text : ℕ → List ℕ
register_text r = codes "x" ++ decimal r

-- a field of 20 bits, in five digits
abbrev pub field_text : ℕ → List ℕ
field_text imm = codes "0x" ++ drop 3 (word_digits imm)

-- what stands between commas and a space
abbrev pub comma_joined : List (List ℕ) → List ℕ
comma_joined [] = []
comma_joined (a ∷ []) = a
comma_joined (a ∷ b ∷ more) = a ++ (codes ", " ++ comma_joined (b ∷ more))

abbrev pub statement_text : List ℕ → List (List ℕ) → List ℕ
statement_text name operands = name ++ (codes " " ++ comma_joined operands)

-- number(register)
abbrev pub indexed_text : ℤ → ℕ → List ℕ
indexed_text number register = signed_decimal number ++ (codes "(" ++ (register_text register ++ codes ")"))

abbrev pub word_text : Option ℕ → List ℕ
word_text None = []
word_text (Some word) = codes ".word 0x" ++ word_digits word

-- the text of an instruction; a fence that isn't the full one is its word
abbrev pub text_of : Instr → List ℕ
text_of (Lui d imm) = statement_text (codes "lui") (register_text d ∷ field_text imm ∷ [])
text_of (Auipc d imm) = statement_text (codes "auipc") (register_text d ∷ field_text imm ∷ [])
text_of (Jal d imm) = statement_text (codes "jal") (register_text d ∷ signed_decimal imm ∷ [])
text_of (Jalr d a imm) = statement_text (codes "jalr") (register_text d ∷ indexed_text imm a ∷ [])
text_of (Branch op a b imm) = statement_text (branch_name op) (register_text a ∷ register_text b ∷ signed_decimal imm ∷ [])
text_of (Load op d a imm) = statement_text (load_name op) (register_text d ∷ indexed_text imm a ∷ [])
text_of (Store op a b imm) = statement_text (store_name op) (register_text b ∷ indexed_text imm a ∷ [])
text_of (Imm op d a imm) = statement_text (imm_name op) (register_text d ∷ register_text a ∷ signed_decimal imm ∷ [])
text_of (Shift op d a shamt) = statement_text (shift_name op) (register_text d ∷ register_text a ∷ decimal shamt ∷ [])
text_of (Reg op d a b) = statement_text (reg_name op) (register_text d ∷ register_text a ∷ register_text b ∷ [])
text_of (Mul op d a b) = statement_text (mul_name op) (register_text d ∷ register_text a ∷ register_text b ∷ [])
text_of (Fence d a imm) = if (d == 0) && (a == 0) && (imm == 0x0ff) then codes "fence" else word_text (word_of (Fence d a imm))
text_of Ecall = codes "ecall"
text_of Ebreak = codes "ebreak"

-- the text of a word: that of its instruction, or the word itself where it has none
abbrev pub shown_or_word : ℕ → Option Instr → List ℕ
shown_or_word word (Some instr) = text_of instr
shown_or_word word None = word_text (Some word)

abbrev pub shown_text : ℕ → List ℕ
shown_text word = shown_or_word word (instr_of word)

-- a text of one statement: a segment at 0 whose entry is its beginning
abbrev pub one_statement : List ℕ → List ℕ
one_statement text = codes ".segment 0\n.entry a\na:" ++ text

-- the program of one word at 0
abbrev pub one_word_program : ℕ → Program
one_word_program word = record { entry = 0; segments = record { addr = 0; bytes = to_le_bytes w32 word } ∷ [] }
