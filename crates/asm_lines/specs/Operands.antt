-- The operands of a statement, and what one of them says.
use Rattle.std.specs.Prelude.{◌≡◌, ℕ, ◌-◌, ◌<◌, ℤ, Bool, ◌&&◌, not, ◌==◌, if◌then◌else◌, List, [], ◌∷◌, map, length, take, slice_index, Option, Some, None, Result, Ok, Err}
use Rattle.std.specs.List.{position_or_len}
use Rattle.std.specs.Option.{ok_or}
use Rattle.asm_lines.specs.declared.kinds.Kind.{Kind}
use Rattle.asm_lines.specs.declared.kinds.Kind.TheVariants as kinds
use Rattle.asm_lines.specs.declared.operands.Parts.{Parts}
use Rattle.asm_lines.specs.declared.operands.Parts.TheVariants.{Zero, One, Two, Three, More}
use Rattle.asm_lines.specs.declared.operands.Value.{Value}
use Rattle.asm_lines.specs.declared.operands.Value.TheVariants as values
use Rattle.asm_lines.specs.Kinds.{both}
use Rattle.asm_lines.specs.Cuts.{begins_name, is_symbol, trimmed, front_to, behind, has}
use Rattle.text_readers.specs.Lines.{parts_at}
use Rattle.asm_lines.specs.Numbers.{spelled, register_of}

-- the parts between commas (44), without the blanks round them
abbrev pub operand_parts : List ℕ → List (List ℕ)
operand_parts text = map trimmed (parts_at 44 text)

-- a statement with nothing after its first word has no operands
abbrev pub operands_of : List ℕ → List (List ℕ)
operands_of text = if length text == 0 then [] else operand_parts text

-- these are the operands, up to three; More stands for more
abbrev pub AreParts : Parts → List (List ℕ) → Type 0
AreParts Zero parts = parts ≡ []
AreParts (One a) parts = parts ≡ a.now ∷ []
AreParts (Two a b) parts = parts ≡ a.now ∷ b.now ∷ []
AreParts (Three a b c) parts = parts ≡ a.now ∷ b.now ∷ c.now ∷ []
AreParts More parts = 3 < length parts

-- An operand that begins as names do is of the kind name. Any other that has a `(` (40) and ends with `)` (41) is
-- of the kind number(register), and each other one is of the kind number.
abbrev pub is_name_kind : List ℕ → Bool
is_name_kind operand = begins_name (slice_index operand 0)

abbrev pub is_paren : ℕ → Bool
is_paren byte = byte == 40

abbrev pub is_indexed_kind : List ℕ → Bool
is_indexed_kind operand = not (is_name_kind operand) && (slice_index operand (length operand - 1) == 41) && has is_paren operand

abbrev pub is_number_kind : List ℕ → Bool
is_number_kind operand = not (is_name_kind operand) && not (is_indexed_kind operand)

-- where the parenthesis of an operand number(register) opens
abbrev pub paren_of : List ℕ → Option ℕ
paren_of operand = if is_indexed_kind operand then Some (position_or_len is_paren operand) else None

-- a register is wanted
unfoldable pub register_operand : List ℕ → Result ℕ Kind
register_operand operand = if is_name_kind operand then ok_or (register_of operand) kinds.Register else Err kinds.Operands

-- a number is wanted
unfoldable pub number_operand : List ℕ → Result ℤ Kind
number_operand operand = if is_number_kind operand then ok_or (spelled operand) kinds.Number else Err kinds.Operands

-- what stands between the first `(` and the last byte
abbrev pub inside : List ℕ → List ℕ
inside operand = take (length (behind is_paren operand) - 1) (behind is_paren operand)

-- number(register) is wanted: the number, then the register
unfoldable pub indexed_operand : List ℕ → Result (ℤ × ℕ) Kind
indexed_operand operand =
    if is_indexed_kind operand
    then both (ok_or (spelled (front_to is_paren operand)) kinds.Number) (ok_or (register_of (inside operand)) kinds.Register)
    else Err kinds.Operands

-- a label is wanted
unfoldable pub label_operand : List ℕ → Result (List ℕ) Kind
label_operand operand = if is_symbol operand then Ok operand else Err kinds.Operands

-- what a target or a word says: a label, or a number
pub data Said : Type 0 where
  Label : List ℕ → Said
  Number : ℤ → Said

abbrev pub said : Value → Said
said (values.Label name) = Label name.now
said (values.Number number) = Number number

abbrev pub number_said : Result ℤ Kind → Result Said Kind
number_said (Ok number) = Ok (Number number)
number_said (Err kind) = Err kind

-- a label or a number is wanted
unfoldable pub value_operand : List ℕ → Result Said Kind
value_operand operand = if is_symbol operand then Ok (Label operand) else number_said (number_operand operand)
