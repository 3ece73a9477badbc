-- A line, cut into its label, its first word and what follows that.
use Rattle.std.specs.Prelude.{ℕ, ◌+◌, Bool, ◌&&◌, ◌||◌, not, ◌≡◌, ◌==◌, nat_le, nat_lt, if◌then◌else◌, List, [], ◌∷◌, length, take, drop, slice_index, Option, Some, None}
use Rattle.std.specs.List.{list_all, position_or_len}
use Rattle.std.specs.Option.{option_map}
use Rattle.asm_lines.specs.Lines.{source_lines}
use Rattle.asm_lines.specs.declared.cuts.ParsedLine.{ParsedLine}
use Rattle.asm_lines.specs.declared.cuts.RawStatement.{RawStatement}

-- the bytes of a text, beside the ends of its lines: 20 to 7E, and tab
abbrev pub is_text_byte : ℕ → Bool
is_text_byte byte = (nat_le 32 byte && nat_le byte 126) || (byte == 9)

-- the plain part of a line ends at its comment, or at a byte that no line has
abbrev pub ends_plain : ℕ → Bool
ends_plain byte = (byte == 35) || not (is_text_byte byte)

-- a space or a tab
abbrev pub is_blank : ℕ → Bool
is_blank byte = (byte == 32) || (byte == 9)

abbrev pub is_digit : ℕ → Bool
is_digit byte = nat_le 48 byte && nat_le byte 57

-- a letter, `_` or `.`
abbrev pub begins_name : ℕ → Bool
begins_name byte = (nat_le 65 byte && nat_le byte 90) || (nat_le 97 byte && nat_le byte 122) || (byte == 95) || (byte == 46)

abbrev pub is_name_byte : ℕ → Bool
is_name_byte byte = begins_name byte || is_digit byte

-- a name (of a label or a statement) has 1 to 64 bytes
abbrev pub is_symbol : List ℕ → Bool
is_symbol word = nat_le (length word) 64 && begins_name (slice_index word 0) && list_all is_name_byte word

-- without the blanks in front
abbrev pub trim_front : List ℕ → List ℕ
trim_front [] = []
trim_front (byte ∷ bytes) = if is_blank byte then trim_front bytes else byte ∷ bytes

-- a byte before a text, which stands where it isn't a blank before nothing
abbrev pub before_trimmed : ℕ → List ℕ → List ℕ
before_trimmed byte bytes = if is_blank byte && (length bytes == 0) then [] else byte ∷ bytes

-- without the blanks at the end
abbrev pub trim_end : List ℕ → List ℕ
trim_end [] = []
trim_end (byte ∷ bytes) = before_trimmed byte (trim_end bytes)

abbrev pub trimmed : List ℕ → List ℕ
trimmed text = trim_end (trim_front text)

-- what stands before the first such byte, or the whole text
abbrev pub front_to : (ℕ → Bool) → List ℕ → List ℕ
front_to test text = take (position_or_len test text) text

-- what stands behind it, or nothing
abbrev pub behind : (ℕ → Bool) → List ℕ → List ℕ
behind test text = drop (position_or_len test text + 1) text

abbrev pub has : (ℕ → Bool) → List ℕ → Bool
has test text = nat_lt (position_or_len test text) (length text)

-- a statement: its first word, and the text of its operands
pub record StatementWords : Type 0 where
  pub mnemonic : List ℕ
  pub operands : List ℕ

-- a line: its label and its statement, where it has them
pub record Line : Type 0 where
  pub label : Option (List ℕ)
  pub statement : Option StatementWords

-- what a line without a label and a statement says
abbrev pub nothing_said : Line
nothing_said = record { label = None; statement = None }

-- the same of the code's own
abbrev pub statement_words : RawStatement → StatementWords
statement_words statement = record { mnemonic = statement.mnemonic.now; operands = statement.operands.now }

abbrev pub line_of : ParsedLine → Line
line_of cut = record { label = option_map (λ label. label.now) cut.label; statement = option_map statement_words cut.statement }

-- the statement that a text begins with: its first word ends at a blank, and is a name
abbrev pub first_word : List ℕ → Option StatementWords
first_word text =
    if is_symbol (front_to is_blank text)
    then Some (record { mnemonic = front_to is_blank text; operands = trim_front (behind is_blank text) }) else None

-- the label stands beside it, or stands alone
unfoldable pub worded : Option (List ℕ) → List ℕ → Option Line
worded label text =
    if length text == 0 then Some (record { label = label; statement = None })
    else option_map (λ statement. record { label = label; statement = Some statement }) (first_word text)

-- a label is a name at the very beginning with a colon (58) right behind it
abbrev pub has_label : List ℕ → Bool
has_label text = has (λ byte. byte == 58) text && is_symbol (front_to (λ byte. byte == 58) text)

unfoldable pub labelled : List ℕ → Option Line
labelled text =
    if has_label text
    then worded (Some (front_to (λ byte. byte == 58) text)) (trim_front (behind (λ byte. byte == 58) text))
    else worded None text

-- what a line says, where it has its shape; a comment goes from `#` (35) to the end
unfoldable pub parse_line : List ℕ → Option Line
parse_line line = if list_all is_text_byte line then labelled (trimmed (front_to (λ byte. byte == 35) line)) else None

-- a text's first line says this, and the rest is the text after it
pub record FirstLineSays (text : List ℕ) (said : Option Line) (rest : List ℕ) : Type 0 where
  pub line : List ℕ
  pub first : source_lines text ≡ line ∷ source_lines rest
  pub says : said ≡ parse_line line
