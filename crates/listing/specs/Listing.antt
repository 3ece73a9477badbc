-- The listing of an executable: a line for each word of its file that stands at an address divisible by 4, and a line
-- for each other byte.
use Rattle.std.specs.Prelude.{ℕ, ◌+◌, ◌%◌, ◌==◌, if◌then◌else◌, List, [], ◌∷◌, ◌++◌, codes}
use Rattle.std.specs.List.{flat_map}
use Rattle.std.specs.Int.{w32, from_le_bytes}
use Rattle.text_readers.specs.Digits.{word_digits, byte_digits}
use Rattle.rv_asm.specs.Shown.{shown_text}
use Rattle.elf32.specs.Files.{FileSegment}

-- what has a line: the word at an address, or the byte there
pub data Item : Type 0 where
  word : ℕ → ℕ → Item
  byte : ℕ → ℕ → Item

-- What the bytes from an address on are listed as: where the address is divisible by 4 and four bytes are there, their
-- word, the lowest byte first; else the one byte.
unfoldable pub items : ℕ → List ℕ → List Item
items at [] = []
items at (a ∷ b ∷ c ∷ d ∷ more) =
    if at % 4 == 0 then word at (from_le_bytes w32 (a ∷ b ∷ c ∷ d ∷ [])) ∷ items (at + 4) more
    else byte at a ∷ items (at + 1) (b ∷ c ∷ d ∷ more)
items at (a ∷ more) = byte at a ∷ items (at + 1) more

-- ADDRESS DIGITS TEXT, and the line's end
abbrev pub line_text : ℕ → List ℕ → List ℕ → List ℕ
line_text at digits text = word_digits at ++ (codes " " ++ (digits ++ (codes " " ++ (text ++ codes "\n"))))

-- the line of a word or a byte
abbrev pub item_line : Item → List ℕ
item_line (word at value) = line_text at (word_digits value) (shown_text value)
item_line (byte at value) = line_text at (byte_digits value) (codes ".byte 0x" ++ byte_digits value)

-- the lines of items, one after the other
abbrev pub lines_text : List Item → List ℕ
lines_text shown = flat_map item_line shown

-- what the file has for each segment, in the segments' order
abbrev pub items_of : List FileSegment → List Item
items_of segments = flat_map (λ s. items s.addr s.bytes) segments

-- the listing of what an executable loads
abbrev pub listing_of : List FileSegment → List ℕ
listing_of segments = lines_text (items_of segments)
