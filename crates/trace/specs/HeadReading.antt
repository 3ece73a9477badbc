-- For private functions alone: the head's lines behind the first, and the last line of a trace, read from the front of a text.
use Rattle.std.specs.Prelude.{ℕ, Bool, ◌&&◌, nat_le, if◌then◌else◌, List, codes, Option, Some}
use Rattle.sequencing.specs.Options.{◌>>=◌, when}
use Rattle.history.specs.declared.ranges.Range.{Range}
use Rattle.trace.specs.Reading.{text_behind, digits_at, decimal_at}

-- the first line, of several ranges or of one
abbrev pub version_word : Bool → List ℕ
version_word several = if several then codes "TMT2" else codes "TMT1"

-- `memory BASE SIZE BLOCKS`, up to the line's end
unfoldable pub memory_numbers : List ℕ → Option (ℕ × ℕ × ℕ × List ℕ)
memory_numbers text = do
  digits ← text_behind (codes "memory ") text
  base ← digits_at 8 0 digits
  sizes ← text_behind (codes " ") base.1
  size ← decimal_at 32 sizes
  blocks ← decimal_at 10 size.1
  Some (base.0, size.0, blocks.0, blocks.1)

-- `FIRST ATTESTED`, numbers up to 4,096, and the byte that ends them
unfoldable pub range_numbers : ℕ → List ℕ → Option (Range × List ℕ)
range_numbers end text = do
  first ← decimal_at 32 text
  attested ← decimal_at end first.1
  when (nat_le first.0 4096 && nat_le attested.0 4096) (record { first = first.0; attested = attested.0 }, attested.1)

-- a number behind a word, up to the line's end
unfoldable pub numbered_at : List ℕ → List ℕ → Option (ℕ × List ℕ)
numbered_at word text = text_behind word text >>= decimal_at 10
