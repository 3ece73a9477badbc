-- Numbers of 32 and of 8 bits in hexadecimal digits, in lower case.
use Rattle.std.specs.Prelude.{ℕ, ◌+◌, ◌*◌, ◌/◌, ◌%◌, List, [], ◌∷◌, slice_index}
use Rattle.std.specs.Int.{w32, to_be_bytes}
use Rattle.hex.specs.Hex.{encode_lower, lower_digits}

-- the eight digits of a word, the high one first
abbrev pub word_digits : ℕ → List ℕ
word_digits word = encode_lower (to_be_bytes w32 word)

-- the two digits of a byte
abbrev pub byte_digits : ℕ → List ℕ
byte_digits byte = encode_lower (byte ∷ [])

-- For private functions alone: both digits of a byte as one number, the first in the low half
abbrev pub digit_pair : ℕ → ℕ
digit_pair byte = slice_index lower_digits (byte / 16) + 256 * slice_index lower_digits (byte % 16)
