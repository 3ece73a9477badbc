-- The table of digits against their definition, at each of the 256 bytes by computing, and numbers of several digits.
use Rattle.std.proofs.Common.{◌≡◌, ◌==◌, ℕ, zero, suc, ◌+◌, ◌*◌, ◌/◌, ◌%◌, ◌<◌, nat_lt, true, [], ◌∷◌, slice_index, get_or, refl, arith}
use Rattle.std.proofs.lemmas.Bool.{agree_below_at, eqb-true, ltb-true}
use Rattle.std.proofs.lemmas.Nat.{le_bytes_8, le_bytes_2}
use Rattle.std.specs.Int.{w16, w64, to_le_bytes}
use Rattle.hex.specs.Hex.{lower_digits, encode_with}
use Rattle.text_readers.specs.Digits.{digit_pair, byte_digits}
use Rattle.text_readers.specs.declared.digits.TheConstants.{DIGIT_PAIRS}

pub pair_in_table : (b : ℕ) → b < 256 → get_or DIGIT_PAIRS b 0 ≡ digit_pair b
pair_in_table b small =
    let same = agree_below_at (λ b. get_or DIGIT_PAIRS b 0 == digit_pair b) (λ b. true) 256 b refl small in
    eqb-true (get_or DIGIT_PAIRS b 0) (digit_pair b) same

-- a digit is a byte
small_digit : (k : ℕ) → k < 16 → slice_index lower_digits k < 256
small_digit k small =
    let same = agree_below_at (λ k. nat_lt (slice_index lower_digits k) 256) (λ k. true) 16 k refl small in
    ltb-true (slice_index lower_digits k) 256 same

digits_are_small : (b : ℕ) → b < 256 → (i : ℕ) → get_or (byte_digits b) i 0 < 256
unfolding encode_with
digits_are_small b small zero = small_digit (b / 16) (omega (arith, small))
digits_are_small b small (suc zero) = small_digit (b % 16) (omega arith)
digits_are_small b small (suc (suc i)) = omega arith

-- the digits of a byte are the bytes of their number
pub two_digits : (b : ℕ) → b < 256 → to_le_bytes w16 (digit_pair b) ≡ byte_digits b
unfolding encode_with
two_digits b small = le_bytes_2 (byte_digits b) (digit_pair b) refl (digits_are_small b small) (omega arith)

-- the digits of four bytes
four_are_small : (a b c d : ℕ) → a < 256 → b < 256 → c < 256 → d < 256 → (i : ℕ) → get_or (encode_with lower_digits (a ∷ b ∷ c ∷ d ∷ [])) i 0 < 256
unfolding encode_with
four_are_small a b c d sa sb sc sd zero = small_digit (a / 16) (omega (arith, sa))
four_are_small a b c d sa sb sc sd (suc zero) = small_digit (a % 16) (omega arith)
four_are_small a b c d sa sb sc sd (suc (suc zero)) = small_digit (b / 16) (omega (arith, sb))
four_are_small a b c d sa sb sc sd (suc (suc (suc zero))) = small_digit (b % 16) (omega arith)
four_are_small a b c d sa sb sc sd (suc (suc (suc (suc zero)))) = small_digit (c / 16) (omega (arith, sc))
four_are_small a b c d sa sb sc sd (suc (suc (suc (suc (suc zero))))) = small_digit (c % 16) (omega arith)
four_are_small a b c d sa sb sc sd (suc (suc (suc (suc (suc (suc zero)))))) = small_digit (d / 16) (omega (arith, sd))
four_are_small a b c d sa sb sc sd (suc (suc (suc (suc (suc (suc (suc zero))))))) = small_digit (d % 16) (omega arith)
four_are_small a b c d sa sb sc sd (suc (suc (suc (suc (suc (suc (suc (suc i)))))))) = omega arith

-- the digits of four bytes are the bytes of one number
pub eight_digits : (a b c d : ℕ) → a < 256 → b < 256 → c < 256 → d < 256
    → to_le_bytes w64 (digit_pair a + digit_pair b * 65536 + (digit_pair c + digit_pair d * 65536) * 4294967296)
    ≡ encode_with lower_digits (a ∷ b ∷ c ∷ d ∷ [])
unfolding encode_with
eight_digits a b c d sa sb sc sd =
    le_bytes_8 (encode_with lower_digits (a ∷ b ∷ c ∷ d ∷ [])) _ refl (four_are_small a b c d sa sb sc sd) (omega arith)
