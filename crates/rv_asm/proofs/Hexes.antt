-- Hexadecimal digits that show writes are read again.
use Rattle.std.proofs.Common.{◌≡◌, ◌==◌, ℕ, ◌+◌, ◌*◌, ◌/◌, ◌%◌, ◌^◌, ◌<◌, ◌≤◌, suc, zero, ℤ, pos, Bool, cond, true, false, ◌&&◌, not, nat_le, nat_lt, List, [], ◌∷◌, ◌++◌, length, get_or, Some, None, Ok, inl, inr, refl, ap, ◌∙◌, arith, codes}
use Rattle.std.specs.List.{list_all}
use Rattle.std.specs.Int.{w32, to_be_bytes, byte_at}
use Rattle.std.specs.Char.{is_digit, digit_value}
use Rattle.std.specs.Str.Parse.{digits_value, digits_value_after}
use Rattle.std.proofs.lemmas.Bool.{lt-ltb, cases_Bool, eqb-true}
use Rattle.std.proofs.lemmas.Bool.Decides.{nat_tests}
use Rattle.hex.specs.Hex.{encode_lower, encode_with, lower_digits}
use Rattle.text_readers.specs.Numbers.{digits_number, hex_of}
use Rattle.asm_lines.specs.Numbers.{without_zeros, plain_hex, spelled}
use Rattle.asm_lines.specs.Operands.{is_paren, number_operand, value_operand, number_said, Number}
use Rattle.rv_asm.specs.Shown.{field_text}
use Rattle.rv_asm.proofs.Plain.{plain, both_true, and_none, has_none}

-- the digit that writes a number below 16
abbrev pub lower : ℕ → ℕ
lower d = get_or lower_digits d 0

-- what such a digit is like
record IsLower (c d : ℕ) : Type 0 where
  value : digit_value c ≡ d
  is_plain : plain c ≡ true
  no_paren : not (is_paren c) ≡ true

is_lower : (d : ℕ) → d < 16 → IsLower (lower d) d
is_lower zero h = record { value = refl; is_plain = refl; no_paren = refl }
is_lower (suc zero) h = record { value = refl; is_plain = refl; no_paren = refl }
is_lower (suc (suc zero)) h = record { value = refl; is_plain = refl; no_paren = refl }
is_lower (suc (suc (suc zero))) h = record { value = refl; is_plain = refl; no_paren = refl }
is_lower (suc (suc (suc (suc zero)))) h = record { value = refl; is_plain = refl; no_paren = refl }
is_lower (suc (suc (suc (suc (suc zero))))) h = record { value = refl; is_plain = refl; no_paren = refl }
is_lower (suc (suc (suc (suc (suc (suc zero)))))) h = record { value = refl; is_plain = refl; no_paren = refl }
is_lower (suc (suc (suc (suc (suc (suc (suc zero))))))) h = record { value = refl; is_plain = refl; no_paren = refl }
is_lower (suc (suc (suc (suc (suc (suc (suc (suc zero)))))))) h = record { value = refl; is_plain = refl; no_paren = refl }
is_lower (suc (suc (suc (suc (suc (suc (suc (suc (suc zero))))))))) h = record { value = refl; is_plain = refl; no_paren = refl }
is_lower (suc (suc (suc (suc (suc (suc (suc (suc (suc (suc zero)))))))))) h = record { value = refl; is_plain = refl; no_paren = refl }
is_lower (suc (suc (suc (suc (suc (suc (suc (suc (suc (suc (suc zero))))))))))) h = record { value = refl; is_plain = refl; no_paren = refl }
is_lower (suc (suc (suc (suc (suc (suc (suc (suc (suc (suc (suc (suc zero)))))))))))) h = record { value = refl; is_plain = refl; no_paren = refl }
is_lower (suc (suc (suc (suc (suc (suc (suc (suc (suc (suc (suc (suc (suc zero))))))))))))) h = record { value = refl; is_plain = refl; no_paren = refl }
is_lower (suc (suc (suc (suc (suc (suc (suc (suc (suc (suc (suc (suc (suc (suc zero)))))))))))))) h = record { value = refl; is_plain = refl; no_paren = refl }
is_lower (suc (suc (suc (suc (suc (suc (suc (suc (suc (suc (suc (suc (suc (suc (suc zero))))))))))))))) h = record { value = refl; is_plain = refl; no_paren = refl }
is_lower (suc (suc (suc (suc (suc (suc (suc (suc (suc (suc (suc (suc (suc (suc (suc (suc d)))))))))))))))) h = absurd (omega arith)

-- digits below 16, as a list of them
abbrev Below16 : List ℕ → Type 0
Below16 [] = Unit {0}
Below16 (d ∷ ds) = (d < 16) × Below16 ds

abbrev lowers : List ℕ → List ℕ
lowers [] = []
lowers (d ∷ ds) = lower d ∷ lowers ds

abbrev folded : ℕ → List ℕ → ℕ
folded n [] = n
folded n (d ∷ ds) = folded (n * 16 + d) ds

digits_folded : (n : ℕ) (ds : List ℕ) → Below16 ds → digits_value_after 16 n (lowers ds) ≡ folded n ds
digits_folded n [] h = refl
digits_folded n (d ∷ ds) h = ap (λ v. digits_value_after 16 (n * 16 + v) (lowers ds)) (is_lower d h.0).value ∙ digits_folded (n * 16 + d) ds h.1

lowers_digits : (ds : List ℕ) → Below16 ds → list_all (λ c. is_digit c 16) (lowers ds) ≡ true
lowers_digits [] h = refl
lowers_digits (d ∷ ds) h = both_true (ap (λ v. nat_lt v 16) (is_lower d h.0).value ∙ lt-ltb _ _ h.0) (lowers_digits ds h.1)

lowers_plain : (ds : List ℕ) → Below16 ds → list_all plain (lowers ds) ≡ true
lowers_plain [] h = refl
lowers_plain (d ∷ ds) h = both_true (is_lower d h.0).is_plain (lowers_plain ds h.1)

lowers_no_paren : (ds : List ℕ) → Below16 ds → list_all (λ b. not (is_paren b)) (lowers ds) ≡ true
lowers_no_paren [] h = refl
lowers_no_paren (d ∷ ds) h = both_true (is_lower d h.0).no_paren (lowers_no_paren ds h.1)

chosen : (all small : Bool) (v : ℕ) → all ≡ true → small ≡ true → cond (all && small) (Some v) None ≡ Some v
chosen true true v h g = refl
chosen true false v h g = cc
chosen false small v h g = cc

number_of-lowers : (ds : List ℕ) → Below16 ds → folded 0 ds < 2 ^ 64 → digits_number 16 (lowers ds) ≡ Some (folded 0 ds)
unfolding digits_number
number_of-lowers ds h small =
    let value = digits_folded 0 ds h in
    let fits : digits_value 16 (lowers ds) < 2 ^ 64 = rw value small in
    chosen _ _ _ (lowers_digits ds h) (lt-ltb _ _ fits) ∙ ap (λ v. Some v) value

zero_first : (ds : List ℕ) → digits_number 16 ds ≡ digits_number 16 (48 ∷ ds)
unfolding digits_number
zero_first ds = refl

number_of-without_zeros : (ds : List ℕ) → digits_number 16 (without_zeros ds) ≡ digits_number 16 ds
number_of-without_zeros [] = refl
number_of-without_zeros (d ∷ ds) = elim (cases_Bool (d == 48)) [
  | inl same ↦ let e : d ≡ 48 = eqb-true d 48 same in rw e (number_of-without_zeros ds ∙ zero_first ds)
  | inr other ↦ rw other refl
]

length-without_zeros-le : (ds : List ℕ) → length (without_zeros ds) ≤ length ds
length-without_zeros-le [] = omega arith
length-without_zeros-le (d ∷ ds) = elim (cases_Bool (d == 48)) [
  | inl same ↦ rw same (let e = length-without_zeros-le ds in omega (arith, e))
  | inr other ↦ rw other (omega arith)
]

pub same_length : (n : ℕ) → (n == n) ≡ true
same_length n = grind (arith, nat_tests)

hex_of-length : (ds : List ℕ) → hex_of (length ds) ds ≡ digits_number 16 ds
hex_of-length ds = rw (same_length (length ds)) refl

plain_hex-lowers : (ds : List ℕ) → Below16 ds → 1 ≤ length (lowers ds) → length (lowers ds) ≤ 8 → folded 0 ds < 2 ^ 64 → plain_hex (lowers ds) ≡ Some (folded 0 ds)
unfolding plain_hex
plain_hex-lowers ds h some most small =
    let shorter = length-without_zeros-le (lowers ds) in
    let few : length (without_zeros (lowers ds)) ≤ 8 = omega (arith, shorter, most) in
    let number : hex_of (length (without_zeros (lowers ds))) (without_zeros (lowers ds)) ≡ Some (folded 0 ds) =
    hex_of-length (without_zeros (lowers ds)) ∙ number_of-without_zeros (lowers ds) ∙ number_of-lowers ds h small in
    grind (arith, nat_tests, some, few, number)

spelled-lowers : (ds : List ℕ) → Below16 ds → 1 ≤ length (lowers ds) → length (lowers ds) ≤ 8 → folded 0 ds < 2 ^ 64 → spelled (48 ∷ 120 ∷ lowers ds) ≡ Some (pos (folded 0 ds))
unfolding spelled
spelled-lowers ds h some most small = rw (plain_hex-lowers ds h some most small) refl

number_kind : (name last paren : Bool) → name ≡ false → paren ≡ false → (not name && not (not name && last && paren)) ≡ true
number_kind name last paren h g = rw (h, g, and_none last) refl

number_operand-lowers : (ds : List ℕ) → Below16 ds → 1 ≤ length (lowers ds) → length (lowers ds) ≤ 8 → folded 0 ds < 2 ^ 64 → number_operand (48 ∷ 120 ∷ lowers ds) ≡ Ok (pos (folded 0 ds))
unfolding number_operand
number_operand-lowers ds h some most small =
    let no_paren : list_all (λ b. not (is_paren b)) (48 ∷ 120 ∷ lowers ds) ≡ true = lowers_no_paren ds h in
    rw (number_kind _ _ _ refl (has_none is_paren (48 ∷ 120 ∷ lowers ds) no_paren), spelled-lowers ds h some most small) refl

-- ---- the field of 20 bits, and a whole word

abbrev field_digits : ℕ → List ℕ
field_digits n = byte_at 2 n % 16 ∷ byte_at 1 n / 16 ∷ byte_at 1 n % 16 ∷ byte_at 0 n / 16 ∷ byte_at 0 n % 16 ∷ []

abbrev word_digits : ℕ → List ℕ
word_digits n = byte_at 3 n / 16 ∷ byte_at 3 n % 16 ∷ byte_at 2 n / 16 ∷ field_digits n

word_lowers : (n : ℕ) → encode_lower (to_be_bytes w32 n) ≡ lowers (word_digits n)
unfolding encode_with
word_lowers n = refl

field_below : (n : ℕ) → Below16 (field_digits n)
field_below n = (omega arith, (omega arith, (omega arith, (omega arith, (omega arith, tt)))))

word_below : (n : ℕ) → Below16 (word_digits n)
word_below n = (omega arith, (omega arith, (omega arith, field_below n)))

field_value : (n : ℕ) → n < 2 ^ 20 → folded 0 (field_digits n) ≡ n
field_value n small = omega arith

word_value : (n : ℕ) → n < 2 ^ 32 → folded 0 (word_digits n) ≡ n
word_value n small = omega arith

pub field_plain : (n : ℕ) → list_all plain (field_text n) ≡ true
field_plain n = rw (word_lowers n) (lowers_plain (field_digits n) (field_below n))

pub number_operand-field : (n : ℕ) → n < 2 ^ 20 → number_operand (field_text n) ≡ Ok (pos n)
number_operand-field n small =
    let value = field_value n small in
    rw (word_lowers n) (number_operand-lowers (field_digits n) (field_below n) (omega arith) (omega arith) (rw value (omega arith)) ∙ ap (λ v. Ok (pos v)) value)

abbrev pub word_digits_text : ℕ → List ℕ
word_digits_text n = codes "0x" ++ encode_lower (to_be_bytes w32 n)

pub word_plain : (n : ℕ) → list_all plain (word_digits_text n) ≡ true
word_plain n = rw (word_lowers n) (lowers_plain (word_digits n) (word_below n))

value_operand-lowers : (ds : List ℕ) (z : ℤ) → number_operand (48 ∷ 120 ∷ lowers ds) ≡ Ok z → value_operand (48 ∷ 120 ∷ lowers ds) ≡ Ok (Number z)
unfolding value_operand
value_operand-lowers ds z h = rw (and_none (nat_le (length (48 ∷ 120 ∷ lowers ds)) 64)) (ap number_said h)

pub value_operand-word : (n : ℕ) → n < 2 ^ 32 → value_operand (word_digits_text n) ≡ Ok (Number (pos n))
value_operand-word n small =
    let value = word_value n small in
    let number : number_operand (48 ∷ 120 ∷ lowers (word_digits n)) ≡ Ok (pos n) =
    number_operand-lowers (word_digits n) (word_below n) (omega arith) (omega arith) (rw value (omega arith)) ∙ ap (λ v. Ok (pos v)) value in
    ap (λ t. value_operand (48 ∷ 120 ∷ t)) (word_lowers n) ∙ value_operand-lowers (word_digits n) (pos n) number
