-- What is read stands there.
use Rattle.std.proofs.Common.{◌≡◌, ◌==◌, ℕ, zero, suc, ◌+◌, ◌*◌, ◌/◌, ◌%◌, ◌^◌, ◌<◌, ◌≤◌, Bool, cond, true, false, ◌&&◌, List, [], ◌∷◌, ◌++◌, length, take, drop, get_or, Option, Some, None, refl, sym, ap, ◌∙◌, subst, arith, inl, inr, nat_lt}
use Rattle.std.specs.Prelude.{slice_index, nat_eq, nat_le}
use Rattle.std.specs.List.{list_all, starts_with, join_with_byte}
use Rattle.std.specs.Option.{option_and_then}
use Rattle.std.specs.Char.{is_digit, digit_value}
use Rattle.std.specs.Fmt.{decimal}
use Rattle.std.specs.Int.{w16, w32, from_be_bytes}
use Rattle.std.specs.Str.Parse.{AllDigits, digits_value}
use Rattle.std.specs.Cmp.Lexicographic.{same_text}
use Rattle.std.proofs.lemmas.Fmt.{decimal-digits_value}
use Rattle.std.proofs.lemmas.Str.Parse.{IsNumeralModel}
use Rattle.std.proofs.lemmas.Bool.{and_parts, and_cases, and_right, eqb-true, eqb-false, ltb-true, ltb-false, leb-true, lt-leb, lt-ltb, cases_lt, cond-true, cond-false}
use Rattle.std.proofs.lemmas.List.{take-append-drop}
use Rattle.std.proofs.lemmas.List.Splits.{join_with_byte-slice_split}
use Rattle.std.proofs.lemmas.Nat.{be_bytes_2, be_bytes_4}
use Rattle.std.proofs.lemmas.Option.{same_Some, cond_some}
use Rattle.hex.specs.Hex.{IsBytes, encode_lower, encode_with, lower_digits}
use Rattle.history.specs.declared.events.Width.{Width}
use Rattle.history.specs.declared.events.Width.TheVariants.{Byte, Half, Word}
use Rattle.history.specs.Layout.{width_bytes}
use Rattle.text_readers.specs.Digits.{word_digits}
use Rattle.text_readers.specs.Lines.{parts_at}
use Rattle.text_readers.specs.Numbers.{plain_decimal, digits_number, decimal_of, has_leading_zero}
use Rattle.trace.specs.Text.{width_digits}
use Rattle.trace.specs.Reading.{text_behind, low_digit, digits_at, decimal_in, decimal_at}
use Rattle.trace.proofs.Again.{pass_at, value_after}

-- what a chain that gave a value went through
pub bind_some : {A B : Type 0} (o : Option A) (f : A → Option B) (y : B) → option_and_then f o ≡ Some y → (x : A) × (o ≡ Some x) × (f x ≡ Some y)
bind_some (Some x) f y h = (x, refl, h)
bind_some None f y h = cc

pub cond_opt : {A : Type 0} (b : Bool) (o : Option A) (y : A) → cond b o None ≡ Some y → (b ≡ true) × (o ≡ Some y)
cond_opt true o y h = (refl, h)
cond_opt false o y h = cc

pub cond_none : {A : Type 0} (b : Bool) (o : Option A) (y : A) → cond b None o ≡ Some y → (b ≡ false) × (o ≡ Some y)
cond_none true o y h = cc
cond_none false o y h = (refl, h)

-- the text behind a word
pub behind_takes : (word text rest : List ℕ) → text_behind word text ≡ Some rest → text ≡ word ++ rest
behind_takes word text rest h =
    let parts = cond_some (starts_with nat_eq text word) (drop (length word) text) rest h in
    let front : word ≡ take (length word) text = same_text word (take (length word) text) (sym parts.0) in
    sym (take-append-drop (length word) text) ∙ ap (λ l. l ++ drop (length word) text) (sym front) ∙ ap (λ l. word ++ l) parts.1

low_high : (c : ℕ) → 128 ≤ c → low_digit c ≡ 16
low_high c h =
    cond-false (nat_le 48 c && nat_le c 57) _ _ (and_right (nat_le 48 c) (nat_le c 57) (lt-leb c 57 (omega (arith, h))))
    ∙ cond-false (nat_le 97 c && nat_le c 102) _ _ (and_right (nat_le 97 c) (nat_le c 102) (lt-leb c 102 (omega (arith, h))))

-- a digit stands in the table at its value
table_of_low : (c : ℕ) → low_digit c < 16 → slice_index lower_digits (low_digit c) ≡ c
table_of_low c small = elim (cases_lt c 128) [
  | inl low ↦
      let passed = pass_at (λ c. cond (nat_lt (low_digit c) 16) (slice_index lower_digits (low_digit c) == c) true) 128 c refl low in
      eqb-true _ _ (sym (cond-true (nat_lt (low_digit c) 16) (slice_index lower_digits (low_digit c) == c) true (lt-ltb _ _ small)) ∙ passed)
  | inr high ↦ absurd (omega (arith, small, low_high c high))
]

bytes_more : (b : ℕ) (bs : List ℕ) → b < 256 → IsBytes bs → IsBytes (b ∷ bs)
bytes_more b bs small bytes zero = small
bytes_more b bs small bytes (suc i) = bytes i

-- digits are those of bytes
pub record AreDigitsOf (count acc v : ℕ) (text rest : List ℕ) : Type 0 where
  pub bytes : List ℕ
  pub small : IsBytes bytes
  pub number : length bytes ≡ count
  pub spelled : text ≡ encode_lower bytes ++ rest
  pub value : v ≡ value_after acc bytes

digits_takes : (n acc v : ℕ) (text rest : List ℕ) → digits_at (2 * n) acc text ≡ Some (v, rest) → AreDigitsOf n acc v text rest
unfolding encode_with
digits_takes zero acc v text rest h =
    let same = same_Some (acc, text) (v, rest) h in
    record { bytes = []; small = λ i. omega arith; number = refl; spelled = ap (λ p. p.1) same; value = sym (ap (λ p. p.0) same) }
digits_takes (suc n) acc v [] rest h =
    let count : 2 * suc n ≡ suc (suc (2 * n)) = omega arith in
    let stopped : None ≡ Some (v, rest) = sym (ap (λ k. digits_at k acc []) count) ∙ h in
    cc
digits_takes (suc n) acc v (a ∷ []) rest h =
    let count : 2 * suc n ≡ suc (suc (2 * n)) = omega arith in
    let stopped = cond_opt (nat_lt (low_digit a) 16) None (v, rest) (sym (ap (λ k. digits_at k acc (a ∷ [])) count) ∙ h) in
    let none : None ≡ Some (v, rest) = stopped.1 in
    cc
digits_takes (suc n) acc v (a ∷ b ∷ text) rest h =
    let count : 2 * suc n ≡ suc (suc (2 * n)) = omega arith in
    let first = cond_opt (nat_lt (low_digit a) 16) (digits_at (suc (2 * n)) (acc * 16 + low_digit a) (b ∷ text)) (v, rest) (sym (ap (λ k. digits_at k acc (a ∷ b ∷ text)) count) ∙ h) in
    let second = cond_opt (nat_lt (low_digit b) 16) (digits_at (2 * n) ((acc * 16 + low_digit a) * 16 + low_digit b) text) (v, rest) first.1 in
    let more = digits_takes n ((acc * 16 + low_digit a) * 16 + low_digit b) v text rest second.1 in
    let high = ltb-true (low_digit a) 16 first.0 in
    let low = ltb-true (low_digit b) 16 second.0 in
    let byte = low_digit a * 16 + low_digit b in
    let upper : byte / 16 ≡ low_digit a = omega (arith, low) in
    let lower : byte % 16 ≡ low_digit b = omega (arith, low) in
    let one : a ≡ slice_index lower_digits (byte / 16) = sym (table_of_low a high) ∙ ap (slice_index lower_digits) (sym upper) in
    let two : b ≡ slice_index lower_digits (byte % 16) = sym (table_of_low b low) ∙ ap (slice_index lower_digits) (sym lower) in
    let sum : (acc * 16 + low_digit a) * 16 + low_digit b ≡ acc * 256 + byte = omega arith in
    record {
      bytes = byte ∷ more.bytes;
      small = bytes_more byte more.bytes (omega (arith, high, low)) more.small;
      number = ap suc more.number;
      spelled = ap (λ c. c ∷ b ∷ text) one ∙ ap (λ c. slice_index lower_digits (byte / 16) ∷ c ∷ text) two ∙ ap (λ t. slice_index lower_digits (byte / 16) ∷ slice_index lower_digits (byte % 16) ∷ t) more.spelled;
      value = more.value ∙ ap (λ m. value_after m more.bytes) sum;
    }

four_bytes : (bs : List ℕ) → length bs ≡ 4 → IsBytes bs → (value_after 0 bs ≡ from_be_bytes w32 bs) × (value_after 0 bs < 2 ^ 32)
four_bytes [] n h = absurd (omega (arith, n))
four_bytes (a ∷ []) n h = absurd (omega (arith, n))
four_bytes (a ∷ b ∷ []) n h = absurd (omega (arith, n))
four_bytes (a ∷ b ∷ c ∷ []) n h = absurd (omega (arith, n))
four_bytes (a ∷ b ∷ c ∷ d ∷ []) n h = (omega arith, omega (arith, h 0, h 1, h 2, h 3))
four_bytes (a ∷ b ∷ c ∷ d ∷ e ∷ more) n h = absurd (omega (arith, n))

two_bytes : (bs : List ℕ) → length bs ≡ 2 → IsBytes bs → (value_after 0 bs ≡ from_be_bytes w16 bs) × (value_after 0 bs < 256 ^ 2)
two_bytes [] n h = absurd (omega (arith, n))
two_bytes (a ∷ []) n h = absurd (omega (arith, n))
two_bytes (a ∷ b ∷ []) n h = (omega arith, omega (arith, h 0, h 1))
two_bytes (a ∷ b ∷ c ∷ more) n h = absurd (omega (arith, n))

single_byte : (bs : List ℕ) → length bs ≡ 1 → IsBytes bs → (bs ≡ value_after 0 bs ∷ []) × (value_after 0 bs < 256)
single_byte [] n h = absurd (omega (arith, n))
single_byte (a ∷ []) n h = let same : a ≡ 0 * 256 + a = omega arith in (ap (λ x. x ∷ []) same, omega (arith, h 0))
single_byte (a ∷ b ∷ more) n h = absurd (omega (arith, n))

pub word_takes : (v : ℕ) (text rest : List ℕ) → digits_at 8 0 text ≡ Some (v, rest) → (v < 2 ^ 32) × (text ≡ word_digits v ++ rest)
word_takes v text rest h =
    let d = digits_takes 4 0 v text rest h in
    let four = four_bytes d.bytes d.number d.small in
    let same = be_bytes_4 d.bytes v d.number d.small (d.value ∙ four.0) in
    (subst (λ n. n < 2 ^ 32) (sym d.value) four.1, d.spelled ∙ ap (λ l. encode_lower l ++ rest) (sym same))

pub value_takes : (width : Width) (v : ℕ) (text rest : List ℕ) → digits_at (2 * width_bytes width) 0 text ≡ Some (v, rest) → (v < 256 ^ width_bytes width) × (text ≡ width_digits width v ++ rest)
value_takes Byte v text rest h =
    let d = digits_takes 1 0 v text rest h in
    let one = single_byte d.bytes d.number d.small in
    let same : d.bytes ≡ v ∷ [] = one.0 ∙ ap (λ x. x ∷ []) (sym d.value) in
    (subst (λ n. n < 256) (sym d.value) one.1, d.spelled ∙ ap (λ l. encode_lower l ++ rest) same)
value_takes Half v text rest h =
    let d = digits_takes 2 0 v text rest h in
    let two = two_bytes d.bytes d.number d.small in
    let same = be_bytes_2 d.bytes v d.number d.small (d.value ∙ two.0) in
    (subst (λ n. n < 256 ^ 2) (sym d.value) two.1, d.spelled ∙ ap (λ l. encode_lower l ++ rest) (sym same))
value_takes Word v text rest h = word_takes v text rest h

-- a plain decimal is that of its number
own : IsNumeralModel (AllDigits 10) (digits_value 10)
own = record { to = λ ds h. h; from = λ ds h. h; same = λ ds h. refl }

all_digits : (ds : List ℕ) → list_all (λ c. is_digit c 10) ds ≡ true → AllDigits 10 ds
all_digits [] all = tt
all_digits (c ∷ ds) all =
    let parts = and_parts (is_digit c 10) (list_all (λ c. is_digit c 10) ds) all in
    (ltb-true (digit_value c) 10 parts.0, all_digits ds parts.1)

plain_takes : (word : List ℕ) (n : ℕ) → plain_decimal word ≡ Some n → (n < 2 ^ 64) × (word ≡ decimal n)
unfolding plain_decimal digits_number
plain_takes word n h =
    let plain = cond_none (has_leading_zero word) (decimal_of word) n h in
    let sized = cond_opt (nat_le 1 (length word) && nat_le (length word) 20) (digits_number 10 word) n plain.1 in
    let some = leb-true 1 (length word) (and_parts (nat_le 1 (length word)) (nat_le (length word) 20) sized.0).0 in
    let told = cond_some (list_all (λ c. is_digit c 10) word && nat_lt (digits_value 10 word) (2 ^ 64)) (digits_value 10 word) n sized.1 in
    let parts = and_parts (list_all (λ c. is_digit c 10) word) (nat_lt (digits_value 10 word) (2 ^ 64)) told.0 in
    let small = ltb-true (digits_value 10 word) (2 ^ 64) parts.1 in
    let alone : get_or word 0 0 ≡ 48 → length word ≡ 1 = λ first. elim (and_cases (nat_lt 1 (length word)) (slice_index word 0 == 48) plain.0) [
      | inl short ↦ omega (arith, some, ltb-false 1 (length word) short)
      | inr other ↦ absurd (eqb-false (slice_index word 0) 48 other first)
    ] in
    (subst (λ m. m < 2 ^ 64) told.1 small, sym (decimal-digits_value own word (all_digits word parts.0) some alone small) ∙ ap decimal told.1)

decimal_in_takes : (end n : ℕ) (parts : List (List ℕ)) (rest : List ℕ) → decimal_in end parts ≡ Some (n, rest) → (n < 2 ^ 64) × (join_with_byte end parts ≡ decimal n ++ end ∷ rest)
decimal_in_takes end n [] rest h = cc
decimal_in_takes end n (word ∷ []) rest h = cc
decimal_in_takes end n (word ∷ next ∷ more) rest h =
    let read = bind_some (plain_decimal word) (λ m. Some (m, join_with_byte end (next ∷ more))) (n, rest) h in
    let same = same_Some (read.0, join_with_byte end (next ∷ more)) (n, rest) read.2 in
    let plain = plain_takes word read.0 read.1 in
    (subst (λ m. m < 2 ^ 64) (ap (λ p. p.0) same) plain.0, ap (λ w. w ++ end ∷ join_with_byte end (next ∷ more)) (plain.1 ∙ ap decimal (ap (λ p. p.0) same)) ∙ ap (λ r. decimal n ++ end ∷ r) (ap (λ p. p.1) same))

pub decimal_takes : (end n : ℕ) (text rest : List ℕ) → decimal_at end text ≡ Some (n, rest) → (n < 2 ^ 64) × (text ≡ decimal n ++ end ∷ rest)
decimal_takes end n text rest h =
    let e = decimal_in_takes end n (parts_at end text) rest h in
    (e.0, sym (join_with_byte-slice_split end text) ∙ e.1)
