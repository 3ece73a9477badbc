-- What reading gives where a text is too short, and where it has been cut.
use Rattle.std.proofs.Common.{◌≡◌, ◌==◌, ℕ, zero, suc, ◌+◌, ◌-◌, ◌*◌, ◌%◌, ◌^◌, ◌<◌, ◌≤◌, drop, get_or, lit<, Bool, true, false, cond, List, [], ◌∷◌, length, Option, Some, None, refl, sym, ap, ◌∙◌, arith, inl, inr}
use Rattle.std.specs.Prelude.{nat_lt}
use Rattle.std.specs.Int.RustNames.{bit_or}
use Rattle.std.specs.List.{join_with_byte}
use Rattle.std.proofs.Math.Nat.{pow-le-pow_right}
use Rattle.std.proofs.lemmas.Bool.{cond-true, cond-false, lt-ltb, le-ltb, cases_lt}
use Rattle.std.proofs.lemmas.List.{drop_more}
use Rattle.std.proofs.lemmas.Nat.{pow-add, or_lt, le_or_l, le_or_r}
use Rattle.std.proofs.lemmas.List.Splits.{length-slice_split, join_with_byte-slice_split}
use Rattle.sequencing.specs.Options.{◌>>=◌}
use Rattle.text_readers.specs.Lines.{parts_at}
use Rattle.text_readers.specs.Numbers.{plain_decimal}
use Rattle.trace.specs.Reading.{low_digit, digits_at, decimal_in, decimal_at}

none_either : {A : Type 0} (t : Bool) (o : Option A) → o ≡ None → cond t o None ≡ None
none_either true o h = h
none_either false o h = refl

pub digits_short : (count value : ℕ) (text : List ℕ) → length text < count → digits_at count value text ≡ None
digits_short zero value text h = absurd (omega (arith, h))
digits_short (suc count) value [] h = refl
digits_short (suc count) value (c ∷ text) h = none_either (nat_lt (low_digit c) 16) (digits_at count (value * 16 + low_digit c) text) (digits_short count (value * 16 + low_digit c) text (omega (arith, h)))

number_first : (end n : ℕ) (word : List ℕ) (parts : List (List ℕ)) → 0 < length parts → plain_decimal word ≡ Some n → decimal_in end (word ∷ parts) ≡ Some (n, join_with_byte end parts)
number_first end n word [] some is = absurd (omega (arith, some))
number_first end n word (next ∷ more) some is = ap (λ o. o >>= λ m. Some (m, join_with_byte end (next ∷ more))) is

pub number_found : (end n : ℕ) (text word rest : List ℕ) → parts_at end text ≡ word ∷ parts_at end rest → plain_decimal word ≡ Some n → decimal_at end text ≡ Some (n, rest)
number_found end n text word rest cut is =
    let some : 0 < length (parts_at end rest) = omega (arith, length-slice_split (λ b. b == end) rest) in
    ap (decimal_in end) cut ∙ number_first end n word (parts_at end rest) some is ∙ ap (λ r. Some (n, r)) (join_with_byte-slice_split end rest)

-- one digit on
digits_step : (count i value : ℕ) (text : List ℕ) → i < count → i < length text
    → digits_at (count - i) value (drop i text) ≡ cond (nat_lt (low_digit (get_or text i 0)) 16) (digits_at (count - (i + 1)) (value * 16 + low_digit (get_or text i 0)) (drop (i + 1) text)) None
digits_step count i value text before inside =
    let next : count - i ≡ suc (count - (i + 1)) = omega (arith, before) in
    ap (λ n. digits_at n value (drop i text)) next ∙ ap (digits_at (suc (count - (i + 1))) value) (drop_more text i 0 inside)

pub digits_more : (count i value digit : ℕ) (text : List ℕ) → i < count → i < length text → digit ≡ low_digit (get_or text i 0) → digit < 16
    → digits_at (count - i) value (drop i text) ≡ digits_at (count - (i + 1)) (value * 16 + digit) (drop (i + 1) text)
digits_more count i value digit text before inside is small =
    let low : low_digit (get_or text i 0) < 16 = omega (arith, is, small) in
    digits_step count i value text before inside ∙ cond-true _ _ _ (lt-ltb _ _ low) ∙ ap (λ d. digits_at (count - (i + 1)) (value * 16 + d) (drop (i + 1) text)) (sym is)

pub digits_stop : (count i value digit : ℕ) (text : List ℕ) → i < count → i < length text → digit ≡ low_digit (get_or text i 0) → 16 ≤ digit → digits_at (count - i) value (drop i text) ≡ None
digits_stop count i value digit text before inside is large =
    let high : 16 ≤ low_digit (get_or text i 0) = omega (arith, is, large) in
    digits_step count i value text before inside ∙ cond-false _ _ _ (le-ltb _ _ high)

-- so many digits say a small number
pub digits_small : (i value digit : ℕ) → value < 16 ^ i → digit < 16 → value * 16 + digit < 16 ^ (i + 1)
digits_small i value digit small low = omega (arith, small, low, pow-add 16 i 1)

pub digits_fit : (i value digit : ℕ) → i < 8 → value < 16 ^ i → digit < 16 → value * 16 + digit < 2 ^ 32
digits_fit i value digit few small low =
    let seven : i ≤ 7 = omega (arith, few) in
    let most : 16 ^ i ≤ 16 ^ 7 = pow-le-pow_right {n = 16} (lit< tt) seven in
    omega (arith, small, low, most)

-- of so many bytes the marks tell whether all are digits, and if so, what number they say so far
pub record HasSeen (count i seen value : ℕ) (text : List ℕ) : Type 0 where
  pub said : seen < 16 → (value < 16 ^ i) × (digits_at (count - i) value (drop i text) ≡ digits_at count 0 text)
  pub none : 16 ≤ seen → digits_at count 0 text ≡ None

-- the marks of a digit more
marks : (seen digit : ℕ) → 16 ≤ bit_or seen digit → (seen < 16) → 16 ≤ digit
marks seen digit some low = elim (cases_lt digit 16) [
  | inl small ↦ absurd (omega (arith, some, or_lt 4 seen digit low small))
  | inr large ↦ large
]

pub seen_more : (count i seen value digit : ℕ) (text : List ℕ) → count ≤ 8 → i < count → i < length text → digit ≡ low_digit (get_or text i 0)
    → HasSeen count i seen value text → HasSeen count (i + 1) (bit_or seen digit) ((value * 16 % 2 ^ 32 + digit) % 2 ^ 32) text
seen_more count i seen value digit text few before inside is kept = record {
  said = λ all.
      let low : seen < 16 = omega (arith, all, le_or_l seen digit) in
      let small : digit < 16 = omega (arith, all, le_or_r seen digit) in
      let so = kept.said low in
      let fit = digits_fit i value digit (omega (arith, few, before)) so.0 small in
      let next : (value * 16 % 2 ^ 32 + digit) % 2 ^ 32 ≡ value * 16 + digit = omega (arith, fit) in
      rw next (digits_small i value digit so.0 small, sym (digits_more count i value digit text before inside is small) ∙ so.1);
  none = λ some. elim (cases_lt seen 16) [
    | inl low ↦ sym (kept.said low).1 ∙ digits_stop count i value digit text before inside is (marks seen digit some low)
    | inr high ↦ kept.none high
  ];
}
