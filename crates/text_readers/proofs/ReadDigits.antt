-- What number_of is, as far as a text has been read.
use Rattle.std.proofs.Common.{◌≡◌, ℕ, ◌+◌, ◌*◌, ◌^◌, ◌<◌, ◌≤◌, Bool, true, false, cond, ◌&&◌, List, [], ◌∷◌, length, take, get_or, Some, None, inl, inr, refl, sym, ◌∙◌, lit<, arith}
use Rattle.std.specs.List.{list_all}
use Rattle.std.proofs.lemmas.List.{take_all}
use Rattle.std.specs.Char.{digit_value, is_digit}
use Rattle.std.specs.Str.Parse.{digits_value, AllDigits}
use Rattle.std.proofs.lemmas.List.Folds.{list_all_at, list_all_more}
use Rattle.std.proofs.lemmas.Str.Parse.{digits_value-take-le}
use Rattle.std.proofs.lemmas.Int.Digits.{digits_value_more, digits_value-lt}
use Rattle.std.proofs.Math.Nat.{pow-le-pow_right}
use Rattle.std.proofs.lemmas.Bool.{cases_lt, lt-ltb, le-ltb, ltb-true, and_parts}
use Rattle.text_readers.specs.Numbers.{digits_number}

both : {a b : Bool} → a ≡ true → b ≡ true → (a && b) ≡ true
both {a = true} {b = true} h g = refl
both {a = true} {b = false} h g = cc
both {a = false} {b = b} h g = cc

chosen : (all small : Bool) (v : ℕ) → (all ≡ false) → cond (all && small) (Some v) None ≡ None
chosen true small v h = cc
chosen false small v h = refl

too_large : (all small : Bool) (v : ℕ) → (small ≡ false) → cond (all && small) (Some v) None ≡ None
too_large true true v h = cc
too_large true false v h = refl
too_large false small v h = refl

-- the first i bytes are digits, and the number that they are fits 64 bits
pub record ReadsSoFar (base : ℕ) (ds : List ℕ) (i v : ℕ) : Type 0 where
  pub value : v ≡ digits_value base (take i ds)
  pub digits : list_all (λ c. is_digit c base) (take i ds) ≡ true
  pub small : v < 2 ^ 64

-- the next byte is no digit, or the digits with it are too large
pub digits_number-stops : (base : ℕ) (ds : List ℕ) (i v : ℕ) → ReadsSoFar base ds i v → 1 ≤ base → i < length ds
    → ((digit_value (get_or ds i 0) < base) × (v * base + digit_value (get_or ds i 0) < 2 ^ 64) → ⊥) → digits_number base ds ≡ None
unfolding digits_number
digits_number-stops base ds i v so_far positive inside stops =
    let d = digit_value (get_or ds i 0) in
    let more : digits_value base (take (i + 1) ds) ≡ v * base + d = rw (← so_far.value) at (digits_value_more base ds i inside) in
    let front : digits_value base (take (i + 1) ds) ≤ digits_value base ds = digits_value-take-le base ds (i + 1) positive in
    elim (cases_lt d base) [
      | inl digit ↦ elim (cases_lt (digits_value base ds) (2 ^ 64)) [
        | inl small ↦ absurd (stops (digit, omega arith))
        | inr large ↦ too_large (list_all (λ c. is_digit c base) ds) _ _ (le-ltb _ _ large)
      ]
      | inr other ↦ chosen _ _ _ (list_all_at (λ c. is_digit c base) ds i 0 inside (le-ltb _ _ other))
    ]

fits : (all small : Bool) (v : ℕ) → all ≡ true → small ≡ true → cond (all && small) (Some v) None ≡ Some v
fits true true v h g = refl
fits true false v h g = cc
fits false small v h g = cc

-- digits that fit
pub digits_number-digits : (base : ℕ) (ds : List ℕ) (i v : ℕ) → length ds ≤ i → ReadsSoFar base ds i v → digits_number base ds ≡ Some v
unfolding digits_number
digits_number-digits base ds i v past whole =
    let e = take_all i ds past in
    let is : v ≡ digits_value base ds = rw e at whole.value in
    rw (← is) (fits _ _ _ (rw e at whole.digits) (lt-ltb _ _ whole.small))

-- one digit more
pub digits_more : (base : ℕ) (ds : List ℕ) (i v more : ℕ) → i < length ds → ReadsSoFar base ds i v
    → digit_value (get_or ds i 0) < base → v * base + digit_value (get_or ds i 0) < 2 ^ 64 → more ≡ v * base + digit_value (get_or ds i 0)
    → ReadsSoFar base ds (i + 1) more
digits_more base ds i v more inside so_far digit small is = record {
  value = is ∙ sym (rw (← so_far.value) at (digits_value_more base ds i inside));
  digits = list_all_more (λ c. is_digit c base) ds i 0 inside ∙ both so_far.digits (lt-ltb _ _ digit);
  small = rw is small;
}

pub ReadsSoFar-none : (base : ℕ) (ds : List ℕ) → ReadsSoFar base ds 0 0
ReadsSoFar-none base ds = record { value = refl; digits = refl; small = lit< tt }

all_digits : (base : ℕ) (ds : List ℕ) → list_all (λ c. is_digit c base) ds ≡ true → AllDigits base ds
all_digits base [] all = tt
all_digits base (c ∷ cs) all =
    let parts = and_parts (is_digit c base) (list_all (λ c. is_digit c base) cs) all in
    (ltb-true (digit_value c) base parts.0, all_digits base cs parts.1)

chosen_number : (all small : Bool) (v w : ℕ) → cond (all && small) (Some v) None ≡ Some w → (all ≡ true) × (v ≡ w)
chosen_number true true v w h = (refl, cc)
chosen_number true false v w h = cc
chosen_number false small v w h = cc

-- so many hexadecimal digits are below 16 to their number
pub digits_number-hex : (ds : List ℕ) (v : ℕ) → digits_number 16 ds ≡ Some v → v < 16 ^ length ds
unfolding digits_number
digits_number-hex ds v h =
    let parts = chosen_number (list_all (λ c. is_digit c 16) ds) _ _ _ h in
    let below : digits_value 16 ds < 16 ^ length ds = digits_value-lt 16 ds (all_digits 16 ds parts.0) in
    rw parts.1 at below

-- and eight of them fit 32 bits
pub digits_number-word : (ds : List ℕ) (v : ℕ) → digits_number 16 ds ≡ Some v → length ds ≤ 8 → v < 2 ^ 32
digits_number-word ds v h few =
    let below : v < 16 ^ length ds = digits_number-hex ds v h in
    let most : 16 ^ length ds ≤ 16 ^ 8 = pow-le-pow_right {n = 16} (lit< tt) few in
    omega (arith, below, most)
