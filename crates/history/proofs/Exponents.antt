-- The powers of two from one exponent on, tested one after another.
use Rattle.std.proofs.Common.{◌≡◌, ℕ, zero, suc, ◌+◌, ◌^◌, ◌<◌, ◌≤◌, true, ◌==◌, inl, inr, arith}
use Rattle.std.specs.List.{list_any, range_with_len}
use Rattle.std.proofs.lemmas.Bool.{or_cases, or_left, or_right, eqb-true, eq-eqb, cases_eq}

-- one of the tests holds
pub exponent_found : (size a n : ℕ) → list_any (λ e. size == 2 ^ e) (range_with_len a n) ≡ true → (k : ℕ) × (a ≤ k) × (k < a + n) × (size ≡ 2 ^ k)
exponent_found size a zero h = cc
exponent_found size a (suc n) h =
    elim (or_cases (size == 2 ^ a) (list_any (λ e. size == 2 ^ e) (range_with_len (a + 1) n)) h) [
      | inl here ↦ (a, omega arith, omega arith, eqb-true size (2 ^ a) here)
      | inr later ↦ let found = exponent_found size (a + 1) n later in (found.0, omega (arith, found.1), omega (arith, found.2), found.3)
    ]

-- a test holds at its exponent
pub exponent_tested : (size a n k : ℕ) → a ≤ k → k < a + n → size ≡ 2 ^ k → list_any (λ e. size == 2 ^ e) (range_with_len a n) ≡ true
exponent_tested size a zero k low high is = absurd (omega arith)
exponent_tested size a (suc n) k low high is =
    elim (cases_eq a k) [
      | inl here ↦ or_left (size == 2 ^ a) (list_any (λ e. size == 2 ^ e) (range_with_len (a + 1) n)) (eq-eqb size (2 ^ a) (rw here is))
      | inr later ↦ or_right (size == 2 ^ a) (list_any (λ e. size == 2 ^ e) (range_with_len (a + 1) n)) (exponent_tested size (a + 1) n k (omega arith) (omega arith) is)
    ]
