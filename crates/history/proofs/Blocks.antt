-- The attested blocks rise; what that says of their indexes.
use Rattle.std.proofs.Common.{◌≡◌, ℕ, zero, suc, ◌+◌, ◌-◌, ◌<◌, ◌≤◌, true, false, List, [], ◌∷◌, ◌++◌, length, refl, sym, ap, ap₂, ◌∙◌, subst, inl, inr, arith, min}
use Rattle.std.specs.Prelude.{◌&&◌, ◌||◌, ◌==◌, nat_le, nat_lt, filter, slice_index, sum_by}
use Rattle.std.specs.List.{list_any, range_with_len}
use Rattle.std.proofs.lemmas.Bool.{cases_eq, cases_lt, cases_order, or_cases, or_left, or_from, and_parts, and_from, and_left, and_right, cond-true, cond-false, false≢true, eqb-true, eq-eqb, ne_eqb, ltb-true, lt-ltb, le-ltb, le-leb, lt-leb}
use Rattle.std.proofs.lemmas.List.{length-append}
use Rattle.std.proofs.lemmas.List.FromFn.{length-range_with_len}
use Rattle.std.proofs.lemmas.List.Folds.{list_any-append}
use Rattle.std.proofs.lemmas.List.Elements.{filter-append}
use Rattle.std.proofs.lemmas.List.Sums.{sum_by-cons}
use Rattle.history.specs.Attested.{AreApart, attested_blocks, is_attested, index_of, total, last_end, range_end}
use Rattle.history.specs.declared.ranges.Range.{Range}

-- each number is greater than the one before, and the first is at least low
abbrev pub Rises : ℕ → List ℕ → Type 0
Rises low [] = Unit {0}
Rises low (x ∷ xs) = (low ≤ x) × Rises (suc x) xs

-- how many numbers of the list are less
abbrev pub below : ℕ → List ℕ → ℕ
below b xs = length (filter (λ other. nat_lt other b) xs)

-- what is less than the first isn't there
pub not_there : (low b : ℕ) (xs : List ℕ) → Rises low xs → b < low → list_any (λ other. other == b) xs ≡ false
not_there low b [] rises less = refl
not_there low b (x ∷ xs) rises less = or_from (x == b) _ (ne_eqb x b (λ e. absurd (omega (arith, rises.0)))) (not_there (suc x) b xs rises.1 (omega (arith, rises.0)))

-- and none is less than it
pub none_less : (low b : ℕ) (xs : List ℕ) → Rises low xs → b ≤ low → filter (λ other. nat_lt other b) xs ≡ []
none_less low b [] rises less = refl
none_less low b (x ∷ xs) rises less = cond-false (nat_lt x b) _ _ (le-ltb x b (omega (arith, rises.0))) ∙ none_less (suc x) b xs rises.1 (omega (arith, rises.0))

-- a number that is there stands where so many are less
pub stands_at : (low b : ℕ) (xs : List ℕ) → Rises low xs → list_any (λ other. other == b) xs ≡ true → (below b xs < length xs) × (slice_index xs (below b xs) ≡ b)
stands_at low b [] rises there = absurd (false≢true there)
stands_at low b (x ∷ xs) rises there =
    elim (cases_eq x b) [
      | inl e ↦
          let none : below b (x ∷ xs) ≡ 0 = ap (λ l. length l) (none_less x b (x ∷ xs) (omega arith, rises.1) (omega arith)) in
          (omega (arith, none), ap (slice_index (x ∷ xs)) none ∙ e)
      | inr n ↦
          let later : list_any (λ other. other == b) xs ≡ true = elim (or_cases (x == b) _ there) [ inl y ↦ absurd (n (eqb-true x b y)) | inr l ↦ l ] in
          let above : x < b = elim (cases_lt x b) [ inl l ↦ l | inr g ↦ absurd (false≢true (sym (not_there (suc x) b xs rises.1 (omega arith)) ∙ later)) ] in
          let one : below b (x ∷ xs) ≡ suc (below b xs) = ap (λ l. length l) (cond-true (nat_lt x b) _ _ (lt-ltb x b above)) in
          let rest = stands_at (suc x) b xs rises.1 later in
          (omega (arith, one, rest.0), ap (slice_index (x ∷ xs)) one ∙ rest.1)
    ]

-- as many are less than a number as stand before it
pub counts_to : (low index : ℕ) (xs : List ℕ) → Rises low xs → index < length xs → (below (slice_index xs index) xs ≡ index) × (low ≤ slice_index xs index)
counts_to low index [] rises within = absurd (omega (arith, within))
counts_to low zero (x ∷ xs) rises within = (ap (λ l. length l) (none_less x x (x ∷ xs) (omega arith, rises.1) (omega arith)), rises.0)
counts_to low (suc index) (x ∷ xs) rises within =
    let rest = counts_to (suc x) index xs rises.1 (omega (arith, within)) in
    let one : below (slice_index xs index) (x ∷ xs) ≡ suc (below (slice_index xs index) xs) = ap (λ l. length l) (cond-true (nat_lt x (slice_index xs index)) _ _ (lt-ltb x _ (omega (arith, rest.1)))) in
    (one ∙ ap suc rest.0, omega (arith, rest.1, rises.0))

rises_lower : (low high : ℕ) (xs : List ℕ) → low ≤ high → Rises high xs → Rises low xs
rises_lower low high [] less rises = rises
rises_lower low high (x ∷ xs) less rises = (omega (arith, rises.0), rises.1)

rises_range : (low a n : ℕ) (rest : List ℕ) → low ≤ a → Rises (a + n) rest → Rises low (range_with_len a n ++ rest)
rises_range low a zero rest less rises = rises_lower low (a + 0) rest (omega arith) rises
rises_range low a (suc n) rest less rises =
    let same : a + suc n ≡ a + 1 + n = omega arith in
    (less, rises_range (suc a) (a + 1) n rest (omega arith) (subst (λ m. Rises m rest) same rises))

rises_from : (low : ℕ) (r : Range) (more : List Range) → AreApart (r ∷ more) → low ≤ r.first → Rises low (attested_blocks (r ∷ more))
rises_from low r [] apart less = rises_range low r.first r.attested [] less cc
rises_from low r (next ∷ more) apart less = rises_range low r.first r.attested (attested_blocks (next ∷ more)) less (rises_from (r.first + r.attested) next more apart.2 (omega (arith, apart.1)))

-- the attested blocks rise
pub rises : (ranges : List Range) → AreApart ranges → Rises 0 (attested_blocks ranges)
rises [] apart = cc
rises (r ∷ more) apart = rises_from 0 r more apart (omega arith)

-- a number is in a range of numbers
range_any : (a n b : ℕ) → list_any (λ other. other == b) (range_with_len a n) ≡ (nat_le a b && nat_lt b (a + n))
range_any a zero b =
    elim (cases_lt b a) [
      | inl less ↦ sym (and_left (nat_le a b) (nat_lt b (a + 0)) (lt-leb a b less))
      | inr more ↦ sym (and_right (nat_le a b) (nat_lt b (a + 0)) (le-ltb b (a + 0) (omega arith)))
    ]
range_any a (suc n) b =
    elim (cases_order a b) [
      | inl e ↦ or_left (a == b) _ (eq-eqb a b e) ∙ sym (and_from (nat_le a b) (nat_lt b (a + suc n)) (le-leb a b (omega arith)) (lt-ltb b (a + suc n) (omega arith)))
      | inr (inl less) ↦
          let past : a + 1 + n ≡ a + suc n = omega arith in
          ap (λ t. t || list_any (λ other. other == b) (range_with_len (a + 1) n)) (ne_eqb a b (λ e. absurd (omega arith)))
          ∙ range_any (a + 1) n b
          ∙ ap₂ (λ s t. s && t) (le-leb (a + 1) b (omega arith) ∙ sym (le-leb a b (omega arith))) (ap (λ m. nat_lt b m) past)
      | inr (inr more) ↦
          ap (λ t. t || list_any (λ other. other == b) (range_with_len (a + 1) n)) (ne_eqb a b (λ e. absurd (omega arith)))
          ∙ range_any (a + 1) n b
          ∙ and_left (nat_le (a + 1) b) _ (lt-leb (a + 1) b (omega arith))
          ∙ sym (and_left (nat_le a b) _ (lt-leb a b more))
    ]

-- attested blocks are those that a range has
pub attested_by_ranges : (ranges : List Range) (block : ℕ) → is_attested ranges block ≡ list_any (λ r. nat_le r.first block && nat_lt block (range_end r)) ranges
attested_by_ranges [] block = refl
attested_by_ranges (r ∷ more) block =
    list_any-append (λ other. other == block) (range_with_len r.first r.attested) (attested_blocks more)
    ∙ ap₂ (λ s t. s || t) (range_any r.first r.attested block) (attested_by_ranges more block)

-- how many numbers of a range are less
below_range : (a n b : ℕ) → below b (range_with_len a n) ≡ min n (b - a)
below_range a zero b = omega arith
below_range a (suc n) b =
    elim (cases_lt a b) [
      | inl less ↦
          let one : below b (a ∷ range_with_len (a + 1) n) ≡ suc (below b (range_with_len (a + 1) n)) = ap (λ l. length l) (cond-true (nat_lt a b) _ _ (lt-ltb a b less)) in
          let rest = below_range (a + 1) n b in
          omega (arith, one, rest)
      | inr more ↦
          let none : below b (a ∷ range_with_len (a + 1) n) ≡ below b (range_with_len (a + 1) n) = ap (λ l. length l) (cond-false (nat_lt a b) _ _ (le-ltb a b more)) in
          let rest = below_range (a + 1) n b in
          omega (arith, none, rest)
    ]

pub index_by_ranges : (ranges : List Range) (block : ℕ) → index_of ranges block ≡ sum_by (λ r. min r.attested (block - r.first)) ranges
index_by_ranges [] block = refl
index_by_ranges (r ∷ more) block =
    ap (λ l. length l) (filter-append (λ other. nat_lt other block) (range_with_len r.first r.attested) (attested_blocks more))
    ∙ length-append (filter (λ other. nat_lt other block) (range_with_len r.first r.attested)) _
    ∙ ap₂ (λ m n. m + n) (below_range r.first r.attested block) (index_by_ranges more block)
    ∙ sym (sum_by-cons (λ r. min r.attested (block - r.first)) r more)

total_more : (r : Range) (more : List Range) → total (r ∷ more) ≡ r.attested + total more
total_more r more = length-append (range_with_len r.first r.attested) (attested_blocks more) ∙ ap (λ n. n + total more) (length-range_with_len r.first r.attested)

pub total_by_ranges : (ranges : List Range) → total ranges ≡ sum_by (λ r. r.attested) ranges
total_by_ranges [] = refl
total_by_ranges (r ∷ more) = total_more r more ∙ ap (λ n. r.attested + n) (total_by_ranges more) ∙ sym (sum_by-cons (λ r. r.attested) r more)

-- the blocks up to the end of the last range are at least as many
pub total_fits : (r : Range) (more : List Range) → AreApart (r ∷ more) → r.first + total (r ∷ more) ≤ last_end (r ∷ more)
total_fits r [] apart = let one = total_more r [] in omega (arith, one)
total_fits r (next ∷ more) apart = let one = total_more r (next ∷ more) in let rest = total_fits next more apart.2 in omega (arith, one, rest, apart.1)

-- an attested block lies before the end of the last range
range_inside : (block : ℕ) (r : Range) (more : List Range) → AreApart (r ∷ more) → list_any (λ r. nat_le r.first block && nat_lt block (range_end r)) (r ∷ more) ≡ true → block < last_end (r ∷ more)
range_inside block r [] apart has =
    elim (or_cases (nat_le r.first block && nat_lt block (range_end r)) _ has) [
      | inl here ↦ ltb-true _ _ (and_parts (nat_le r.first block) _ here).1
      | inr none ↦ absurd (false≢true none)
    ]
range_inside block r (next ∷ more) apart has =
    elim (or_cases (nat_le r.first block && nat_lt block (range_end r)) _ has) [
      | inl here ↦
          let low = ltb-true _ _ (and_parts (nat_le r.first block) _ here).1 in
          let rest = total_fits next more apart.2 in
          omega (arith, low, rest, apart.1)
      | inr later ↦ range_inside block next more apart.2 later
    ]

pub attested_inside : (ranges : List Range) (block : ℕ) → AreApart ranges → is_attested ranges block ≡ true → block < last_end ranges
attested_inside [] block apart attested = absurd (false≢true attested)
attested_inside (r ∷ more) block apart attested = range_inside block r more apart (sym (attested_by_ranges (r ∷ more) block) ∙ attested)

pub total_low : (ranges : List Range) → AreApart ranges → total ranges ≤ last_end ranges
total_low [] apart = omega arith
total_low (r ∷ more) apart = let fits = total_fits r more apart in omega (arith, fits)
