-- The index of an attested block.
use Rattle.std.proofs.Common.{◌≡◌, ℕ, suc, ◌+◌, ◌<◌, ◌≤◌, Bool, true, false, cond, List, [], ◌∷◌, length, refl, sym, ap, ◌∙◌, inl, inr, arith}
use Rattle.std.specs.Prelude.{◌==◌, nat_lt, filter, IsTrue}
use Rattle.std.specs.List.{list_any}
use Rattle.std.proofs.lemmas.Bool.{cases_eq, or_cases, cond-false, le-ltb, false≢true, eqb-true}
use Rattle.history.specs.declared.ranges.Range.{Range}
use Rattle.history.specs.Attested.{is_attested, index_of, attested_block, total}

-- each attested block stands at its index
abbrev pub StandAtIndexes : List Range → Type 0
StandAtIndexes ranges = (block : ℕ) → IsTrue (is_attested ranges block) → attested_block ranges (index_of ranges block) ≡ block

-- so two with one index are the same
pub same_index : (ranges : List Range) → StandAtIndexes ranges → (block other : ℕ) → IsTrue (is_attested ranges block) → IsTrue (is_attested ranges other) → index_of ranges block ≡ index_of ranges other → block ≡ other
same_index ranges at block other here there same = sym (at block here) ∙ ap (attested_block ranges) same ∙ at other there

-- a test keeps no more than there is
kept_few : (keep : Bool) (x count all : ℕ) (xs : List ℕ) → length xs ≡ count → count ≤ all → length (cond keep (x ∷ xs) xs) ≤ suc all
kept_few true x count all xs is few = omega (arith, is)
kept_few false x count all xs is few = omega (arith, is)

few_below : (b : ℕ) (xs : List ℕ) → length (filter (λ other. nat_lt other b) xs) ≤ length xs
few_below b [] = omega arith
few_below b (x ∷ xs) = kept_few (nat_lt x b) x (length (filter (λ other. nat_lt other b) xs)) (length xs) (filter (λ other. nat_lt other b) xs) refl (few_below b xs)

-- a number that is there isn't less than itself, so fewer are less than it than there are
fewer_below : (b : ℕ) (xs : List ℕ) → IsTrue (list_any (λ other. other == b) xs) → length (filter (λ other. nat_lt other b) xs) < length xs
fewer_below b [] there = absurd (false≢true there)
fewer_below b (x ∷ xs) there =
    elim (cases_eq x b) [
      | inl e ↦
          let none : filter (λ other. nat_lt other b) (x ∷ xs) ≡ filter (λ other. nat_lt other b) xs = cond-false (nat_lt x b) _ _ (le-ltb x b (omega arith)) in
          let few = few_below b xs in
          omega (arith, ap (λ (l : List ℕ). length l) none, few)
      | inr n ↦
          let later : IsTrue (list_any (λ other. other == b) xs) = elim (or_cases (x == b) _ there) [ inl y ↦ absurd (n (eqb-true x b y)) | inr l ↦ l ] in
          let fewer = fewer_below b xs later in
          let kept = kept_few (nat_lt x b) x (length (filter (λ other. nat_lt other b) xs)) (length (filter (λ other. nat_lt other b) xs)) (filter (λ other. nat_lt other b) xs) refl (omega arith) in
          omega (arith, kept, fewer)
    ]

-- the index of an attested block is below the number of attested blocks
pub index_fits : (ranges : List Range) (block : ℕ) → IsTrue (is_attested ranges block) → index_of ranges block < total ranges
index_fits ranges block attested = fewer_below block _ attested
