-- Ranges that are read one after the other.
use Rattle.std.proofs.Common.{◌≡◌, ℕ, suc, ◌+◌, ◌-◌, ◌≤◌, List, [], ◌∷◌, ◌++◌, length, slice_get, Some, refl, ap, subst, arith}
use Rattle.history.specs.declared.ranges.Range.{Range}
use Rattle.history.specs.Attested.{AreApart, last_end, range_end}

-- the first block that a range behind these may begin at
abbrev pub next_first : List Range → ℕ
next_first [] = 0
next_first (r ∷ more) = last_end (r ∷ more) + 1

-- one range more
pub apart_more : (ranges : List Range) (r : Range) → AreApart ranges → 1 ≤ r.attested → next_first ranges ≤ r.first → AreApart (ranges ++ (r ∷ []))
apart_more [] r apart some low = some
apart_more (a ∷ []) r apart some low = (apart, omega arith, some)
apart_more (a ∷ b ∷ more) r apart some low = (apart.0, apart.1, apart_more (b ∷ more) r apart.2 some low)

pub next_more : (ranges : List Range) (r : Range) → next_first (ranges ++ (r ∷ [])) ≡ range_end r + 1
next_more [] r = refl
next_more (a ∷ []) r = refl
next_more (a ∷ b ∷ more) r = next_more (b ∷ more) r

-- what a longer list of ranges says of its last one
pub last_apart : (ranges : List Range) (r : Range) (more : List Range) → AreApart (ranges ++ (r ∷ more)) → (1 ≤ r.attested) × (next_first ranges ≤ r.first)
last_apart [] r [] apart = (apart, omega arith)
last_apart [] r (next ∷ more) apart = (apart.0, omega arith)
last_apart (a ∷ []) r [] apart = (apart.2, omega (arith, apart.1))
last_apart (a ∷ []) r (next ∷ more) apart = (apart.2.0, omega (arith, apart.1))
last_apart (a ∷ b ∷ front) r more apart = last_apart (b ∷ front) r more apart.2

-- the last range ends where they all do
last_is : (ranges : List Range) (r : Range) → slice_get ranges (length ranges - 1) ≡ Some r → last_end ranges ≡ range_end r
last_is [] r is = cc
last_is (a ∷ []) r is = let same : a ≡ r = cc in ap range_end same
last_is (a ∷ b ∷ more) r is =
    let next : length (a ∷ b ∷ more) - 1 ≡ suc (length (b ∷ more) - 1) = omega arith in
    last_is (b ∷ more) r (subst (λ i. slice_get (a ∷ b ∷ more) i ≡ Some r) next is)

pub end_is : (ranges : List Range) (count : ℕ) (r : Range) → count ≡ length ranges → slice_get ranges (count - 1) ≡ Some r → last_end ranges ≡ range_end r
end_is ranges count r are is = last_is ranges r (subst (λ n. slice_get ranges (n - 1) ≡ Some r) are is)
