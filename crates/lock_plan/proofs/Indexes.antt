-- The attested blocks by their indexes, range by range.
use Rattle.std.proofs.Common.{◌≡◌, ℕ, zero, suc, ◌+◌, ◌<◌, ◌≤◌, Bool, not, ◌||◌, nat_lt, List, [], ◌∷◌, ◌++◌, Some, length, take, slice_get, slice_index, sum_by, refl, ap, ◌∙◌, arith}
use Rattle.std.proofs.lemmas.List.{get_or_append_left, get_or-append-add}
use Rattle.std.proofs.lemmas.List.Filters.{length-filter_both}
use Rattle.std.proofs.lemmas.List.Folds.{list_any_more}
use Rattle.std.proofs.lemmas.List.FromFn.{length-range_with_len, get_or-range_with_len}
use Rattle.std.proofs.lemmas.List.Sums.{sum_by_more, sum_by-cons, sum_by-take-le}
use Rattle.std.proofs.lemmas.Option.{slice_get_within, get_or_from_slice_get}
use Rattle.std.specs.List.{list_any, range_with_len}
use Rattle.history.specs.declared.ranges.Range.{Range}
use Rattle.history.specs.Attested.{attested_blocks, attested_block, index_of, total}

-- one range more
pub sum_more : (f : Range → ℕ) (ranges : List Range) (k : ℕ) (r : Range) → slice_get ranges k ≡ Some r → sum_by f (take (k + 1) ranges) ≡ sum_by f (take k ranges) + f r
sum_more f ranges k r is = sum_by_more f ranges k r (slice_get_within ranges k r is) ∙ ap (λ e. sum_by f (take k ranges) + f e) (get_or_from_slice_get ranges k r r is)

pub any_more : (p : Range → Bool) (ranges : List Range) (k : ℕ) (r : Range) → slice_get ranges k ≡ Some r → list_any p (take (k + 1) ranges) ≡ (list_any p (take k ranges) || p r)
any_more p ranges k r is = list_any_more p ranges k r (slice_get_within ranges k r is) ∙ ap (λ e. list_any p (take k ranges) || p e) (get_or_from_slice_get ranges k r r is)

-- what the ranges so far add up to, with this one, is no more than what all do
pub sum_low : (f : Range → ℕ) (ranges : List Range) (k : ℕ) (r : Range) → slice_get ranges k ≡ Some r → sum_by f (take k ranges) + f r ≤ sum_by f ranges
sum_low f ranges k r is =
    let more = sum_more f ranges k r is in
    let below = sum_by-take-le f ranges (k + 1) in
    omega arith

-- no more blocks lie below one than there are
pub index_low : (ranges : List Range) (block : ℕ) → index_of ranges block ≤ total ranges
index_low ranges block =
    let both = length-filter_both (λ other. nat_lt other block) (λ other. not (nat_lt other block)) (λ other. refl) (attested_blocks ranges) in
    omega arith

-- the block with an index
pub block_at : (ranges : List Range) (k rest : ℕ) (r : Range) → slice_get ranges k ≡ Some r → rest < r.attested → attested_block ranges (sum_by (λ e. e.attested) (take k ranges) + rest) ≡ r.first + rest
block_at [] k rest r is inside = cc
block_at (a ∷ more) zero rest r is inside =
    let same : a ≡ r = cc in
    let size : a.attested ≡ r.attested = ap (λ (e : Range). e.attested) same in
    let long = length-range_with_len a.first a.attested in
    let place : 0 + rest ≡ rest = omega arith in
    ap (λ i. slice_index (range_with_len a.first a.attested ++ attested_blocks more) i) place
    ∙ get_or_append_left (range_with_len a.first a.attested) (attested_blocks more) 0 rest (omega arith)
    ∙ get_or-range_with_len a.first a.attested rest 0 (omega arith)
    ∙ ap (λ (e : Range). e.first + rest) same
block_at (a ∷ more) (suc k) rest r is inside =
    let before = sum_by-cons (λ (e : Range). e.attested) a (take k more) in
    let long = length-range_with_len a.first a.attested in
    let place : sum_by (λ (e : Range). e.attested) (a ∷ take k more) + rest ≡ length (range_with_len a.first a.attested) + (sum_by (λ (e : Range). e.attested) (take k more) + rest) = omega arith in
    ap (λ i. slice_index (range_with_len a.first a.attested ++ attested_blocks more) i) place
    ∙ get_or-append-add (range_with_len a.first a.attested) (attested_blocks more) (sum_by (λ (e : Range). e.attested) (take k more) + rest) 0
    ∙ block_at more k rest r is inside
