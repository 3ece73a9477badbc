-- Two lists of ranges, compared range by range.
use Rattle.std.proofs.Common.{◌≡◌, ◌≢◌, ℕ, suc, ◌+◌, ◌==◌, Bool, false, ◌&&◌, List, [], ◌∷◌, Some, length, drop, slice_get, refl, sym, ap, ◌∙◌}
use Rattle.std.proofs.lemmas.Bool.{and_right}
use Rattle.std.proofs.lemmas.List.{drop_more}
use Rattle.std.proofs.lemmas.Option.{slice_get_within, get_or_from_slice_get}
use Rattle.history.specs.declared.ranges.Range.{Range}
use Rattle.report.specs.Shapes.{same_ranges}

pub other_count : (a b : List Range) → length a ≢ length b → same_ranges a b ≡ false
other_count [] [] other = absurd (other refl)
other_count [] (s ∷ rest) other = refl
other_count (r ∷ more) [] other = refl
other_count (r ∷ more) (s ∷ rest) other = and_right ((r.first == s.first) && (r.attested == s.attested)) (same_ranges more rest) (other_count more rest (λ same. other (ap suc same)))

-- the list from a place on begins with the range there
from_place : (ranges : List Range) (k : ℕ) (r : Range) → slice_get ranges k ≡ Some r → drop k ranges ≡ r ∷ drop (k + 1) ranges
from_place ranges k r is = drop_more ranges k r (slice_get_within ranges k r is) ∙ ap (λ (e : Range). e ∷ drop (k + 1) ranges) (get_or_from_slice_get ranges k r r is)

-- the comparison goes on from a place by the ranges there
pub at_place : (a b : List Range) (k : ℕ) (r s : Range) (here : Bool) → slice_get a k ≡ Some r → slice_get b k ≡ Some s → here ≡ ((r.first == s.first) && (r.attested == s.attested)) → same_ranges (drop k a) (drop k b) ≡ (here && same_ranges (drop (k + 1) a) (drop (k + 1) b))
at_place a b k r s here one other is =
    ap (λ (list : List Range). same_ranges list (drop k b)) (from_place a k r one)
    ∙ ap (λ (list : List Range). same_ranges (r ∷ drop (k + 1) a) list) (from_place b k s other)
    ∙ ap (λ (test : Bool). test && same_ranges (drop (k + 1) a) (drop (k + 1) b)) (sym is)
