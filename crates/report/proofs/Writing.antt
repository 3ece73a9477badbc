-- Ranges in their byte form, one behind the other.
use Rattle.std.proofs.Common.{◌≡◌, ℕ, ◌+◌, List, [], ◌∷◌, ◌++◌, length, take, flat_map, Some, refl, sym, ap, ◌∙◌, arith}
use Rattle.std.specs.Prelude.{slice_get}
use Rattle.std.specs.Int.{to_be_bytes, w32}
use Rattle.std.proofs.lemmas.List.{flat_map_more, take_more}
use Rattle.std.proofs.lemmas.Option.{slice_get_within, get_or_from_slice_get}
use Rattle.history.specs.declared.ranges.Range.{Range}
use Rattle.report.specs.Tags.{range_bytes, ranges_bytes, version_of}

some_is : {A : Type 0} (x y : A) → Some x ≡ Some y → x ≡ y
some_is x y e = cc

pub one_version : (ranges : List Range) → length ranges ≡ 1 → version_of ranges ≡ 0x31
one_version [] one = absurd (omega (arith, one))
one_version (r ∷ []) one = refl
one_version (r ∷ next ∷ more) one = absurd (omega (arith, one))

pub more_version : (ranges : List Range) → (length ranges ≡ 1 → ⊥) → version_of ranges ≡ 0x32
more_version [] more = refl
more_version (r ∷ []) more = absurd (more refl)
more_version (r ∷ next ∷ rest) more = refl

pub one_written : (ranges : List Range) (r : Range) → length ranges ≡ 1 → slice_get ranges 0 ≡ Some r → ranges_bytes ranges ≡ range_bytes r
one_written [] r one is = absurd (omega (arith, one))
one_written (x ∷ []) r one is = ap range_bytes (some_is x r is)
one_written (x ∷ next ∷ more) r one is = absurd (omega (arith, one))

pub more_written : (ranges : List Range) → (length ranges ≡ 1 → ⊥) → ranges_bytes ranges ≡ to_be_bytes w32 (length ranges) ++ flat_map range_bytes ranges
more_written [] more = refl
more_written (r ∷ []) more = absurd (more refl)
more_written (r ∷ next ∷ rest) more = refl

pub listed_more : (ranges : List Range) (k : ℕ) (r : Range) (before old new : List ℕ) → slice_get ranges k ≡ Some r → old ≡ before ++ flat_map range_bytes (take k ranges) → new ≡ old ++ range_bytes r
    → new ≡ before ++ flat_map range_bytes (take (k + 1) ranges)
listed_more ranges k r before old new is h made =
    let longer : take (k + 1) ranges ≡ take k ranges ++ r ∷ [] = take_more ranges k r (slice_get_within ranges k r is) ∙ ap (λ x. take k ranges ++ x ∷ []) (get_or_from_slice_get ranges k r r is) in
    made ∙ ap (λ l. l ++ range_bytes r) h ∙ flat_map_more range_bytes before (take k ranges) r ∙ ap (λ l. before ++ flat_map range_bytes l) (sym longer)
