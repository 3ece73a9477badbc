-- Whether two memories have the same attested blocks.
use Rattle.std.specs.Prelude.{Bool, true, false, ◌&&◌, ◌==◌, List, [], ◌∷◌}
use Rattle.history.specs.declared.ranges.Range.{Range}
use Rattle.chronicle.specs.declared.worlds.Shape.{Shape}

-- the same ranges, in the same order
abbrev pub same_ranges : List Range → List Range → Bool
same_ranges [] [] = true
same_ranges (r ∷ more) (s ∷ rest) = (r.first == s.first) && (r.attested == s.attested) && same_ranges more rest
same_ranges _ _ = false

-- the same ranges of blocks of one size, from the same base on
abbrev pub same_shape : Shape → Shape → Bool
same_shape a b = (a.base == b.base) && (a.size == b.size) && same_ranges a.ranges b.ranges
