-- For `Ranges` and `Plan` alone: what their private fields stand for.
use Rattle.std.specs.Prelude.{ℕ, ◌-◌, ◌/◌, ◌%◌, ◌==◌, Bool, true, false, if◌then◌else◌, Option, Some, None, List, [], ◌∷◌, ◌++◌, length, map, replicate, slice_index}
use Rattle.std.specs.Int.{bit_at}
use Rattle.history.specs.declared.events.Discipline.{Discipline}
use Rattle.history.specs.declared.events.Discipline.TheVariants.{All, AllExt, Dec, Inc, IncExt}
use Rattle.history.specs.declared.ranges.Range.{Range}
use Rattle.history.specs.Pass.{is_extended}

-- ranges from their first blocks and their numbers of blocks
abbrev pub paired : List ℕ → List ℕ → List Range
paired [] sizes = []
paired (first ∷ firsts) [] = []
paired (first ∷ firsts) (size ∷ sizes) = record { first = first; attested = size } ∷ paired firsts sizes

abbrev pub first_blocks : List Range → List ℕ
first_blocks ranges = map (λ r. r.first) ranges

abbrev pub sizes_of : List Range → List ℕ
sizes_of ranges = map (λ r. r.attested) ranges

-- eight places, the last ones 0
abbrev pub padded : List ℕ → List ℕ
padded xs = xs ++ replicate (8 - length xs) 0

-- the bit with this index
abbrev pub has_bit : List ℕ → ℕ → Bool
has_bit words index = bit_at (slice_index words (index / 64)) (index % 64) == 1

-- the locks of a discipline that is extended stay at End
abbrev pub outlast_end : Option Discipline → Bool
outlast_end None = false
outlast_end (Some discipline) = is_extended discipline

-- the bit with index k once the block with an index was copied: in Dec-Lock that block's lock is given up, in
-- the Inc forms it is taken, in the All forms no lock changes
abbrev pub bit_after_copy : Option Discipline → ℕ → ℕ → Bool → Bool
bit_after_copy None index k before = before
bit_after_copy (Some All) index k before = before
bit_after_copy (Some AllExt) index k before = before
bit_after_copy (Some Dec) index k before = if k == index then false else before
bit_after_copy (Some Inc) index k before = if k == index then true else before
bit_after_copy (Some IncExt) index k before = if k == index then true else before
