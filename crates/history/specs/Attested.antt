-- The attested blocks: those of one to eight ranges.
use Rattle.std.specs.Prelude.{ℕ, ◌+◌, ◌<◌, ◌≤◌, Bool, true, ◌&&◌, ◌==◌, nat_le, nat_lt, List, [], ◌∷◌, ◌++◌, length, filter, slice_index}
use Rattle.std.specs.List.{list_any, range_with_len}
use Rattle.history.specs.declared.ranges.Range.{Range}

-- the first block past a range
abbrev pub range_end : Range → ℕ
range_end r = r.first + r.attested

-- each range has a block, and ends below the first block of the next
abbrev pub AreApart : List Range → Type 0
AreApart [] = Unit {0}
AreApart (r ∷ []) = 1 ≤ r.attested
AreApart (r ∷ next ∷ more) = (1 ≤ r.attested) × (range_end r < next.first) × AreApart (next ∷ more)

-- the first block past the last range
abbrev pub last_end : List Range → ℕ
last_end [] = 0
last_end (r ∷ []) = range_end r
last_end (r ∷ next ∷ more) = last_end (next ∷ more)

-- the ranges that a device may have: one to eight, by rising address, that neither meet nor touch, below block 4,096
pub record IsRanges (ranges : List Range) : Type 0 where
  pub some : 1 ≤ length ranges
  pub few : length ranges ≤ 8
  pub apart : AreApart ranges
  pub low : last_end ranges ≤ 4096

-- the same as a test
abbrev pub are_apart : List Range → Bool
are_apart [] = true
are_apart (r ∷ []) = nat_le 1 r.attested
are_apart (r ∷ next ∷ more) = nat_le 1 r.attested && nat_lt (range_end r) next.first && are_apart (next ∷ more)

abbrev pub are_ranges : List Range → Bool
are_ranges ranges = nat_le 1 (length ranges) && nat_le (length ranges) 8 && are_apart ranges && nat_le (last_end ranges) 4096

-- the attested blocks, in ascending order
abbrev pub attested_blocks : List Range → List ℕ
attested_blocks [] = []
attested_blocks (r ∷ more) = range_with_len r.first r.attested ++ attested_blocks more

-- the block is attested
abbrev pub is_attested : List Range → ℕ → Bool
is_attested ranges block = list_any (λ other. other == block) (attested_blocks ranges)

-- how many blocks are attested
abbrev pub total : List Range → ℕ
total ranges = length (attested_blocks ranges)

-- the index of a block: how many attested blocks lie below it
abbrev pub index_of : List Range → ℕ → ℕ
index_of ranges block = length (filter (λ other. nat_lt other block) (attested_blocks ranges))

-- the attested block with this index
abbrev pub attested_block : List Range → ℕ → ℕ
attested_block ranges index = slice_index (attested_blocks ranges) index
