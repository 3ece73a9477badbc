-- The tags of reports and of release notes: keyed digests of what a measurement says.
use Rattle.std.specs.Prelude.{ℕ, List, [], ◌∷◌, ◌++◌, length, flat_map, codes}
use Rattle.std.specs.Int.{to_be_bytes, w32, w64}
use Rattle.hmac256.specs.Hmac.{hmac}
use Rattle.history.specs.declared.ranges.Range.{Range}
use Rattle.history.specs.Names.{code_of}
use Rattle.challenge.specs.Challenges.{Asked}
use Rattle.chronicle.specs.declared.worlds.Shape.{Shape}

-- the last letter of the first four: the format's version, 1 for one range and 2 for more
abbrev pub version_of : List Range → ℕ
version_of (r ∷ []) = 0x31
version_of ranges = 0x32

-- a range: its first block and how many it has, two numbers of 32 bits
abbrev pub range_bytes : Range → List ℕ
range_bytes r = to_be_bytes w32 r.first ++ to_be_bytes w32 r.attested

-- one range is written as it is, and more behind their number
abbrev pub ranges_bytes : List Range → List ℕ
ranges_bytes (r ∷ []) = range_bytes r
ranges_bytes ranges = to_be_bytes w32 (length ranges) ++ flat_map range_bytes ranges

-- which blocks of which memory were attested
abbrev pub shape_bytes : Shape → List ℕ
shape_bytes shape = to_be_bytes w32 shape.base ++ to_be_bytes w32 shape.size ++ ranges_bytes shape.ranges

-- what a report begins with: 48 bytes where the shape has one range, 44 and 8 for each where it has more
unfoldable pub head_bytes : Asked → Shape → List ℕ
head_bytes asked shape =
    codes "TMR" ++ (version_of shape.ranges ∷ code_of asked.discipline ∷ 0 ∷ 0 ∷ 0 ∷ []) ++ to_be_bytes w64 asked.counter ++ asked.nonce ++ shape_bytes shape

-- the places of Start and End
unfoldable pub tail_bytes : ℕ → ℕ → List ℕ
tail_bytes start end = to_be_bytes w64 start ++ to_be_bytes w64 end

-- the tag of a report on these attested bytes
unfoldable pub report_tag : List ℕ → Asked → Shape → List ℕ → ℕ → ℕ → List ℕ
report_tag key asked shape attested start end = hmac key (head_bytes asked shape ++ attested ++ tail_bytes start end)

-- the 40 bytes that a release note begins with: the counter, and the places of Start, End and Release
unfoldable pub note_head_bytes : ℕ → ℕ → ℕ → ℕ → List ℕ
note_head_bytes counter start end release =
    codes "TMN1" ++ (0 ∷ 0 ∷ 0 ∷ 0 ∷ []) ++ to_be_bytes w64 counter ++ to_be_bytes w64 start ++ to_be_bytes w64 end ++ to_be_bytes w64 release

-- the tag of the note on the release of a report with this tag
unfoldable pub note_tag : List ℕ → ℕ → ℕ → ℕ → ℕ → List ℕ → List ℕ
note_tag key counter start end release report = hmac key (note_head_bytes counter start end release ++ report)
