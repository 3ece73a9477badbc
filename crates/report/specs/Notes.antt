-- The byte form of release notes, every byte by its place, and what reading it answers. The highest byte of a number
-- comes first.
use Rattle.std.specs.Prelude.{◌≡◌, ℕ, ◌^◌, ◌<◌, ◌≤◌, Bool, ◌&&◌, ◌==◌, nat_le, nat_lt, if◌then◌else◌, List, ◌++◌, length, drop, Option, Some, None}
use Rattle.std.specs.Str.{bytes_eq}
use Rattle.challenge.specs.Numbers.{u64_at}
use Rattle.report.specs.declared.Note.{Note}
use Rattle.report.specs.Tags.{note_head_bytes}

-- a note that a release may answer: Start, End and Release follow one another
pub record IsNote (n : Note) : Type 0 where
  pub start : 1 ≤ n.start
  pub end : n.start < n.end
  pub release : n.end < n.release

-- each number and the tag have the width of their field
pub record FitsNote (n : Note) : Type 0 where
  pub counter : n.counter < 2 ^ 64
  pub start : n.start < 2 ^ 64
  pub end : n.end < 2 ^ 64
  pub release : n.release < 2 ^ 64
  pub tag : length n.tag ≡ 32

-- the 72 bytes of a note
unfoldable pub note_bytes : Note → List ℕ
note_bytes n = note_head_bytes n.counter n.start n.end n.release ++ n.tag

-- the bytes are those of this note, which is in the grammar
pub record SpellsNote (bytes : List ℕ) (n : Note) : Type 0 where
  pub grammar : IsNote n
  pub fits : FitsNote n
  pub spelling : bytes ≡ note_bytes n

-- what reading answers: the note whose bytes these are; or that they are those of none
abbrev pub IsNoteReading : List ℕ → Option Note → Type 0
IsNoteReading bytes (Some n) = SpellsNote bytes n
IsNoteReading bytes None = (n : Note) → SpellsNote bytes n → ⊥

-- the same as a function, for definitions above that compute

-- IsNote as a test
abbrev pub is_note : Note → Bool
is_note n = nat_le 1 n.start && nat_lt n.start n.end && nat_lt n.end n.release

-- the note whose fields stand at their places in these 72 bytes
abbrev pub note_at : List ℕ → Note
note_at bytes = record { counter = u64_at bytes 8; start = u64_at bytes 16; end = u64_at bytes 24; release = u64_at bytes 32; tag = drop 40 bytes }

-- the note, if it is in the grammar and these are its bytes
abbrev pub if_note : List ℕ → Note → Option Note
if_note bytes n = if is_note n && bytes_eq (note_bytes n) bytes then Some n else None

-- the note that these bytes are
unfoldable pub note_in : List ℕ → Option Note
note_in bytes = if length bytes == 72 then if_note bytes (note_at bytes) else None
