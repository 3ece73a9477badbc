-- Placing applications in memory: the first test that fails, or the image and the entries.
use Rattle.std.specs.Prelude.{◌≡◌, ◌<◌, ◌≤◌, true, false, length, All, ℕ, ◌+◌, ◌-◌, Bool, ◌&&◌, nat_le, nat_lt, if◌then◌else◌, List, [], ◌∷◌, ◌++◌, map, slice_index, Option, Some, None, Result, Ok, Err, find}
use Rattle.std.specs.List.{list_any}
use Rattle.std.specs.Option.{option_map, option_or}
use Rattle.history.specs.declared.events.Width.TheVariants.{Word}
use Rattle.history.specs.Layout.{Layout, byte_count, past_end, fits, is_aligned}
use Rattle.history.specs.Memory.{bytes_from}
use Rattle.elf32.specs.Files.{FileSegment, Executable, executable}
use Rattle.loader.specs.declared.faults.PlaceFault.{PlaceFault}
use Rattle.loader.specs.declared.faults.PlaceFault.TheVariants.{OutsideMemory, Overlap, EntryOutside, Memory}
use Rattle.loader.specs.declared.spans.Span.{Span}
use Rattle.loader.specs.declared.placed.Placed.{Placed}
use Rattle.sequencing.specs.Results.{unless}

-- What is tried, in order: each segment of an application, then its entry. Applications are numbered from 1,
-- segments from 0.
pub data Test : Type 0 where
  TrySegment : (app number : ℕ) (segment : FileSegment) → Test
  TryEntry : (app entry : ℕ) → Test

abbrev pub segment_tests : ℕ → ℕ → List FileSegment → List Test
segment_tests app number [] = []
segment_tests app number (s ∷ rest) = TrySegment app number s ∷ segment_tests app (number + 1) rest

abbrev pub tests_of : ℕ → List Executable → List Test
tests_of app [] = []
tests_of app (x ∷ rest) = segment_tests app 0 x.segments ++ TryEntry app x.entry ∷ tests_of (app + 1) rest

-- the segments and entries among them
abbrev pub span : ℕ → ℕ → FileSegment → Span
span app number s = record { app = app; segment = number; addr = s.addr; size = s.size }

abbrev pub spans : List Test → List Span
spans [] = []
spans (TrySegment app number s ∷ rest) = span app number s ∷ spans rest
spans (TryEntry app entry ∷ rest) = spans rest

abbrev pub segments : List Test → List FileSegment
segments [] = []
segments (TrySegment app number s ∷ rest) = s ∷ segments rest
segments (TryEntry app entry ∷ rest) = segments rest

abbrev pub entries : List Test → List ℕ
entries [] = []
entries (TrySegment app number s ∷ rest) = entries rest
entries (TryEntry app entry ∷ rest) = entry ∷ entries rest

-- all bytes of the segment lie in memory
abbrev pub is_inside : Layout → Span → Bool
is_inside l s = nat_le l.base s.addr && nat_le (s.addr + s.size) (past_end l)

-- two segments share a byte; none is empty
abbrev pub overlaps : Span → Span → Bool
overlaps a b = nat_lt a.addr (b.addr + b.size) && nat_lt b.addr (a.addr + a.size)

-- the entry is divisible by 4, and its word fits memory
abbrev pub is_entry : Layout → ℕ → Bool
is_entry l entry = is_aligned entry Word && fits l entry Word

-- the fault of a segment, after these: it lies outside memory, or shares a byte with an earlier one, the first such
abbrev pub segment_fault : Layout → List Span → Span → Option PlaceFault
segment_fault l earlier s =
    if is_inside l s then option_map (λ e. Overlap s.app s.segment e.app e.segment) (find (λ e. overlaps e s) earlier)
    else Some (OutsideMemory s.app s.segment)

-- the fault of a test, where those before have passed
abbrev pub fault_of : Layout → List Test → Test → Option PlaceFault
fault_of l before (TrySegment app number s) = segment_fault l (spans before) (span app number s)
fault_of l before (TryEntry app entry) = if is_entry l entry then None else Some (EntryOutside app)

-- the fault of the first test that fails; those before it have passed
unfoldable pub first_misplaced : Layout → List Test → List Test → Option PlaceFault
first_misplaced l before [] = None
first_misplaced l before (t ∷ rest) = option_or (fault_of l before t) (first_misplaced l (before ++ t ∷ []) rest)

-- the segment covers the address
abbrev pub spans_byte : FileSegment → ℕ → Bool
spans_byte s x = nat_le s.addr x && nat_lt x (s.addr + s.size)

-- its byte there: zero past the bytes that it begins with
abbrev pub byte_at : FileSegment → ℕ → ℕ
byte_at s x = slice_index s.bytes (x - s.addr)

-- the byte of the segment that covers the address, or zero
unfoldable pub placed_byte : List FileSegment → ℕ → ℕ
placed_byte [] x = 0
placed_byte (s ∷ rest) x = if spans_byte s x then byte_at s x else placed_byte rest x

-- memory's bytes, by rising address
unfoldable pub image_of : Layout → List FileSegment → List ℕ
image_of l ss = bytes_from (placed_byte ss) l.base (byte_count l)

-- the tests of applications that stand in these files, in order
abbrev pub tests : List (List ℕ) → List Test
tests files = tests_of 1 (map executable files)

-- the first fault, or memory's bytes by rising address and the entries
unfoldable pub placed : Layout → List (List ℕ) → Result Placed PlaceFault
placed l files = unless (first_misplaced l [] (tests files)) (record { image = image_of l (segments (tests files)); entries = entries (tests files) })

-- a call gave what placing gives, or ran out of memory
abbrev pub AnswersPlacing : Result Placed PlaceFault → Result Placed PlaceFault → Type 0
AnswersPlacing (Ok given) found = found ≡ Ok given
AnswersPlacing (Err Memory) found = Unit {0}
AnswersPlacing (Err (OutsideMemory app segment)) found = found ≡ Err (OutsideMemory app segment)
AnswersPlacing (Err (Overlap app segment with_app with_segment)) found = found ≡ Err (Overlap app segment with_app with_segment)
AnswersPlacing (Err (EntryOutside app)) found = found ≡ Err (EntryOutside app)

-- The bytes of memory with these segments in it: each segment lies in memory, a byte that a segment covers is that
-- segment's, and a byte that none covers is zero.
pub record Holds (l : Layout) (image : List ℕ) (ss : List FileSegment) : Type 0 where
  pub count : length image ≡ byte_count l
  pub inside : All (λ s. (l.base ≤ s.addr) × (s.addr + s.size ≤ past_end l)) ss
  pub covered : All (λ s. (x : ℕ) → spans_byte s x ≡ true → slice_index image (x - l.base) ≡ byte_at s x) ss
  pub empty : (x : ℕ) → l.base ≤ x → x < past_end l → list_any (λ s. spans_byte s x) ss ≡ false → slice_index image (x - l.base) ≡ 0
