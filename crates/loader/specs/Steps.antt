-- A placing under way.
use Rattle.std.specs.Prelude.{◌≡◌, ℕ, ◌+◌, ◌-◌, ◌&&◌, nat_le, nat_lt, if◌then◌else◌, List, [], length, slice_index, All, true, Some, None, Result, Ok, Err}
use Rattle.history.specs.Layout.{Layout}
use Rattle.loader.specs.declared.faults.PlaceFault.{PlaceFault}
use Rattle.loader.specs.declared.faults.PlaceFault.TheVariants.{OutsideMemory, Overlap, EntryOutside, Memory}
use Rattle.loader.specs.declared.placing.Placing.{Placing}
use Rattle.loader.specs.Placing.{Test, Holds, first_misplaced, spans, segments, entries, is_entry}

-- these tests have passed, and the state has what they placed
pub record Passed (l : Layout) (done : List Test) (state : Placing) : Type 0 where
  pub sound : first_misplaced l [] done ≡ None
  pub spans_are : state.spans.items ≡ spans done
  pub entries_are : state.entries.items ≡ entries done
  pub entries_fit : All (λ entry. is_entry l entry ≡ true) (entries done)
  pub image_holds : Holds l state.image.items (segments done)

-- one of these tests fails first, with this fault; or memory ran out
abbrev pub Fails : PlaceFault → Layout → List Test → Type 0
Fails Memory l tests = Unit {0}
Fails (OutsideMemory app segment) l tests = first_misplaced l [] tests ≡ Some (OutsideMemory app segment)
Fails (Overlap app segment with_app with_segment) l tests = first_misplaced l [] tests ≡ Some (Overlap app segment with_app with_segment)
Fails (EntryOutside app) l tests = first_misplaced l [] tests ≡ Some (EntryOutside app)

-- how the tests end, with this state afterwards
abbrev pub Outcome : Layout → List Test → Placing → Result (Unit {0}) PlaceFault → Type 0
Outcome l tests state (Ok _) = Passed l tests state
Outcome l tests state (Err fault) = Fails fault l tests

-- what the write of a segment's bytes did
pub record Writes (base addr : ℕ) (bytes old new : List ℕ) : Type 0 where
  pub count : length new ≡ length old
  pub each : (k : ℕ) → slice_index new k ≡ (if nat_le (addr - base) k && nat_lt k (addr - base + length bytes) then slice_index bytes (k - (addr - base)) else slice_index old k)
