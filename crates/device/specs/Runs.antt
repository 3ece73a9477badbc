-- What the actors of a device do: actor 0 is the measurer, actor k is application k.
use Rattle.std.specs.Prelude.{◌≡◌, ℕ, zero, suc, ◌+◌, ◌≤◌, ◌⊎◌, List, [], ◌∷◌, length, reverse, map, take, slice_get, All, Option, Some, None}
use Rattle.std.specs.Option.{option_and_then}
use Rattle.history.specs.declared.events.Width.TheVariants.{Word}
use Rattle.history.specs.declared.events.Act.{Act}
use Rattle.history.specs.declared.events.Entry.{Entry}
use Rattle.history.specs.Layout.{Setting}
use Rattle.history.specs.Memory.{own, memory_after, value_in}
use Rattle.history.specs.Legal.{IsLegal}
use Rattle.chronicle.specs.Worlds.{shape_of}
use Rattle.chronicle.specs.Ports.{entry_by}
use Rattle.rv_core.specs.declared.waits.CoreWant.{CoreWant}
use Rattle.rv_core.specs.declared.waits.CoreWant.TheVariants.{Fetch, Load, Store, Ended}
use Rattle.rv_core.specs.Runs.{AppProgram, ProgramState, asks, IsBegunRun}
use Rattle.rv_core.specs.Waits.{act_asked}
use Rattle.measure.specs.Program.{measuring_programs}
use Rattle.device.specs.Setups.{Setup}

-- the entries of one actor, in their order
abbrev pub entries_of : List Entry → ℕ → List Entry
entries_of history actor = own history actor (actor + 1)

-- what the measurer is to do: the programs of the challenges, one after the other
abbrev pub measurer_acts : Setup → List Act
measurer_acts s = measuring_programs s.challenges (shape_of s.world)

-- what an access reads of memory as it is after these entries; 0 where it reads nothing
abbrev pub value_now : Setting → List Entry → CoreWant → ℕ
value_now w history (Fetch addr) = value_in (memory_after w (reverse history)) addr Word
value_now w history (Load addr width) = value_in (memory_after w (reverse history)) addr width
value_now w history (Store addr width value) = 0
value_now w history (Ended ending) = 0

-- an access as an act of this history; None where the application has ended
abbrev pub act_now : Setting → List Entry → CoreWant → Option Act
act_now w history want = act_asked want (value_now w history want)

-- what an application does next, after its own entries
abbrev pub next_of_program : Setting → List Entry → ℕ → AppProgram → Option Act
next_of_program w history actor program = option_and_then (act_now w history) (asks program (entries_of history actor))

-- What an actor does next, after its own entries, with the value that memory has now where it reads; None where its
-- program is over.
abbrev pub next_act : Setup → List Entry → ℕ → Option Act
next_act s history zero = slice_get (measurer_acts s) (length (entries_of history 0))
next_act s history (suc k) = option_and_then (next_of_program s.world history (suc k)) (slice_get s.programs k)

-- The history is one of a run so far: it is legal, no other actor has an entry, and each actor's own entries are what
-- it was to do, from the first on.
pub record IsRunSoFar (s : Setup) (history : List Entry) : Type 0 where
  pub legal : IsLegal s.world history
  pub actors : All (λ entry. entry.actor ≤ length s.programs) history
  pub measurer : entries_of history 0 ≡ map (entry_by 0) (take (length (entries_of history 0)) (measurer_acts s))
  pub applications : (k : ℕ) (program : AppProgram) → slice_get s.programs k ≡ Some program
      → (at : ProgramState) × IsBegunRun program (entries_of history (suc k)) at

-- The history is one of a whole run: each actor's program is over, or the history is at its cap. Of the order in which
-- the actors came it says nothing.
pub record IsRunOf (s : Setup) (history : List Entry) : Type 0 where
  pub so_far : IsRunSoFar s history
  pub over : (actor : ℕ) → actor ≤ length s.programs → (next_act s history actor ≡ None) ⊎ (length history ≡ s.world.cap)
