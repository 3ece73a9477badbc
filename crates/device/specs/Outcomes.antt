-- What a run has come to: a function of its history, but for how often an application waited.
use Rattle.std.specs.Prelude.{◌≡◌, ℕ, suc, ◌+◌, List, [], ◌∷◌, ◌++◌, length, map, drop, slice_get, Option, Some, None}
use Rattle.history.specs.declared.events.Act.{Act}
use Rattle.history.specs.declared.events.Entry.{Entry}
use Rattle.challenge.specs.declared.Challenge.{Challenge}
use Rattle.chronicle.specs.Worlds.{shape_of}
use Rattle.rv_core.specs.declared.waits.CoreWant.{CoreWant}
use Rattle.rv_core.specs.declared.waits.CoreWant.TheVariants.{Ended}
use Rattle.rv_core.specs.Runs.{AppProgram, ProgramState, next_access, IsBegunRun}
use Rattle.measure.specs.Measured.{HasReport, IsReportOn}
use Rattle.measure.specs.Program.{measuring_program}
use Rattle.measure.specs.Stepping.{HasNoteOn}
use Rattle.app_thread.specs.declared.ends.RunEnd.{RunEnd}
use Rattle.app_thread.specs.declared.ends.RunEnd.TheVariants as run
use Rattle.device.specs.declared.outcomes.AppEnd.{AppEnd}
use Rattle.device.specs.declared.outcomes.PassEnd.{PassEnd}
use Rattle.device.specs.declared.outcomes.PassEnd.TheVariants as pass
use Rattle.device.specs.declared.tallies.Tally.{Tally}
use Rattle.device.specs.Setups.{Setup}
use Rattle.device.specs.Runs.{entries_of}

-- ---- applications

-- how an application ends that asks this next, in a history of so many entries: it has ended so, or the history is full
abbrev pub run_end : CoreWant → ℕ → RunEnd
run_end (Ended ending) count = run.Ended ending
run_end want count = run.Full count

-- an application's own entries are a run of its program that ends so, and its console is what it has printed
pub record IsAppEnd (program : AppProgram) (history entries : List Entry) (end : AppEnd) : Type 0 where
  pub at : ProgramState
  pub begun : IsBegunRun program entries at
  pub ended : end.run.end ≡ run_end (next_access at) (length history)
  pub console : end.console ≡ at.now.core.console

-- there are as many ends as applications, and each is that of its own program
pub record AreAppEnds (programs : List AppProgram) (history : List Entry) (ends : List AppEnd) : Type 0 where
  pub count : length ends ≡ length programs
  pub each : (k : ℕ) (program : AppProgram) (end : AppEnd) → slice_get programs k ≡ Some program → slice_get ends k ≡ Some end
      → IsAppEnd program history (entries_of history (suc k)) end

-- how an application has ended, and what it has printed: all but how often it waited
abbrev pub ended_and_printed : AppEnd → RunEnd × List ℕ
ended_and_printed end = (end.run.end, end.console)

-- how often an application has waited, and where last
abbrev pub waits_in_end : AppEnd → ℕ × Option ℕ
waits_in_end end = (end.run.waits, end.run.waited)

abbrev pub waits_in_tally : Tally → ℕ × Option ℕ
waits_in_tally tally = (tally.waits, tally.waited)

-- the applications have waited as their tallies say, which stand behind the measurer's
abbrev pub HaveWaited : List Tally → List AppEnd → Type 0
HaveWaited tallies ends = map waits_in_end ends ≡ map waits_in_tally (drop 1 tallies)

-- ---- measurements

-- the acts of these entries
abbrev pub acts_of : List Entry → List Act
acts_of entries = map (λ entry. entry.act) entries

-- the acts are a front of the program, which has one more to make
pub record FallsShort (made program : List Act) : Type 0 where
  pub next : Act
  pub missed : List Act
  pub whole : program ≡ made ++ next ∷ missed

-- What the measurements have come to where the measurer has made these acts for these challenges. Done: its whole
-- program was made, and here are the report and the note. Full: the history filled before, and the report is there
-- exactly where End was made; the measurements after it were never begun.
abbrev pub ArePassEnds : Setup → List Entry → List Act → List Challenge → List PassEnd → Type 0
ArePassEnds s history made [] [] = made ≡ []
ArePassEnds s history made (c ∷ more) (pass.Done report noted ∷ ends) =
    (rest : List Act) × (made ≡ measuring_program c (shape_of s.world) ++ rest)
    × IsReportOn s.key s.world c [] history report × HasNoteOn s.key c history report noted
    × ArePassEnds s history rest more ends
ArePassEnds s history made (c ∷ more) (pass.Full report ∷ ends) =
    FallsShort made (measuring_program c (shape_of s.world)) × HasReport s.key s.world c [] history made report
    × (ends ≡ map (λ other. pass.NotStarted) more)
ArePassEnds s history made _ _ = ⊥
