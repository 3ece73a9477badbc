-- Schedules: which actor takes how many turns, run after run.
use Rattle.std.specs.Prelude.{◌≡◌, ℕ, ◌+◌, ◌≤◌, ◌&&◌, ◌==◌, nat_le, nat_lt, if◌then◌else◌, List, [], ◌∷◌, ◌++◌, length, All, Option, Some, None, option_and_then, Result, Ok, Err}
use Rattle.text_readers.specs.Lines.{parts_at}
use Rattle.schedule_text.specs.declared.reading.Run.{Run}
use Rattle.schedule_text.specs.declared.reading.ScheduleFault.{ScheduleFault}
use Rattle.schedule_text.specs.declared.reading.ScheduleFault.TheVariants.{Line, Memory}
use Rattle.schedule_text.specs.Lines.{run_on_line}
use Rattle.sequencing.specs.Options.{when}

-- how many turns the runs are in all
abbrev pub turns_in : List Run → ℕ
turns_in [] = 0
turns_in (run ∷ runs) = run.turns + turns_in runs

-- the run that the next line says, if after so many lines and turns there is room for it: 10,000 lines and
-- 16,000,000 turns are the most
unfoldable pub next_run : ℕ → ℕ → ℕ → List ℕ → Option Run
next_run last lines turns line =
    option_and_then (λ run. when (nat_lt lines 10000 && nat_le (turns + run.turns) 16000000) run) (run_on_line last line)

-- the line after those of these runs, with what it says
abbrev pub on_line : List Run → Option Run → (Run → Result (List Run) ℕ) → Result (List Run) ℕ
on_line runs None next = Err (length runs + 1)
on_line runs (Some run) next = next run

-- The runs of these lines after those that were read, or the number of the first line that says none. What
-- stands after the last line's end (byte 10) is the last of the parts, and nothing may stand there.
abbrev pub runs_after : ℕ → List Run → List (List ℕ) → Result (List Run) ℕ
runs_after last runs [] = Ok runs
runs_after last runs (rest ∷ []) = if length rest == 0 then Ok runs else Err (length runs + 1)
runs_after last runs (line ∷ next ∷ more) =
    on_line runs (next_run last (length runs) (turns_in runs) line) (λ run. runs_after last (runs ++ run ∷ []) (next ∷ more))

-- the runs that a text says for the actors from 0 to the last, or the number of the first line at which it
-- leaves the grammar
unfoldable pub schedule_of : ℕ → List ℕ → Result (List Run) ℕ
schedule_of last text = runs_after last [] (parts_at 10 text)

-- what a call answers that reads a schedule; want of memory may come at any time
abbrev pub AnswersSchedule : Result (List Run) ℕ → Result (List Run) ScheduleFault → Type 0
AnswersSchedule file (Ok runs) = file ≡ Ok runs
AnswersSchedule file (Err (Line number)) = file ≡ Err number
AnswersSchedule file (Err Memory) = Unit {0}

-- a run of one of these actors
pub record IsRun (last : ℕ) (run : Run) : Type 0 where
  pub actor : run.actor ≤ last
  pub some_turn : 1 ≤ run.turns
  pub few_turns : run.turns ≤ 1000000

-- what holds of every schedule that is read
pub record IsSchedule (last : ℕ) (runs : List Run) : Type 0 where
  pub each : All (IsRun last) runs
  pub lines : length runs ≤ 10000
  pub turns : turns_in runs ≤ 16000000
