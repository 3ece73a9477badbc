-- What a device keeps beside its history: where each application stands, and how far the measurer has come.
use Rattle.std.specs.Prelude.{◌≡◌, ℕ, suc, ◌-◌, ◌≤◌, true, false, List, [], ◌∷◌, ◌++◌, length, map, replicate, All, slice_get, vec_capacity, Option, Some, None}
use Rattle.history.specs.declared.events.Entry.{Entry}
use Rattle.history.specs.Layout.{IsSetting, Layout, Setting}
use Rattle.history.specs.Legal.{IsLegal}
use Rattle.challenge.specs.declared.Challenge.{Challenge}
use Rattle.challenge.specs.Challenges.{IsChallenge}
use Rattle.chronicle.specs.Worlds.{shape_of}
use Rattle.rv_core.specs.Runs.{AppProgram, app_program, beginning, started, IsBegunRun, next_access}
use Rattle.measure.specs.declared.stepping.Measuring.{Measuring}
use Rattle.measure.specs.Measured.{IsReportOn}
use Rattle.measure.specs.Program.{HasMade, MayStart, measuring_programs}
use Rattle.measure.specs.Stepping.{HasNoteOn, Stands, is_over, report_of}
use Rattle.device.specs.declared.outcomes.AppEnd.{AppEnd}
use Rattle.device.specs.declared.outcomes.PassEnd.{PassEnd}
use Rattle.device.specs.declared.outcomes.PassEnd.TheVariants as pass
use Rattle.device.specs.declared.passes.Passes.{Passes}
use Rattle.device.specs.declared.slots.Slot.{Slot}
use Rattle.device.specs.declared.tallies.Tally.{Tally}
use Rattle.device.specs.Setups.{Setup}
use Rattle.device.specs.Outcomes.{run_end}
use Rattle.device.specs.Runs.{entries_of}
use Rattle.device.specs.Turns.{DeviceState, RunState, fresh}

-- ---- applications

-- the program that an application began with
abbrev pub program_of_slot : Layout → Slot → AppProgram
program_of_slot layout slot = app_program (started layout slot.entry slot.stack) slot.fuel

-- The application stands where its own entries have led it; it was stopped by a full history alone; and there is room
-- for its console.
pub record IsSlotAt (w : Setting) (history : List Entry) (actor : ℕ) (slot : Slot) : Type 0 where
  pub layout : slot.app.now.core.layout ≡ w.layout
  pub begun : IsBegunRun (program_of_slot w.layout slot) (entries_of history actor) slot.app
  pub stopped : slot.tally.stopped ≡ true → length history ≡ w.cap
  pub empty : slot.console.items ≡ []
  pub room : 4096 ≤ vec_capacity slot.console

-- there is room for its console
abbrev pub HasConsoleRoom : Slot → Type 0
HasConsoleRoom slot = (slot.console.items ≡ []) × (4096 ≤ vec_capacity slot.console)

-- what the application has come to, in a history of so many entries
abbrev pub end_of_slot : ℕ → Slot → AppEnd
end_of_slot count slot = record {
  run = record {
    end = run_end (next_access slot.app) count;
    waits = slot.tally.waits;
    waited = slot.tally.waited;
  };
  console = slot.app.now.core.console;
}

-- the application has made nothing yet
pub record IsFreshSlot (layout : Layout) (slot : Slot) : Type 0 where
  pub app : slot.app ≡ beginning (program_of_slot layout slot)
  pub tally : slot.tally ≡ fresh
  pub empty : slot.console.items ≡ []
  pub room : 4096 ≤ vec_capacity slot.console

-- ---- the measurer

-- what the measurements for these challenges have come to, all of which are over
abbrev pub AreOver : List ℕ → Setting → List Entry → List Challenge → List PassEnd → Type 0
AreOver key w history [] [] = Unit {0}
AreOver key w history (c ∷ done) (pass.Done report noted ∷ ends) =
    IsReportOn key w c [] history report × HasNoteOn key c history report noted × AreOver key w history done ends
AreOver key w history _ _ = ⊥

-- the measurement for the first of these challenges is under way, from the entries in old on; or there is none, and
-- the measurer has made nothing since
abbrev pub IsUnderWayFor : List ℕ → Setting → List Challenge → List Entry → List Entry → Option Measuring → Type 0
IsUnderWayFor key w [] old history None = HasMade old history []
IsUnderWayFor key w (c ∷ more) old history (Some measuring) = Stands key w c old history measuring
IsUnderWayFor key w _ old history _ = ⊥

-- The measurements for the challenges in done are over, after the entries in old, and the next one is under way; it
-- may just have come to its end.
pub record IsSteppingOn (key : List ℕ) (w : Setting) (history : List Entry) (passes : Passes) : Type 0 where
  pub done : List Challenge
  pub rest : List Challenge
  pub old : List Entry
  pub challenges : passes.challenges.items ≡ done ++ rest
  pub valid : All IsChallenge passes.challenges.items
  pub room : length passes.challenges.items ≤ vec_capacity passes.ends
  pub entries : HasMade [] old (measuring_programs done (shape_of w))
  pub ends : AreOver key w history done passes.ends.items
  pub under_way : IsUnderWayFor key w rest old history passes.under_way
  pub stopped : passes.tally.stopped ≡ true → length history ≡ w.cap

-- the measurement for this challenge, from whatever list of entries in which no pass is open; or none where there is no
-- challenge more
abbrev pub BeginsNext : Option Challenge → Option Measuring → Type 0
BeginsNext None None = Unit {0}
BeginsNext (Some c) (Some measuring) = (key : List ℕ) (w : Setting) (seen : List Entry) → IsSetting w → IsLegal w seen → MayStart w seen → Stands key w c seen seen measuring
BeginsNext _ _ = ⊥

-- the measurement under way isn't over
abbrev pub IsUnfinished : Option Measuring → Type 0
IsUnfinished None = Unit {0}
IsUnfinished (Some measuring) = is_over measuring ≡ false

pub record IsMeasuring (key : List ℕ) (w : Setting) (history : List Entry) (passes : Passes) : Type 0 where
  pub so_far : IsSteppingOn key w history passes
  pub unfinished : IsUnfinished passes.under_way

-- what the measurements have come to at last: the one under way met a full history, and those after it weren't begun
abbrev pub ends_with : List PassEnd → ℕ → Option Measuring → List PassEnd
ends_with ends count None = ends
ends_with ends count (Some measuring) =
    (ends ++ pass.Full (report_of measuring) ∷ []) ++ replicate (count - length (ends ++ pass.Full (report_of measuring) ∷ [])) pass.NotStarted

abbrev pub ends_at_last : Passes → List PassEnd
ends_at_last passes = ends_with passes.ends.items (length passes.challenges.items) passes.under_way

-- ---- the whole

abbrev pub tally_of_slot : Slot → Tally
tally_of_slot slot = slot.tally

-- what the device began with
abbrev pub setup_kept : Setting → List ℕ → List Slot → List Challenge → Setup
setup_kept w key slots challenges = record {
  world = w;
  programs = map (program_of_slot w.layout) slots;
  key = key;
  challenges = challenges;
}

-- what its turns have come to
abbrev pub state_kept : List Entry → Tally → List Slot → RunState
state_kept history tally slots = record { history = history; tallies = tally ∷ map tally_of_slot slots }

pub record IsDevice (w : Setting) (key : List ℕ) (history : List Entry) (slots : List Slot) (passes : Passes) : Type 0 where
  pub some : 1 ≤ length slots
  pub few : length slots ≤ 8
  pub actors : All (λ entry. entry.actor ≤ length slots) history
  pub applications : (k : ℕ) (slot : Slot) → slice_get slots k ≡ Some slot → IsSlotAt w history (suc k) slot
  pub measurer : IsMeasuring key w history passes

abbrev pub device_kept : Setting → List ℕ → List Entry → List Slot → Passes → DeviceState
device_kept w key history slots passes = record {
  setup = setup_kept w key slots passes.challenges.items;
  state = state_kept history passes.tally slots;
}
