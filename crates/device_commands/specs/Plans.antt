-- What the commands on devices are to do.
use Rattle.std.specs.Prelude.{◌≡◌, ℕ, true, false, List, [], ◌∷◌, Option, Result, Ok, Err}
use Rattle.att_base.specs.Files.{Contents}
use Rattle.history.specs.Memory.{memory_after, attested_bytes}
use Rattle.command_plans.specs.declared.output.Ending.TheVariants.{Accepted}
use Rattle.schedule_text.specs.declared.reading.Run.{Run}
use Rattle.command_plans.specs.Steps.{Reason, no_memory, CommandStep, exactly, ◌>>=◌}
use Rattle.command_plans.specs.Written.{Written}
use Rattle.device_config.specs.declared.plans.DevicePlan.{DevicePlan}
use Rattle.device.specs.declared.outcomes.Outcome.{Outcome}
use Rattle.device.specs.Setups.{Setup, setup_of}
use Rattle.device.specs.Runs.{IsRunOf, entries_of}
use Rattle.device.specs.Outcomes.{AreAppEnds, ArePassEnds, acts_of}
use Rattle.device.specs.Threads.{AreWaitsIn}
use Rattle.sched.specs.Scheduled.{IsScheduledOutcome}
use Rattle.device_inputs.specs.declared.admitting.Admission.{Admission}
use Rattle.device_inputs.specs.declared.setup.ScheduledFiles.{ScheduledFiles}
use Rattle.device_inputs.specs.declared.setup.SetupFiles.{SetupFiles}
use Rattle.device_inputs.specs.Admissions.{served}
use Rattle.device_inputs.specs.Inputs.{DeviceIn, PlacedIn}
use Rattle.device_inputs.specs.Setups.{ScheduledIn, SetupIn, device_setting}
use Rattle.device_commands.specs.ChallengeEnds.{Judge}
use Rattle.device_commands.specs.RunWritten.{written_of}

-- ---- `image`

-- the bytes of the attested blocks before the first entry, by rising address, of a device that begins with this image
unfoldable pub attested_image : DevicePlan → List ℕ → List ℕ
attested_image plan image = attested_bytes (device_setting plan image) (memory_after (device_setting plan image) [])

-- what is written of them: the file OUT alone
abbrev pub written_image : List ℕ → List ℕ → Written
written_image out bytes = record {
  files = record { name = out; bytes = bytes } ∷ [];
  out = [];
  ending = Accepted;
}

-- `image DEVICE OUT`: the device's applications are placed; neither the key nor a challenge is read
unfoldable pub image_plan : List ℕ → List ℕ → Option Contents → CommandStep Written
image_plan device out files = do
  plan ← DeviceIn device files
  memory ← PlacedIn device plan files
  exactly (Ok (written_image out (attested_image plan memory.image)))

-- ---- `sched`

-- what a run begins with where these files were read
abbrev pub run_setup : SetupFiles → Setup
run_setup files = setup_of files.plan files.placed files.key (served files.admissions)

-- who judges the reports of that run
abbrev pub judge_of : SetupFiles → Judge
judge_of files = record { key = files.key; known = files.images }

-- something came that is so, unless there was no memory
pub data MayCome {A : Type 0} (Fits : A → Type 0) (came : Result A Reason) : Type 0 where
  found : (a : A) → Fits a → came ≡ Ok a → MayCome Fits came
  spent : came ≡ Err no_memory → MayCome Fits came

-- a step that asks for no file, and of which something comes that is so
abbrev pub some_that : {A : Type 0} → (A → Type 0) → CommandStep A
some_that Fits asked came = (asked ≡ []) × MayCome Fits came

-- what is written of the run of this setup under this schedule
abbrev pub ScheduledRun : Setup → List Run → DevicePlan → Judge → List Admission → CommandStep Written
ScheduledRun s schedule plan by admissions = do
  outcome ← some_that (IsScheduledOutcome s schedule)
  exactly (Ok (written_of plan by admissions true outcome))

-- the same of what was read
abbrev pub RunOfFiles : ScheduledFiles → CommandStep Written
RunOfFiles read = ScheduledRun (run_setup read.setup) read.schedule read.setup.plan (judge_of read.setup) read.setup.admissions

-- `sched DEVICE SCHEDULE`: all files are read, the device runs under the schedule, and what has come of it is written
unfoldable pub sched_plan : List ℕ → List ℕ → Option Contents → CommandStep Written
sched_plan device schedule files = do
  read ← ScheduledIn device schedule files
  RunOfFiles read

-- ---- `run`

-- What a device has come to on threads: its history is one of a whole run, and for each application and each challenge here
-- is what this history makes of it. Of the order in which the actors came nothing is said. Of its waiting each application
-- has counted nothing exactly where no store of it waited, and else a place at which one did.
pub record IsThreadedOutcome (s : Setup) (outcome : Outcome) : Type 0 where
  pub world : outcome.chronicle.world ≡ s.world
  pub run : IsRunOf s outcome.chronicle.entries
  pub apps : AreAppEnds s.programs outcome.chronicle.entries outcome.apps
  pub waits : AreWaitsIn s outcome.chronicle.entries outcome.apps
  pub passes : ArePassEnds s outcome.chronicle.entries (acts_of (entries_of outcome.chronicle.entries 0)) s.challenges outcome.passes

-- what is written of the run of this setup on threads: how often an application waited isn't shown
abbrev pub ThreadedRun : Setup → DevicePlan → Judge → List Admission → CommandStep Written
ThreadedRun s plan by admissions = do
  outcome ← some_that (IsThreadedOutcome s)
  exactly (Ok (written_of plan by admissions false outcome))

-- the same of what was read
abbrev pub ThreadedRunOfFiles : SetupFiles → CommandStep Written
ThreadedRunOfFiles read = ThreadedRun (run_setup read) read.plan (judge_of read) read.admissions

-- `run DEVICE`: all files are read, the device runs on threads, and what has come of it is written
unfoldable pub run_plan : List ℕ → Option Contents → CommandStep Written
run_plan device files = do
  read ← SetupIn device files
  ThreadedRunOfFiles read
