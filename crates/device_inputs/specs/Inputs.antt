-- What comes of reading a device file, a schedule, the files of applications and of challenges.
use Rattle.std.specs.Prelude.{ℕ, List, [], ◌∷◌, codes, Option, Result, Ok, Err}
use Rattle.att_base.specs.Files.{Contents}
use Rattle.command_plans.specs.Lines.{bad_line}
use Rattle.command_plans.specs.Steps.{Reason, bad, no_memory, CommandStep, exactly, ◌>>=◌}
use Rattle.command_plans.specs.Reading.{input_limit, ReadFile}
use Rattle.device_config.specs.declared.plans.AppPlan.{AppPlan}
use Rattle.device_config.specs.declared.plans.ChallengePlan.{ChallengePlan}
use Rattle.device_config.specs.declared.plans.DevicePlan.{DevicePlan}
use Rattle.device_config.specs.Files.{device_file}
use Rattle.schedule_text.specs.declared.reading.Run.{Run}
use Rattle.schedule_text.specs.Schedules.{schedule_of}
use Rattle.elf32.specs.declared.faults.ElfFault.{ElfFault}
use Rattle.elf32.specs.Files.{Executable, elf_of, fault_number}
use Rattle.loader.specs.declared.faults.PlaceFault.{PlaceFault}
use Rattle.loader.specs.declared.faults.PlaceFault.TheVariants.{OutsideMemory, Overlap, EntryOutside, Memory}
use Rattle.loader.specs.declared.placed.Placed.{Placed}
use Rattle.loader.specs.Placing.{placed}
use Rattle.device_inputs.specs.Lists.{ReadEach}

-- what a device file says, or the first rule that it breaks
abbrev pub checked_device : List ℕ → Result DevicePlan ℕ → Result DevicePlan Reason
checked_device name (Ok plan) = Ok plan
checked_device name (Err rule) = Err (bad (bad_line name (codes "device") (rule ∷ [])))

unfoldable pub DeviceIn : List ℕ → Option Contents → CommandStep DevicePlan
DeviceIn name files = do
  text ← ReadFile input_limit name files
  exactly (checked_device name (device_file text))

-- the runs of a schedule, or the first line at which it leaves the grammar
abbrev pub checked_schedule : List ℕ → Result (List Run) ℕ → Result (List Run) Reason
checked_schedule name (Ok runs) = Ok runs
checked_schedule name (Err line) = Err (bad (bad_line name (codes "schedule") (line ∷ [])))

-- a schedule for so many applications
unfoldable pub ScheduleIn : List ℕ → ℕ → Option Contents → CommandStep (List Run)
ScheduleIn name apps files = do
  text ← ReadFile input_limit name files
  exactly (checked_schedule name (schedule_of apps text))

-- the bytes of an ELF file, or the first rule that they break
abbrev pub if_sound : List ℕ → List ℕ → Result Executable ElfFault → Result (List ℕ) Reason
if_sound name bytes (Ok file) = Ok bytes
if_sound name bytes (Err fault) = Err (bad (bad_line name (codes "elf") (fault_number fault ∷ [])))

unfoldable pub AppFileIn : AppPlan → Option Contents → CommandStep (List ℕ)
AppFileIn app files = do
  bytes ← ReadFile input_limit app.file files
  exactly (if_sound app.file bytes (elf_of bytes))

-- each application's file, in order
abbrev pub AppFilesIn : List AppPlan → Option Contents → CommandStep (List (List ℕ))
AppFilesIn apps files = ReadEach AppFileIn apps files

-- Memory's image and the entries, or the first test of placing that fails: a segment lies outside memory, 1, it shares a
-- byte with an earlier one, 2, or an entry is no word of memory, 3.
abbrev pub checked_placing : List ℕ → Result Placed PlaceFault → Result Placed Reason
checked_placing device (Ok image) = Ok image
checked_placing device (Err (OutsideMemory app segment)) = Err (bad (bad_line device (codes "place") (1 ∷ app ∷ segment ∷ [])))
checked_placing device (Err (Overlap app segment with_app with_segment)) = Err (bad (bad_line device (codes "place") (2 ∷ app ∷ segment ∷ with_app ∷ with_segment ∷ [])))
checked_placing device (Err (EntryOutside app)) = Err (bad (bad_line device (codes "place") (3 ∷ app ∷ [])))
checked_placing device (Err Memory) = Err no_memory

-- the applications of a device file of this name, placed right behind the last of their files
unfoldable pub PlacedIn : List ℕ → DevicePlan → Option Contents → CommandStep Placed
PlacedIn device plan files = do
  apps ← AppFilesIn plan.apps files
  exactly (checked_placing device (placed plan.geometry apps))

-- a challenge's file, whatever its bytes are
unfoldable pub ChallengeFileIn : ChallengePlan → Option Contents → CommandStep (List ℕ)
ChallengeFileIn challenge files = ReadFile input_limit challenge.file files

-- each challenge's file, in order
abbrev pub ChallengeFilesIn : List ChallengePlan → Option Contents → CommandStep (List (List ℕ))
ChallengeFilesIn challenges files = ReadEach ChallengeFileIn challenges files
