-- When a fault of the outside may be told, and when it must not.
use Rattle.std.specs.Prelude.{◌≡◌, ◌⊎◌, ℕ, false, List, Option, Some, None, Result, Ok, Err}
use Rattle.att_base.specs.Faults.{FaultCountRose}
use Rattle.att_base.specs.Files.{Contents, CountsAbsent}
use Rattle.command_plans.specs.declared.output.Ending.{Ending}
use Rattle.command_plans.specs.declared.output.Ending.TheVariants as endings
use Rattle.command_plans.specs.Steps.{Reason, absent, failed, no_memory, bad}
use Rattle.command_plans.specs.Written.{Written}
use Rattle.device.specs.declared.outcomes.Outcome.{Outcome}
use Rattle.device_inputs.specs.declared.setup.SetupFiles.{SetupFiles}
use Rattle.device_inputs.specs.Setups.{SetupIn}
use Rattle.device_commands.specs.Plans.{run_setup, IsThreadedOutcome}
use Rattle.attest_top.specs.declared.status.Status.{Status}
use Rattle.attest_top.specs.declared.status.Status.TheVariants.{Good, Rejected, Usage, Full, Memory}
use Rattle.attest_top.specs.Lines.{Form, script, run}
use Rattle.attest_top.specs.Moments.{Moment}
use Rattle.attest_top.specs.Found.{IsFound}
use Rattle.attest_top.specs.Plans.{Plan, misused, planned, run_written, command_plan}
use Rattle.attest_top.specs.Outcomes.{reason_status}

-- the count of faults of what the command reads has risen, or stands at its type's end
abbrev pub ReadFailed : Option Form → Moment → Moment → Type 0
ReadFailed (Some script) before after = FaultCountRose before.input.faults after.input.faults
ReadFailed _ before after = FaultCountRose before.files.faults after.files.faults

-- Why a fault of the outside may be told, by the plan. Where nothing is to be written, only standard error can fail. That
-- a file isn't there is known where files tell, and else it counts. A read that fails counts. What is to be written may
-- fail anywhere.
abbrev pub HasCause : Option Form → Plan → Moment → Moment → Type 0
HasCause form misused before after = FaultCountRose before.err.faults after.err.faults
HasCause form (planned (Err (bad line))) before after = FaultCountRose before.err.faults after.err.faults
HasCause form (planned (Err no_memory)) before after = FaultCountRose before.err.faults after.err.faults
HasCause form (planned (Err absent)) before after = CountsAbsent before.files.held before.files.faults after.files.faults
HasCause form (planned (Err failed)) before after = ReadFailed form before after
HasCause form (planned (Ok w)) before after =
    FaultCountRose before.files.faults after.files.faults ⊎ (FaultCountRose before.out.faults after.out.faults ⊎ FaultCountRose before.err.faults after.err.faults)

-- ---- completeness

-- nothing that the command uses has failed, nor stands the count of its faults at its type's end
pub record NothingFailed (form : Option Form) (before after : Moment) : Type 0 where
  pub read : ReadFailed form before after → ⊥
  pub files : FaultCountRose before.files.faults after.files.faults → ⊥
  pub out : FaultCountRose before.out.faults after.out.faults → ⊥
  pub err : FaultCountRose before.err.faults after.err.faults → ⊥

-- the status of a plan that was carried out
abbrev pub status_of : Ending → Status
status_of endings.Accepted = Good
status_of endings.Refused = Rejected
status_of (endings.Full cap) = Full

-- the status that goes with what came
abbrev pub status_meant : Result Written Reason → Status
status_meant (Ok w) = status_of w.ending
status_meant (Err reason) = reason_status reason

-- the status is that of what some run on threads has come to, where these files were read; or that of the reason why none was
abbrev pub HasStatusOf : Result SetupFiles Reason → Status → Type 0
HasStatusOf (Ok files) status = (outcome : Outcome) × IsThreadedOutcome (run_setup files) outcome × (status ≡ status_of (run_written files false outcome).ending)
HasStatusOf (Err reason) status = status ≡ reason_status reason

-- Where nothing has failed, words in no form are told so; and what is found of a command over files and input that tell
-- has its status, unless there is no memory. Of `run` what is found are the files of a device, and the status is that of a
-- run of it.
abbrev pub IsComplete : Option Form → Status → Moment → Moment → Type 0
IsComplete None status before after = NothingFailed None before after → status ≡ Usage
IsComplete (Some (run device)) status before after =
    (held : Contents) (names : List (List ℕ)) (came : Result SetupFiles Reason)
    → before.files.held ≡ Some held → SetupIn device (Some held) names came → IsFound came
    → NothingFailed (Some (run device)) before after → HasStatusOf came status ⊎ (status ≡ Memory)
IsComplete (Some form) status before after =
    (held : Contents) (text : List ℕ) (names : List (List ℕ)) (came : Result Written Reason)
    → before.files.held ≡ Some held → before.input.bytes ≡ Some text → command_plan form (Some held) (Some text) names came → IsFound came
    → NothingFailed (Some form) before after → (status ≡ status_meant came) ⊎ (status ≡ Memory)
