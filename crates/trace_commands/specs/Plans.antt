-- What `gen` is to do.
use Rattle.std.specs.Prelude.{ℕ, List, Ok}
use Rattle.command_plans.specs.Steps.{CommandStep, exactly, ◌>>=◌}
use Rattle.command_plans.specs.Written.{Written}
use Rattle.schedule_text.specs.declared.reading.Run.{Run}
use Rattle.device.specs.Setups.{Setup}
use Rattle.sched.specs.Scheduled.{IsScheduledOutcome}
use Rattle.generated.specs.Generated.{generated_key, generated_schedule, generated_setup}
use Rattle.device_commands.specs.Plans.{some_that}
use Rattle.trace_commands.specs.GeneratedRuns.{written_of_generated}

-- what is written of the run of this setup under this schedule, whose reports have the key of generated devices
abbrev pub GeneratedRun : Setup → List Run → CommandStep Written
GeneratedRun s schedule = do
  outcome ← some_that (IsScheduledOutcome s schedule)
  exactly (Ok (written_of_generated generated_key outcome))

-- `gen N`: no file is asked for; the device that is drawn from N runs under the schedule that is, and what has come of it is
-- written
unfoldable pub gen_plan : ℕ → CommandStep Written
gen_plan seed = GeneratedRun (generated_setup seed) (generated_schedule seed)
