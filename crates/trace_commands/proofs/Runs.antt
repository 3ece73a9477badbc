-- What comes of a generated run.
use Rattle.std.proofs.Common.{◌≡◌, ℕ, List, [], Result, Err, refl, subst}
use Rattle.command_plans.specs.Steps.{Reason, no_memory}
use Rattle.command_plans.specs.Written.{Written}
use Rattle.schedule_text.specs.declared.reading.Run.{Run}
use Rattle.device.specs.Setups.{Setup}
use Rattle.device_commands.specs.Plans.{spent}
use Rattle.generated.specs.Generated.{generated_schedule, generated_setup}
use Rattle.trace_commands.specs.Plans.{GeneratedRun, gen_plan}

-- there may be no memory for it
pub spent_run : (seed : ℕ) → gen_plan seed [] (Err no_memory)
unfolding gen_plan
spent_run seed = record { before = []; between = Err no_memory; is = (refl, spent refl); behind = []; follows = (refl, refl); all = refl }

-- what comes of the run of what was made
pub run_of_made : (seed : ℕ) (s : Setup) (schedule : List Run) (came : Result Written Reason) → s ≡ generated_setup seed → schedule ≡ generated_schedule seed → GeneratedRun s schedule [] came → gen_plan seed [] came
unfolding gen_plan
run_of_made seed s schedule came made drawn comes =
    subst (λ (l : List Run). GeneratedRun (generated_setup seed) l [] came) drawn (subst (λ (t : Setup). GeneratedRun t schedule [] came) made comes)
