use Rattle.device.specs.declared.outcomes.Outcome.{Outcome}
use Rattle.sched.specs.Scheduled.{IsScheduledOutcome}
use Rattle.generated.specs.Generated.{generated_key}
use Rattle.device_commands.proofs.Comes.{known_comes}
use Rattle.trace_commands.specs.GeneratedRuns.{written_of_generated}
use Rattle.trace_commands.proofs.generating.generated_run.Goals as goal

pub returns-clause-comes : goal.returns-clause-comes
unfolding generated_key
returns-clause-comes g c =
    known_comes (IsScheduledOutcome c.args.device.setup c.args.schedule.now) (λ (outcome : Outcome). written_of_generated generated_key outcome)
    c.run_schedule-outcome.result (λ o. o) c.run_output.result c.run_schedule-outcome.ensures c.run_output.ensures
