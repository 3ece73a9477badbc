use Rattle.std.proofs.Common.{true}
use Rattle.device.specs.declared.outcomes.Outcome.{Outcome}
use Rattle.sched.specs.Scheduled.{IsScheduledOutcome}
use Rattle.device_commands.specs.RunWritten.{written_of}
use Rattle.device_commands.proofs.Comes.{known_comes}
use Rattle.device_commands.proofs.scheduled.scheduled_run.Goals as goal

pub returns-clause-comes : goal.returns-clause-comes
returns-clause-comes g c =
    known_comes (IsScheduledOutcome c.args.device.setup c.args.schedule.now) (λ (outcome : Outcome). written_of c.args.plan.now c.args.judge.now c.args.admissions.now true outcome)
    c.run_schedule-outcome.result (λ o. o) c.run_output.result c.run_schedule-outcome.ensures c.run_output.ensures
