-- Rounds behind a state in which every actor is done change nothing.
use Rattle.sched.proofs.Settled.{one_state}
use Rattle.sched.proofs.laws.one_scheduled_run.Goals as goal

pub returns : goal.returns
returns c = one_state
