-- So many rounds behind the schedule's turns.
use Rattle.std.proofs.Common.{◌≡◌, ℕ}
use Rattle.device.specs.Turns.{first_state, turns}
use Rattle.sched.specs.Rounds.{StopsAtCap, entries_left}
use Rattle.sched.specs.Scheduled.{rounds, turns_said}
use Rattle.sched.proofs.running.take_all_turns.Given as goal

abbrev pub invariant-loop : goal.invariant-loop
invariant-loop l = record {
  setup : l.device.setup ≡ l.fn.device.setup;
  count : ℕ;
  state : l.device.state ≡ rounds l.fn.device.setup count (turns l.fn.device.setup (first_state l.fn.device.setup) (turns_said l.schedule));
  stops_at_cap : StopsAtCap l.device.setup l.device.state;
}

abbrev pub decreases-loop : goal.decreases-loop
decreases-loop l = entries_left l.device.setup l.device.state
