-- The runs so far.
use Rattle.std.proofs.Common.{◌≡◌, take}
use Rattle.device.specs.Turns.{turns}
use Rattle.sched.specs.Rounds.{StopsAtCap}
use Rattle.sched.specs.Scheduled.{turns_said}
use Rattle.sched.proofs.running.take_schedule.Given as goal

abbrev pub invariant-loop-run : goal.invariant-loop-run
invariant-loop-run l = record {
  setup : l.device.setup ≡ l.fn.device.setup;
  state : l.device.state ≡ turns l.fn.device.setup l.fn.device.state (turns_said (take l.run-index l.schedule));
  stops_at_cap : StopsAtCap l.device.setup l.device.state;
}
