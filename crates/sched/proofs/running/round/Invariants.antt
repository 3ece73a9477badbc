-- The turns so far; what they have left to do; and while nobody made an entry or was stopped, who is done.
use Rattle.std.proofs.Common.{◌≡◌, ◌<◌, ◌≤◌, true, false}
use Rattle.std.specs.List.{range_with_len}
use Rattle.device.specs.Turns.{turns}
use Rattle.sched.specs.Rounds.{DoneBelow, StopsAtCap, entries_left}
use Rattle.sched.proofs.running.round.Given as goal

abbrev pub invariant-loop-actor : goal.invariant-loop-actor
invariant-loop-actor l = record {
  setup : l.device.setup ≡ l.fn.device.setup;
  state : l.device.state ≡ turns l.fn.device.setup l.fn.device.state (range_with_len 0 l.actor);
  stops_at_cap : StopsAtCap l.device.setup l.device.state;
  left : entries_left l.device.setup l.device.state ≤ entries_left l.fn.device.setup l.fn.device.state;
  went : l.went ≡ true → entries_left l.device.setup l.device.state < entries_left l.fn.device.setup l.fn.device.state;
  done : l.went ≡ false → DoneBelow l.device.setup l.device.state l.actor;
}
