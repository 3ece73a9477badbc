-- The turns so far.
use Rattle.std.proofs.Common.{◌≡◌, replicate}
use Rattle.device.specs.Turns.{turns}
use Rattle.sched.specs.Rounds.{StopsAtCap}
use Rattle.sched.proofs.running.take_turns.Given as goal

abbrev pub invariant-loop-turn : goal.invariant-loop-turn
invariant-loop-turn l = record {
  setup : l.device.setup ≡ l.fn.device.setup;
  state : l.device.state ≡ turns l.fn.device.setup l.fn.device.state (replicate l._turn l.run.actor);
  stops_at_cap : StopsAtCap l.device.setup l.device.state;
}
