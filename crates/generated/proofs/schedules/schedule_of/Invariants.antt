-- The runs so far.
use Rattle.std.proofs.Common.{◌≡◌, ◌≤◌, ◌+◌, ◌*◌, All, map}
use Rattle.std.specs.List.{range_with_len}
use Rattle.generated.specs.Generated.{generated_run}
use Rattle.generated.proofs.schedules.schedule_of.Given as goal

abbrev pub invariant-loop-k : goal.invariant-loop-k
invariant-loop-k l = record {
  items : l.runs.items ≡ map (generated_run l.fn.draws.seed) (range_with_len 0 l.k);
  actors : All (λ run. run.actor ≤ 8) l.runs.items;
  seed : l.draws.seed ≡ l.fn.draws.seed;
  count : l.draws.count ≡ 2 * l.k + 23;
}
