use Rattle.std.proofs.Common.{◌≡◌, ◌-◌, ◌&&◌, nat_le, nat_lt, min, take, sum_by}
use Rattle.std.specs.List.{list_any}
use Rattle.history.specs.Attested.{range_end}
use Rattle.lock_plan.proofs.ranges.Ranges.index.Given as goal

-- the attested blocks below, and whether the block is attested, of the ranges so far
abbrev pub invariant-loop-k : goal.invariant-loop-k
invariant-loop-k l = record {
  below : l.below ≡ sum_by (λ r. min r.attested (l.block - r.first)) (take l.k l.self);
  attested : l.attested ≡ list_any (λ r. nat_le r.first l.block && nat_lt l.block (range_end r)) (take l.k l.self);
}
