use Rattle.std.proofs.Common.{◌≡◌, ◌+◌, take, sum_by}
use Rattle.lock_plan.proofs.ranges.Ranges.block.Given as goal

-- what is left of the index behind the ranges so far
abbrev pub invariant-loop-k : goal.invariant-loop-k
invariant-loop-k l = sum_by (λ r. r.attested) (take l.k l.self) + l.rest ≡ l.index
