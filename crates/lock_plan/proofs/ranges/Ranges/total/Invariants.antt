use Rattle.std.proofs.Common.{◌≡◌, take, sum_by}
use Rattle.lock_plan.proofs.ranges.Ranges.total.Given as goal

-- the blocks of the ranges so far
abbrev pub invariant-loop-k : goal.invariant-loop-k
invariant-loop-k l = l.total ≡ sum_by (λ r. r.attested) (take l.k l.self)
