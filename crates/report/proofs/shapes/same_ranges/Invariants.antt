use Rattle.std.proofs.Common.{◌≡◌, drop}
use Rattle.report.specs.Shapes.{same_ranges}
use Rattle.report.proofs.shapes.same_ranges.Given as goal

-- the ranges before this place are the same
abbrev pub invariant-loop-k : goal.invariant-loop-k
invariant-loop-k l = same_ranges l.a l.b ≡ same_ranges (drop l.k l.a) (drop l.k l.b)
