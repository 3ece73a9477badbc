use Rattle.std.proofs.Common.{◌≡◌, take}
use Rattle.history.specs.Attested.{AreApart}
use Rattle.lock_plan.proofs.Apart.{next_first}
use Rattle.lock_plan.proofs.ranges.are_ranges.Given as goal

-- the ranges so far are apart, and the next may begin behind them
abbrev pub invariant-loop-range : goal.invariant-loop-range
invariant-loop-range l = record {
  apart : AreApart (take l.range-index l.list);
  least : l.least ≡ next_first (take l.range-index l.list);
}
