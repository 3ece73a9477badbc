use Rattle.std.proofs.Common.{◌≡◌, ◌++◌, take}
use Rattle.std.specs.List.{flat_map}
use Rattle.trace.specs.Text.{range_pair}
use Rattle.trace.proofs.lines.put_ranges.Given as goal

abbrev pub invariant-listing : goal.invariant-listing
invariant-listing l = l.out.items ≡ l.fn.out.items ++ flat_map range_pair (take l.k l.ranges)
