use Rattle.std.proofs.Common.{◌≡◌, ◌++◌, ◌∷◌, take, length}
use Rattle.std.specs.List.{flat_map, AllByRecursion}
use Rattle.trace.specs.Text.{range_pair}
use Rattle.trace.proofs.OneTrace.{IsLow}
use Rattle.trace.proofs.head_reading.ranges_line.Given as goal

abbrev pub invariant-loop-place : goal.invariant-loop-place
invariant-loop-place l = record {
  low : AllByRecursion IsLow (take l.place l.list);
  spelled : 32 ∷ l.text ≡ flat_map range_pair (take l.place l.list) ++ 32 ∷ l.left;
  count : length l.list ≡ 8;
}
