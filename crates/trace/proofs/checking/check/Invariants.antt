use Rattle.std.proofs.Common.{◌≡◌}
use Rattle.trace.proofs.Checks.{HasChecked}
use Rattle.trace.proofs.checking.check.Given as goal

abbrev pub invariant-loop-entry : goal.invariant-loop-entry
invariant-loop-entry l = record {
  world : l.world ≡ l.chronicle.world;
  items : l.entry-items ≡ l.chronicle.entries;
  count : l.count ≡ l.entry-index;
  checked : HasChecked l.chronicle.world l.chronicle.entries l.entry-index l.memory l.plan;
}
