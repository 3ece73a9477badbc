use Rattle.std.proofs.Common.{◌+◌}
use Rattle.trace.proofs.Copies.{HasCopies}
use Rattle.trace.proofs.index.checkpoints.Given as goal

abbrev pub invariant-loop-k : goal.invariant-loop-k
invariant-loop-k l = HasCopies l.chronicle.world l.chronicle.entries l.copies.items (l.k + 1)
