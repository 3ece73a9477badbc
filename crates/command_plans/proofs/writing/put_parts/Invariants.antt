use Rattle.std.proofs.Common.{◌≡◌, length}
use Rattle.command_plans.proofs.Writings.{HasTold}
use Rattle.command_plans.proofs.writing.put_parts.Given as goal

abbrev pub invariant-telling : goal.invariant-telling
invariant-telling g l = record {
  told : HasTold (g.P.Parts.told l.fn.parts) (g.P.Parts.told l.parts) (g.K.Sink.held l.fn.sink) (g.K.Sink.held l.sink);
  quiet : g.K.Sink.faults l.sink ≡ g.K.Sink.faults l.fn.sink;
}

abbrev pub decreases-telling : goal.decreases-telling
decreases-telling g l = length (g.P.Parts.told l.parts)
