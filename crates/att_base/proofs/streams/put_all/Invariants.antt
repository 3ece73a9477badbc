use Rattle.std.proofs.Common.{length, ◌-◌, ◌≡◌, ◌≤◌, take}
use Rattle.att_base.specs.Streams.{put_after}
use Rattle.att_base.proofs.streams.put_all.Given as goal

abbrev pub invariant-writing : goal.invariant-writing
invariant-writing g l = record {
  within : l.at ≤ length l.piece;
  grown : g.K.Sink.held l.sink ≡ put_after (g.K.Sink.held l.fn.sink) (take l.at l.piece);
  quiet : g.K.Sink.faults l.sink ≡ g.K.Sink.faults l.fn.sink;
}

abbrev pub decreases-writing : goal.decreases-writing
decreases-writing g l = length l.piece - l.at
