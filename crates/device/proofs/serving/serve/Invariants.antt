-- So far the measurements have gone on.
use Rattle.std.proofs.Common.{◌≡◌, length}
use Rattle.history.specs.Legal.{IsLegal}
use Rattle.chronicle.specs.Ports.{KeepsPort}
use Rattle.device.specs.Keeping.{IsMeasuring}
use Rattle.device.proofs.serving.serve.Given as goal

abbrev pub invariant-serving : goal.invariant-serving
invariant-serving g l = record {
  port : KeepsPort (g.P.Viewed.owner l.fn.port) (g.P.Viewed.owner l.port) (g.P.Viewed.world l.fn.port) (g.P.Viewed.world l.port) (g.P.Viewed.low l.fn.port) (g.P.Viewed.low l.port) (g.P.Viewed.high l.fn.port) (g.P.Viewed.high l.port);
  room : length l.buffer ≡ length l.fn.buffer;
  challenges : l.passes.challenges ≡ l.fn.passes.challenges;
  legal : IsLegal (g.P.Viewed.world l.fn.port) (g.P.Viewed.seen l.fn.port) → IsLegal (g.P.Viewed.world l.fn.port) (g.P.Viewed.seen l.port);
  stands : IsMeasuring l.key (g.P.Viewed.world l.fn.port) (g.P.Viewed.seen l.port) l.passes;
}
