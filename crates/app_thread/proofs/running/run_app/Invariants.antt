-- So far the run has gone on, and what was counted of its waiting.
use Rattle.std.proofs.Common.{◌≡◌}
use Rattle.history.specs.Legal.{IsLegal}
use Rattle.chronicle.specs.Ports.{KeepsPort}
use Rattle.app_thread.specs.WholeRuns.{GoesOn, HasWaited}
use Rattle.app_thread.proofs.running.run_app.Given as goal

abbrev pub invariant-running : goal.invariant-running
invariant-running g l = record {
  port : KeepsPort (g.P.Viewed.owner l.fn.port) (g.P.Viewed.owner l.port) (g.P.Viewed.world l.fn.port) (g.P.Viewed.world l.port) (g.P.Viewed.low l.fn.port) (g.P.Viewed.low l.port) (g.P.Viewed.high l.fn.port) (g.P.Viewed.high l.port);
  layout : l.app.now.core.layout ≡ l.fn.app.now.core.layout;
  legal : IsLegal (g.P.Viewed.world l.fn.port) (g.P.Viewed.seen l.fn.port) → IsLegal (g.P.Viewed.world l.fn.port) (g.P.Viewed.seen l.port);
  gone : GoesOn (g.P.Viewed.low l.fn.port) (g.P.Viewed.high l.fn.port) (g.P.Viewed.seen l.fn.port) (g.P.Viewed.seen l.port) l.fn.app l.app;
  waited : HasWaited (g.P.Viewed.world l.fn.port) (g.P.Viewed.low l.fn.port) (g.P.Viewed.high l.fn.port) (g.P.Viewed.seen l.fn.port) (g.P.Viewed.seen l.port) l.fn.app l.waits.count l.waits.last;
}
