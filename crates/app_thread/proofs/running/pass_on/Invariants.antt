-- So far only others have made entries, and each store that was asked found its block locked.
use Rattle.std.proofs.Common.{◌≡◌}
use Rattle.history.specs.Legal.{IsLegal}
use Rattle.chronicle.specs.Ports.{KeepsPort}
use Rattle.app_thread.specs.WholeRuns.{GoesOn, HasWaited}
use Rattle.app_thread.proofs.running.pass_on.Given as goal

abbrev pub invariant-asking : goal.invariant-asking
invariant-asking g l = record {
  port : KeepsPort (g.P.Viewed.owner l.fn.port) (g.P.Viewed.owner l.port) (g.P.Viewed.world l.fn.port) (g.P.Viewed.world l.port) (g.P.Viewed.low l.fn.port) (g.P.Viewed.low l.port) (g.P.Viewed.high l.fn.port) (g.P.Viewed.high l.port);
  app : l.app ≡ l.fn.app;
  legal : IsLegal (g.P.Viewed.world l.fn.port) (g.P.Viewed.seen l.fn.port) → IsLegal (g.P.Viewed.world l.fn.port) (g.P.Viewed.seen l.port);
  gone : GoesOn (g.P.Viewed.low l.fn.port) (g.P.Viewed.high l.fn.port) (g.P.Viewed.seen l.fn.port) (g.P.Viewed.seen l.port) l.fn.app l.fn.app;
  waited : HasWaited (g.P.Viewed.world l.fn.port) (g.P.Viewed.low l.fn.port) (g.P.Viewed.high l.fn.port) (g.P.Viewed.seen l.fn.port) (g.P.Viewed.seen l.port) l.fn.app l.waits.count l.waits.last;
}
