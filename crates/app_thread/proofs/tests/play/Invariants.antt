-- The application's memory is the core's.
use Rattle.std.proofs.Common.{◌≡◌}
use Rattle.app_thread.proofs.tests.play.Given as goal

abbrev pub invariant-loop-awaited : goal.invariant-loop-awaited
invariant-loop-awaited g l = l.app.now.core.layout ≡ l.core.world.layout
