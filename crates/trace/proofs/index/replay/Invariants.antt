use Rattle.history.specs.Layout.{Setting}
use Rattle.history.specs.Memory.{memory_at}
use Rattle.trace.specs.Index.{IsWindow}
use Rattle.trace.proofs.index.replay.Given as goal

abbrev pub invariant-loop-place : goal.invariant-loop-place
invariant-loop-place l = (w : Setting) → IsWindow (memory_at w l.entries l.from) l.low l.fn.window → IsWindow (memory_at w l.entries l.place) l.low l.window
