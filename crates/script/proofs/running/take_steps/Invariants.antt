use Rattle.std.proofs.Common.{◌≡◌, length, drop}
use Rattle.script.proofs.Midways.{Midway}
use Rattle.script.proofs.running.take_steps.Given as goal

abbrev pub invariant-loop-step : goal.invariant-loop-step
invariant-loop-step l =
    Midway l.fn.core.world l.fn.tagger.key.items l.steps l.fn.out.items (drop l.step-index l.steps) l.core l.out.items l.tagger × (length l.buffer ≡ l.fn.core.world.layout.size)
