-- The measuring steps of a list of steps with one more at its end.
use Rattle.std.proofs.Common.{◌≡◌, List, [], ◌∷◌, ◌++◌, refl}
use Rattle.history.specs.declared.events.Entry.{Entry}
use Rattle.history.specs.Layout.{Setting}
use Rattle.script.specs.declared.steps.Step.{Step}
use Rattle.script.specs.Measuring.{measured_with, measured_after, may_come}
use Rattle.script.specs.Attested.{MayComeAll}
use Rattle.std.specs.Prelude.{IsTrue}

pub measured_more : (w : Setting) (measured : List Entry) (steps : List Step) (step : Step) → measured_after w measured (steps ++ step ∷ []) ≡ measured_with w (measured_after w measured steps) step
measured_more w measured [] step = refl
measured_more w measured (first ∷ steps) step = measured_more w (measured_with w measured first) steps step

-- each step of a list with one more at its end may come, where those of the list may and then the last
pub may_come_more : (w : Setting) (measured : List Entry) (steps : List Step) (step : Step) → MayComeAll w measured steps → IsTrue (may_come w (measured_after w measured steps) step) → MayComeAll w measured (steps ++ step ∷ [])
may_come_more w measured [] step all may = (may, tt)
may_come_more w measured (first ∷ steps) step all may = (all.0, may_come_more w (measured_with w measured first) steps step all.1 may)
