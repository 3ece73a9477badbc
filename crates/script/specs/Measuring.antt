-- The measuring steps of a script, and which step may come after them.
use Rattle.std.specs.Prelude.{Bool, ◌&&◌, if◌then◌else◌, List, [], ◌∷◌}
use Rattle.history.specs.declared.events.Entry.{Entry}
use Rattle.history.specs.Layout.{Setting, fits, is_aligned}
use Rattle.history.specs.Pass.{pass_after}
use Rattle.history.specs.Legal.{in_order, is_access}
use Rattle.script.specs.Steps.{act_of, entry_of}
use Rattle.script.specs.declared.steps.Step.{Step}
use Rattle.script.specs.declared.steps.Step.TheVariants as steps

-- the measuring steps among these steps, as entries, the newest first, after the entries given
abbrev pub measured_with : Setting → List Entry → Step → List Entry
measured_with w measured step = if is_access (act_of w measured step) then measured else entry_of w measured step ∷ measured

abbrev pub measured_after : Setting → List Entry → List Step → List Entry
measured_after w measured [] = measured
measured_after w measured (step ∷ steps) = measured_after w (measured_with w measured step) steps

-- an access has to fit and to be aligned; a step of the measurer has to come next after the measuring steps before it
abbrev pub may_come : Setting → List Entry → Step → Bool
may_come w measured (steps.Load width addr) = fits w.layout addr width && is_aligned addr width
may_come w measured (steps.Store width addr value) = fits w.layout addr width && is_aligned addr width
may_come w measured step = in_order w (pass_after measured) (act_of w measured step)
