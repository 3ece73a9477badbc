-- What a script prints, of equal worlds, keys and steps.
use Rattle.std.proofs.Common.{◌≡◌, ℕ, List, [], ap, ◌∙◌}
use Rattle.history.specs.Layout.{Setting}
use Rattle.script.specs.declared.steps.Step.{Step}
use Rattle.script.specs.Printed.{steps_printed}

pub same_text : (w v : Setting) (k key : List ℕ) (s steps : List Step) → w ≡ v → k ≡ key → s ≡ steps
    → steps_printed w k [] [] s ≡ steps_printed v key [] [] steps
same_text w v k key s steps world keys all =
    ap (λ x. steps_printed x k [] [] s) world ∙ ap (λ x. steps_printed v x [] [] s) keys ∙ ap (λ x. steps_printed v key [] [] x) all
