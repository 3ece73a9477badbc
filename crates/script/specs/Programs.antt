-- What a script says.
use Rattle.std.specs.Prelude.{ℕ, List}
use Rattle.history.specs.Layout.{Setting}
use Rattle.script.specs.declared.steps.Step.{Step}

-- a script: the memory, the key, and the steps
pub record Program : Type 0 where
  pub setting : Setting
  pub key : List ℕ
  pub steps : List Step
