-- What a command writes.
use Rattle.std.specs.Prelude.{ℕ, List, [], Option, Some, None}
use Rattle.std.specs.List.{concat}
use Rattle.att_base.specs.Files.{NamedBytes}
use Rattle.command_plans.specs.declared.output.Ending.{Ending}

-- its files in order, then standard output; and how it ends
pub record Written : Type 0 where
  pub files : List NamedBytes
  pub out : List ℕ
  pub ending : Ending

-- the bytes that are told in parts, where there are any
abbrev pub rest_bytes : {P : Type 0} → (P → List ℕ) → Option P → List ℕ
rest_bytes told None = []
rest_bytes told (Some parts) = told parts

-- the bytes of all parts, one after the other
abbrev pub joined : {B : Type 0} → (B → List (List ℕ)) → B → List ℕ
joined parts body = concat (parts body)
