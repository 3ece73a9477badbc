-- Definitions by steps that may give nothing.
use Rattle.std.specs.Prelude.{Bool, if◌then◌else◌, Option, Some, None}
use Rattle.std.specs.Option.{option_and_then}

-- what follows upon a value; behind nothing there is nothing
infixl 10 ◌>>=◌
abbrev pub ◌>>=◌ : {A B : Type 0} → Option A → (A → Option B) → Option B
o >>= f = option_and_then f o

-- a value, if the test holds
abbrev pub when : {A : Type 0} → Bool → A → Option A
when test value = if test then Some value else None
