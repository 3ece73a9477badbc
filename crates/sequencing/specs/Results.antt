-- Definitions by steps that may end with a fault.
use Rattle.std.specs.Prelude.{Option, Some, None, Result, Ok, Err}

-- what follows upon a value; behind a fault nothing follows
infixl 10 ◌>>=◌
abbrev pub ◌>>=◌ : {A B E : Type 0} → Result A E → (A → Result B E) → Result B E
(Ok a) >>= f = f a
(Err fault) >>= f = Err fault

-- the value, unless there is a fault
abbrev pub unless : {A E : Type 0} → Option E → A → Result A E
unless None value = Ok value
unless (Some fault) value = Err fault
