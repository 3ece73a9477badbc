-- One read after the other.
use Rattle.std.specs.Prelude.{List, [], ◌∷◌, Option, Ok}
use Rattle.att_base.specs.Files.{Contents}
use Rattle.command_plans.specs.Steps.{CommandStep, exactly, ◌>>=◌}

-- what comes of the same step for each of these, in order
abbrev pub ReadEach : {A B : Type 0} → (A → Option Contents → CommandStep B) → List A → Option Contents → CommandStep (List B)
ReadEach step [] files = exactly (Ok [])
ReadEach step (a ∷ more) files = step a files >>= (λ b. ReadEach step more files >>= (λ rest. exactly (Ok (b ∷ rest))))
