-- What a history has once.
use Rattle.std.specs.Prelude.{◌≡◌, ℕ, List}
use Rattle.history.specs.declared.events.Discipline.{Discipline}
use Rattle.history.specs.declared.events.Entry.{Entry}
use Rattle.history.specs.Pass.{Pass}
use Rattle.history.specs.Instants.{IsPassAt}

-- passes of one discipline and counter have one Start, wherever in the history they stand
abbrev pub StartsOnce : List Entry → Type 0
StartsOnce history =
    (form : Discipline) (number start place other elsewhere : ℕ) (pass another : Pass)
    → IsPassAt history form number start place pass → IsPassAt history form number other elsewhere another → start ≡ other
