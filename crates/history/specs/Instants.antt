-- The instants of a pass: the places at which memory is what the report says.
use Rattle.std.specs.Prelude.{◌≡◌, ℕ, ◌≤◌, Bool, false, IsTrue, ◌⊎◌, List, [], ◌∷◌, length, Some}
use Rattle.history.specs.declared.events.Discipline.{Discipline}
use Rattle.history.specs.declared.events.Discipline.TheVariants.{All, AllExt, Dec, Inc, IncExt}
use Rattle.history.specs.declared.events.Act.{Act}
use Rattle.history.specs.declared.events.Entry.{Entry}
use Rattle.history.specs.Memory.{back}
use Rattle.history.specs.Pass.{Pass, pass_after, start_of, is_end, is_release, is_released}

-- The place is an instant of a pass whose Start, End and Release have these places.
--   All-Lock from Start to End, All-Lock-Ext from Start to Release, Dec-Lock at Start, Inc-Lock at End,
--   Inc-Lock-Ext from End to Release.
abbrev pub IsInstant : Discipline → ℕ → ℕ → ℕ → ℕ → Type 0
IsInstant All start end release place = (start ≤ place) × (place ≤ end)
IsInstant AllExt start end release place = (start ≤ place) × (place ≤ release)
IsInstant Dec start end release place = place ≡ start
IsInstant Inc start end release place = place ≡ end
IsInstant IncExt start end release place = (end ≤ place) × (place ≤ release)

-- the newest of these entries is of this kind
abbrev pub is_newest : (Act → Bool) → List Entry → Bool
is_newest test [] = false
is_newest test (entry ∷ past) = test entry.act

-- at this place the last pass is the one of this discipline and counter with this Start
pub record IsPassAt (history : List Entry) (form : Discipline) (number start place : ℕ) (pass : Pass) : Type 0 where
  pub within : place ≤ length history
  pub last : pass_after (back history place) ≡ Some pass
  pub discipline : pass.discipline ≡ form
  pub counter : pass.counter ≡ number
  pub began : start_of pass ≡ start

-- the place of its End
pub record EndsAt (history : List Entry) (form : Discipline) (number start end : ℕ) : Type 0 where
  pub pass : Pass
  pub here : IsPassAt history form number start end pass
  pub newest : IsTrue (is_newest is_end pass.since)

-- the place of its Release, or of the history's end where no Release has come
pub record ReleasesAt (history : List Entry) (form : Discipline) (number start release : ℕ) : Type 0 where
  pub pass : Pass
  pub here : IsPassAt history form number start release pass
  pub newest : IsTrue (is_newest is_release pass.since) ⊎ ((release ≡ length history) × (is_released pass ≡ false))
