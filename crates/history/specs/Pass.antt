-- The measuring pass that the last Start opened, by looking back to it.
use Rattle.std.specs.Prelude.{ℕ, suc, Bool, true, false, not, ◌&&◌, ◌||◌, if◌then◌else◌, List, [], ◌∷◌, length, Option, Some, None}
use Rattle.std.specs.Option.{option_map}
use Rattle.std.specs.List.{list_any}
use Rattle.history.specs.declared.events.Discipline.{Discipline}
use Rattle.history.specs.declared.events.Discipline.TheVariants.{All, AllExt, Dec, Inc, IncExt}
use Rattle.history.specs.declared.events.Act.{Act}
use Rattle.history.specs.declared.events.Act.TheVariants.{Start, Copy, End, Release}
use Rattle.history.specs.declared.events.Entry.{Entry}

-- A pass: its discipline and counter, the entries since its Start, and the entries up to and with its
-- Start; both the newest first.
pub record Pass : Type 0 where
  pub discipline : Discipline
  pub counter : ℕ
  pub since : List Entry
  pub opened : List Entry

-- the pass goes on with an entry
abbrev pub longer : Entry → Pass → Pass
longer entry pass = record pass { since = entry ∷ pass.since }

-- the pass once this entry has come after those before it
abbrev pub pass_step : Act → Entry → List Entry → Option Pass → Option Pass
pass_step (Start discipline counter) entry past before = Some (record { discipline = discipline; counter = counter; since = []; opened = entry ∷ past })
pass_step _ entry past before = option_map (longer entry) before

-- the pass after these entries, the newest first; None before the first Start
abbrev pub pass_after : List Entry → Option Pass
pass_after [] = None
pass_after (entry ∷ past) = pass_step entry.act entry past (pass_after past)

abbrev pub is_copy : Act → Bool
is_copy (Copy block) = true
is_copy _ = false

abbrev pub is_end : Act → Bool
is_end End = true
is_end _ = false

abbrev pub is_release : Act → Bool
is_release Release = true
is_release _ = false

-- the place of its Start
abbrev pub start_of : Pass → ℕ
start_of pass = length pass.opened

-- how many of these entries are copies
abbrev pub copies_in : List Entry → ℕ
copies_in [] = 0
copies_in (entry ∷ entries) = if is_copy entry.act then suc (copies_in entries) else copies_in entries

-- how many blocks the pass has copied
abbrev pub copied_of : Pass → ℕ
copied_of pass = copies_in pass.since

-- its End has come
abbrev pub is_ended : Pass → Bool
is_ended pass = list_any (λ entry. is_end entry.act) pass.since

-- its Release has come
abbrev pub is_released : Pass → Bool
is_released pass = list_any (λ entry. is_release entry.act) pass.since

-- the discipline holds locks after End, until Release
abbrev pub is_extended : Discipline → Bool
is_extended All = false
is_extended AllExt = true
is_extended Dec = false
is_extended Inc = false
is_extended IncExt = true

-- the pass isn't over
abbrev pub is_open : Pass → Bool
is_open pass = not (is_ended pass) || (is_extended pass.discipline && not (is_released pass))
