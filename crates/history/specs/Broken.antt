-- The first rule that a history breaks, by the numbers that a check prints.
use Rattle.std.specs.Prelude.{ℕ, suc, not, nat_lt, if◌then◌else◌, List, [], ◌∷◌, length, reverse, Option, Some, None}
use Rattle.std.specs.Option.{option_map}
use Rattle.history.specs.declared.events.Entry.{Entry}
use Rattle.history.specs.Layout.{Setting}
use Rattle.history.specs.Pass.{pass_after}
use Rattle.history.specs.Legal.{actor_fits, in_range, value_fits, lock_allows, in_order}

-- the least rule that the entry breaks after these entries, the newest first: 1 actor, 2 range, 3 value,
-- 4 locked, 5 order, 6 cap
abbrev pub broken_rule : Setting → List Entry → Entry → Option ℕ
broken_rule w past entry =
    if not (actor_fits entry) then Some 1
    else (if not (in_range w entry.act) then Some 2
    else (if not (value_fits w past entry.act) then Some 3
    else (if not (lock_allows w past entry.act) then Some 4
    else (if not (in_order w (pass_after past) entry.act) then Some 5
    else (if nat_lt (length past) w.cap then None else Some 6)))))

-- a place and a rule that is broken there
pub record Break : Type 0 where
  pub place : ℕ
  pub rule : ℕ

-- the earlier of two
abbrev pub earlier : Option Break → Option Break → Option Break
earlier None later = later
earlier (Some found) later = Some found

-- the first place at which a rule fails, with the least such rule; the newest entry first
abbrev pub broken_back : Setting → List Entry → Option Break
broken_back w [] = None
broken_back w (entry ∷ past) = earlier (broken_back w past) (option_map (λ rule. record { place = suc (length past); rule = rule }) (broken_rule w past entry))

-- the first place at which the history breaks a rule
abbrev pub broken : Setting → List Entry → Option Break
broken w history = broken_back w (reverse history)
