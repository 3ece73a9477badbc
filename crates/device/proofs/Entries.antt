-- The entries of one actor, as the history grows by an entry.
use Rattle.std.proofs.Common.{◌≡◌, ℕ, ◌+◌, ◌<◌, ◌≤◌, List, [], ◌∷◌, ◌++◌, All, inl, inr, ap, ◌∙◌, append-nil, arith}
use Rattle.std.specs.Prelude.{◌⊎◌, ◌≢◌}
use Rattle.std.proofs.lemmas.Bool.{cases_lt}
use Rattle.std.proofs.lemmas.List.Elements.{All-nil, All-cons}
use Rattle.history.specs.declared.events.Act.{Act}
use Rattle.history.specs.declared.events.Entry.{Entry}
use Rattle.history.specs.Memory.{own}
use Rattle.chronicle.specs.Ports.{entry_by}
use Rattle.device.specs.Runs.{entries_of}

abbrev pub OwnAppend : Type 0
OwnAppend = (a b : List Entry) (low high : ℕ) → own (a ++ b) low high ≡ own a low high ++ own b low high

abbrev pub OwnNone : Type 0
OwnNone = (low high : ℕ) (others : List Entry) → All (λ entry. (entry.actor < low) ⊎ (high ≤ entry.actor)) others → own others low high ≡ []

abbrev pub OwnAll : Type 0
OwnAll = (low high : ℕ) (mine : List Entry) → All (λ entry. (low ≤ entry.actor) × (entry.actor < high)) mine → own mine low high ≡ mine

-- two different numbers
apart_at : (a b : ℕ) → a ≢ b → (b < a) ⊎ (a ≤ b) → (b < a) ⊎ (a + 1 ≤ b)
apart_at a b differ (inl below) = inl below
apart_at a b differ (inr above) = inr (omega (arith, differ, above))

apart : (a b : ℕ) → a ≢ b → (b < a) ⊎ (a + 1 ≤ b)
apart a b differ = apart_at a b differ (cases_lt b a)

pub own_added : OwnAppend → OwnAll → (history : List Entry) (actor : ℕ) (act : Act) → entries_of (history ++ entry_by actor act ∷ []) actor ≡ entries_of history actor ++ entry_by actor act ∷ []
own_added append all history actor act =
    append history (entry_by actor act ∷ []) actor (actor + 1)
    ∙ ap (λ l. own history actor (actor + 1) ++ l) (
    all actor (actor + 1) (entry_by actor act ∷ []) (
    All-cons (λ e. (actor ≤ e.actor) × (e.actor < actor + 1)) (entry_by actor act) [] (omega arith, omega arith) (
    All-nil (λ e. (actor ≤ e.actor) × (e.actor < actor + 1)))))

pub other_added : OwnAppend → OwnNone → (history : List Entry) (actor other : ℕ) (act : Act) → actor ≢ other → entries_of (history ++ entry_by other act ∷ []) actor ≡ entries_of history actor
other_added append none history actor other act differ =
    append history (entry_by other act ∷ []) actor (actor + 1)
    ∙ ap (λ l. own history actor (actor + 1) ++ l) (
    none actor (actor + 1) (entry_by other act ∷ []) (
    All-cons (λ e. (e.actor < actor) ⊎ (actor + 1 ≤ e.actor)) (entry_by other act) [] (apart actor other differ) (
    All-nil (λ e. (e.actor < actor) ⊎ (actor + 1 ≤ e.actor)))))
    ∙ append-nil (own history actor (actor + 1))
