-- The entries of some actors.
use Rattle.std.proofs.Common.{◌≡◌, ℕ, ◌<◌, ◌≤◌, Bool, true, false, cond, List, [], ◌∷◌, ◌++◌, All, refl, ap₂, inl, inr, arith}
use Rattle.std.specs.Prelude.{◌⊎◌, ◌&&◌, IsTrue, nat_le, nat_lt}
use Rattle.std.proofs.lemmas.Bool.{and_parts, and_from, and_left, and_right, le-leb, lt-leb, lt-ltb, le-ltb, leb-true, ltb-true, false≢true}
use Rattle.std.proofs.lemmas.List.Elements.{All-head, All-tail, filter-append}
use Rattle.history.specs.declared.events.Entry.{Entry}
use Rattle.history.specs.Memory.{own}

-- the actor is in the range
abbrev pub in_actors : ℕ → ℕ → Entry → Bool
in_actors low high entry = nat_le low entry.actor && nat_lt entry.actor high

-- the entries of two lists in a row
pub own-append : (a b : List Entry) (low high : ℕ) → own (a ++ b) low high ≡ own a low high ++ own b low high
own-append a b low high = filter-append (in_actors low high) a b

-- an actor outside the range
outside : (low high actor : ℕ) → (actor < low) ⊎ (high ≤ actor) → (nat_le low actor && nat_lt actor high) ≡ false
outside low high actor (inl below) = and_left (nat_le low actor) _ (lt-leb low actor below)
outside low high actor (inr above) = and_right (nat_le low actor) _ (le-ltb actor high above)

-- a list of others has no own entry
pub own_none : (low high : ℕ) (history : List Entry) → All (λ entry. (entry.actor < low) ⊎ (high ≤ entry.actor)) history → own history low high ≡ []
own_none low high [] others = refl
own_none low high (entry ∷ history) others =
    let here = outside low high entry.actor (All-head (λ e. (e.actor < low) ⊎ (high ≤ e.actor)) entry history others) in
    let rest = own_none low high history (All-tail (λ e. (e.actor < low) ⊎ (high ≤ e.actor)) entry history others) in
    ap₂ (λ b l. cond b (entry ∷ own history low high) l) here rest

-- a list of own entries is all own
pub own_all : (low high : ℕ) (history : List Entry) → All (λ entry. (low ≤ entry.actor) × (entry.actor < high)) history → own history low high ≡ history
own_all low high [] mine = refl
own_all low high (entry ∷ history) mine =
    let at = All-head (λ e. (low ≤ e.actor) × (e.actor < high)) entry history mine in
    let here = and_from (nat_le low entry.actor) _ (le-leb low entry.actor at.0) (lt-ltb entry.actor high at.1) in
    let rest = own_all low high history (All-tail (λ e. (low ≤ e.actor) × (e.actor < high)) entry history mine) in
    ap₂ (λ b l. cond b (entry ∷ l) (own history low high)) here rest

-- an entry of the inner range is one of the outer
inner : (low high from upto : ℕ) → low ≤ from → upto ≤ high → (entry : Entry) → IsTrue (in_actors from upto entry) → IsTrue (in_actors low high entry)
inner low high from upto below above entry h =
    let p = and_parts (nat_le from entry.actor) _ h in
    and_from (nat_le low entry.actor) _ (le-leb _ _ (omega (arith, leb-true _ _ p.0))) (lt-ltb _ _ (omega (arith, ltb-true _ _ p.1)))

-- the newest entry is kept by both filters or by neither, or by the outer alone
within_step : (outer inside : Bool) (entry : Entry) (low high from upto : ℕ) (history : List Entry) → (IsTrue inside → IsTrue outer) → in_actors from upto entry ≡ inside → own (own history low high) from upto ≡ own history from upto → own (cond outer (entry ∷ own history low high) (own history low high)) from upto ≡ cond inside (entry ∷ own history from upto) (own history from upto)
within_step true inside entry low high from upto history implies is rest = ap₂ (λ b l. cond b (entry ∷ l) l) is rest
within_step false true entry low high from upto history implies is rest = absurd (false≢true (implies refl))
within_step false false entry low high from upto history implies is rest = rest

-- the entries of a part of the actors, out of those of all
pub own_within : (history : List Entry) (low high from upto : ℕ) → low ≤ from → upto ≤ high → own (own history low high) from upto ≡ own history from upto
own_within [] low high from upto below above = refl
own_within (entry ∷ history) low high from upto below above =
    within_step (in_actors low high entry) (in_actors from upto entry) entry low high from upto history (inner low high from upto below above entry) refl (own_within history low high from upto below above)
