-- The views of a table's seats, looked up by number.
use Rattle.std.proofs.Common.{◌≡◌, ◌≢◌, ℕ, zero, suc, ◌<◌, ◌≤◌, ◌⊎◌, Bool, Option, Some, None, List, [], ◌∷◌, ◌++◌, set, length, refl, sym, ap, subst, inl, inr, ⊎_elim, arith}
use Rattle.std.specs.Prelude.{◌&&◌, nat_le, nat_lt, if◌then◌else◌, IsSome, IfSome}
use Rattle.std.proofs.lemmas.Bool.{and_from, and_left, and_right, cases_lt, le-leb, lt-leb, lt-ltb, le-ltb}
use mathlib.Core.Option.{some, some-injective, some-ne-none}
use lib.ListN.{get_elem?}
use Rattle.atomic_table.proofs.Lists.{at_set}

module _ {V : Type 0} where
  -- a seat's number is below their count
  pub seat_below : (views : List V) (j : ℕ) (v : V) → get_elem? views j ≡ some v → j < length views
  seat_below [] j v e = absurd (some-ne-none v (sym e))
  seat_below (x ∷ views) zero v e = omega arith
  seat_below (x ∷ views) (suc j) v e = let h = seat_below views j v e in omega arith

  -- a seat has the view that it was given
  pub seat_set : (views : List V) (j : ℕ) (v w : V) → get_elem? views j ≡ some v → get_elem? (set views j w) j ≡ some w
  seat_set [] j v w e = absurd (some-ne-none v (sym e))
  seat_set (x ∷ views) zero v w e = refl
  seat_set (x ∷ views) (suc j) v w e = seat_set views j v w e

  -- what holds of a seat's new view and of every other seat holds of each
  pub seats_stay : (K : ℕ → V → Type 0) (views : List V) (me : ℕ) (w : V) → K me w → ((j : ℕ) (v : V) → j ≢ me → get_elem? views j ≡ some v → K j v)
      → (j : ℕ) (v : V) → get_elem? (set views me w) j ≡ some v → K j v
  seats_stay K views me w mine others j v e = ⊎_elim (λ (t : (j ≡ me) × (w ≡ v)). subst (λ (x : ℕ × V). K x.0 x.1) (λ i. (sym t.0 i, t.1 i)) mine)
      (λ (t : (j ≢ me) × (get_elem? views j ≡ some v)). others j v t.0 t.1) (at_set views me j w v e)

  -- a seat of a longer list is one of the list, or the new one at its end
  pub seat_of_longer : (views : List V) (w v : V) (j : ℕ) → get_elem? (views ++ w ∷ []) j ≡ some v → (get_elem? views j ≡ some v) ⊎ ((w ≡ v) × (j ≡ length views))
  seat_of_longer [] w v zero e = inr (some-injective w v e, refl)
  seat_of_longer [] w v (suc j) e = absurd (some-ne-none v (sym e))
  seat_of_longer (x ∷ views) w v zero e = inl e
  seat_of_longer (x ∷ views) w v (suc j) e = ⊎_elim (λ t. inl t) (λ (t : (w ≡ v) × (j ≡ length views)). inr (t.0, ap suc t.1)) (seat_of_longer views w v j e)

-- an option that holds a value holds one of which the fact is true
pub held_value : {T : Type 0} (o : Option T) (P : T → Type 0) → IsSome o → IfSome o P → (value : T) × (o ≡ Some value) × P value
held_value None P some_value fact = absurd cc
held_value (Some value) P some_value fact = (value, refl, fact)

pub some_value : {T : Type 0} (a b : T) → Some a ≡ Some b → a ≡ b
some_value a b e = cc

-- a list of one has that element
pub only_one : {V : Type 0} (views : List V) (v w : V) → views ≡ v ∷ [] → views ≡ w ∷ [] → v ≡ w
only_one views v w a b = cc

-- the owner of each actor, once those of a range have a new one
abbrev pub owner_after : ℕ → ℕ → ℕ → (ℕ → ℕ) → ℕ → ℕ
owner_after low high seat owner actor = if nat_le low actor && nat_lt actor high then seat else owner actor

pub owner_within : (low high seat : ℕ) (owner : ℕ → ℕ) (actor : ℕ) → low ≤ actor → actor < high → owner_after low high seat owner actor ≡ seat
owner_within low high seat owner actor from upto = ap (λ b. if b then seat else owner actor) (and_from (nat_le low actor) (nat_lt actor high) (le-leb low actor from) (lt-ltb actor high upto))

-- either the actor is in the range, and has the new owner, or it isn't and has the old one
pub owner_cases : (low high seat : ℕ) (owner : ℕ → ℕ) (actor : ℕ)
    → ((low ≤ actor) × (actor < high) × (owner_after low high seat owner actor ≡ seat)) ⊎ (owner_after low high seat owner actor ≡ owner actor)
owner_cases low high seat owner actor =
    let test : Bool = nat_le low actor && nat_lt actor high in
    ⊎_elim (λ (upto : actor < high). ⊎_elim
    (λ (before : actor < low). inr (ap (λ b. if b then seat else owner actor) (and_left (nat_le low actor) (nat_lt actor high) (lt-leb low actor before))))
    (λ (from : low ≤ actor). inl (from, upto, owner_within low high seat owner actor from upto)) (cases_lt actor low))
    (λ (past : high ≤ actor). inr (ap (λ b. if b then seat else owner actor) (and_right (nat_le low actor) (nat_lt actor high) (le-ltb actor high past)))) (cases_lt actor high)
