-- In a round without an entry every actor is done: the measurer never waits, and where it is over nobody else does.
use Rattle.std.proofs.Common.{◌≡◌, ℕ, zero, suc, ◌+◌, ◌≤◌, Bool, true, false, List, [], ◌∷◌, ◌++◌, length, reverse, All, inl, inr, Option, Some, None, refl, sym, ap, ◌∙◌, subst, arith}
use Rattle.std.specs.Prelude.{◌≢◌, ◌||◌, if◌then◌else◌, is_none, replicate}
use Rattle.std.proofs.lemmas.Bool.{cases_lt, false≢true}
use Rattle.std.proofs.lemmas.List.Elements.{All-append, All-cons, All-map, All-nil, All-replicate}
use Rattle.std.proofs.lemmas.List.{get_or-set_other, get_or-set_same, length_push}
use Rattle.std.proofs.lemmas.Option.{get_or_from_slice_get, slice_get_within, unwrap_or-slice_get}
use Rattle.history.specs.declared.events.Act.{Act}
use Rattle.history.specs.declared.events.Act.TheVariants as act
use Rattle.history.specs.declared.events.Entry.{Entry}
use Rattle.history.specs.Attested.{attested_blocks}
use Rattle.history.specs.Layout.{Setting}
use Rattle.history.specs.Pass.{is_extended}
use Rattle.history.specs.Legal.{lock_allows}
use Rattle.challenge.specs.declared.Challenge.{Challenge}
use Rattle.chronicle.specs.declared.worlds.Shape.{Shape}
use Rattle.chronicle.specs.Ports.{entry_by}
use Rattle.chronicle.specs.Worlds.{shape_of}
use Rattle.measure.specs.Program.{closing_acts, copies, measuring_program, measuring_programs, pass_acts}
use Rattle.device.specs.declared.tallies.Stepped.{Stepped}
use Rattle.device.specs.declared.tallies.Stepped.TheVariants.{Over, Made, Again, Full}
use Rattle.device.specs.Setups.{Setup}
use Rattle.device.specs.Runs.{entries_of, measurer_acts, next_act}
use Rattle.device.specs.Turns.{IsTurn, RunState, actor_state, fresh, is_done, tally_of, with_actor, with_stop}
use Rattle.sched.specs.Rounds.{DoneBelow, StopsAtCap, adds_entry}
use Rattle.sched.proofs.Going.{Goes, acts, rests, stops, waits}

-- ---- the measurer

module _ (w : Setting) (past : List Entry) where
  -- no lock holds up this act
  abbrev IsFree : Act → Type 0
  IsFree a = lock_allows w past a ≡ true

  free_closing : (c : Challenge) (b : Bool) → All IsFree (if b then replicate c.hold act.Tick ++ (act.Release ∷ []) else [])
  free_closing c true = All-append IsFree _ _ (All-replicate IsFree c.hold act.Tick refl) (All-cons IsFree act.Release [] refl (All-nil IsFree))
  free_closing c false = All-nil IsFree

  free_pass : (c : Challenge) (shape : Shape) → All IsFree (pass_acts c shape)
  free_pass c shape =
      All-cons IsFree (act.Start c.discipline c.counter) (copies (attested_blocks shape.ranges) ++ (act.End ∷ [])) refl (
      All-append IsFree _ _ (All-map IsFree act.Copy (attested_blocks shape.ranges) (λ k d within. refl)) (All-cons IsFree act.End [] refl (All-nil IsFree)))

  free_program : (c : Challenge) (shape : Shape) → All IsFree (measuring_program c shape)
  free_program c shape =
      All-append IsFree (replicate c.lead act.Tick ++ pass_acts c shape) (closing_acts c) (
      All-append IsFree (replicate c.lead act.Tick) (pass_acts c shape) (All-replicate IsFree c.lead act.Tick refl) (free_pass c shape)) (
      free_closing c (is_extended c.discipline))

  free_programs : (challenges : List Challenge) (shape : Shape) → All IsFree (measuring_programs challenges shape)
  free_programs [] shape = All-nil IsFree
  free_programs (c ∷ challenges) shape = All-append IsFree (measuring_program c shape) (measuring_programs challenges shape) (free_program c shape) (free_programs challenges shape)

measurer_free : (s : Setup) (history past : List Entry) (a : Act) → next_act s history 0 ≡ Some a → lock_allows s.world past a ≡ true
measurer_free s history past a next =
    let place : ℕ = length (entries_of history 0) in
    let program : List Act = measurer_acts s in
    subst (λ x. lock_allows s.world past x ≡ true) (get_or_from_slice_get program place a a next)
    (free_programs s.world past s.challenges (shape_of s.world) place a (slice_get_within program place a next))

-- ---- a round without an entry

is_over : (s : Setup) (state : RunState) (way : StopsAtCap s state) → length state.history ≢ s.world.cap → (stopped : Bool) (next : Option Act) → (tally_of state 0).stopped ≡ stopped → next_act s state.history 0 ≡ next → (stopped || is_none next) ≡ true → next_act s state.history 0 ≡ None
is_over s state way room true next flag is done = absurd (room (way.stopped 0 flag))
is_over s state way room false None flag is done = is
is_over s state way room false (Some a) flag is done = absurd (false≢true done)

nobody_waits_there : (s : Setup) (state : RunState) (actor : ℕ) (a : Act) → StopsAtCap s state → DoneBelow s state actor → next_act s state.history 0 ≢ None → next_act s state.history actor ≡ Some a → length state.history ≢ s.world.cap → (past : List Entry) → lock_allows s.world past a ≡ false → ⊥
nobody_waits_there s state zero a way below busy next room past locked = false≢true (sym locked ∙ measurer_free s state.history past a next)
nobody_waits_there s state (suc k) a way below busy next room past locked =
    busy (is_over s state way room (tally_of state 0).stopped (next_act s state.history 0) refl refl (below 0 (omega arith)))

-- nothing changed for an actor that is done
rested : (s : Setup) (state new : RunState) (actor : ℕ) → DoneBelow s state actor → is_done s state actor ≡ true → new ≡ state → DoneBelow s new (actor + 1)
rested s state new actor below done same k within = rw same (elim (cases_lt k actor) [
  | inl l ↦ below k l
  | inr r ↦ let here : actor ≡ k = omega (arith, r, within) in subst (λ a. is_done s state a ≡ true) here done
])

-- the actor was stopped
stopped_too : (s : Setup) (state : RunState) (actor : ℕ) → StopsAtCap s state → actor ≤ length s.programs → DoneBelow s state actor → DoneBelow s (with_actor state actor (with_stop (actor_state state actor))) (actor + 1)
stopped_too s state actor way exists below k within = elim (cases_lt k actor) [
  | inl l ↦
      let other : tally_of (with_actor state actor (with_stop (actor_state state actor))) k ≡ tally_of state k =
      unwrap_or-slice_get _ k fresh ∙ get_or-set_other state.tallies actor k (with_stop (actor_state state actor)).tally fresh (λ e. omega (arith, l, e)) ∙ sym (unwrap_or-slice_get state.tallies k fresh) in
      ap (λ t. t.stopped || is_none (next_act s state.history k)) other ∙ below k l
  | inr r ↦
      let here : actor ≡ k = omega (arith, r, within) in
      let own : tally_of (with_actor state actor (with_stop (actor_state state actor))) actor ≡ (with_stop (actor_state state actor)).tally =
      unwrap_or-slice_get _ actor fresh ∙ get_or-set_same state.tallies actor (with_stop (actor_state state actor)).tally fresh (omega (arith, way.tallies, exists)) in
      subst (λ a. is_done s (with_actor state actor (with_stop (actor_state state actor))) a ≡ true) here (ap (λ t. t.stopped || is_none (next_act s state.history actor)) own)
]

again_there : (s : Setup) (state new : RunState) (actor place : ℕ) → StopsAtCap s state → IsTurn s state actor new (Again place) → Goes s state actor new → DoneBelow s state actor → DoneBelow s new (actor + 1)
again_there s state new actor place way tells g below = elim g [
  | rests done same ↦ rested s state new actor below done same
  | acts a room same ↦ absurd (omega (arith, length_push state.history (entry_by actor a), ap (λ x. length x.history) same, ap length tells.0))
  | waits a next room locked same ↦ absurd (nobody_waits_there s state actor a way below tells.3 next room (reverse state.history) locked)
  | stops full same ↦ absurd (omega (arith, full, tells.1, tells.2))
]

full_there : (s : Setup) (state new : RunState) (actor place : ℕ) → StopsAtCap s state → actor ≤ length s.programs → IsTurn s state actor new (Full place) → Goes s state actor new → DoneBelow s state actor → DoneBelow s new (actor + 1)
full_there s state new actor place way exists tells g below = elim g [
  | rests done same ↦ rested s state new actor below done same
  | acts a room same ↦ absurd (room (omega (arith, tells.1, tells.2)))
  | waits a next room locked same ↦ absurd (room (omega (arith, tells.1, tells.2)))
  | stops full same ↦ rw same (stopped_too s state actor way exists below)
]

-- each actor before is done, and the turn was no entry: this one is done too
pub done_more : (s : Setup) (state new : RunState) (actor : ℕ) (answer : Stepped) → StopsAtCap s state → actor ≤ length s.programs → adds_entry answer ≡ false → IsTurn s state actor new answer → Goes s state actor new → DoneBelow s state actor → DoneBelow s new (actor + 1)
done_more s state new actor Over way exists still tells g below = rested s state new actor below tells.0 tells.1
done_more s state new actor (Made place) way exists still tells g below = absurd (false≢true (sym still))
done_more s state new actor (Again place) way exists still tells g below = again_there s state new actor place way tells g below
done_more s state new actor (Full place) way exists still tells g below = full_there s state new actor place way exists tells g below
