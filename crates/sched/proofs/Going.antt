-- What a turn comes to, case by case, and what it keeps.
use Rattle.std.proofs.Common.{◌≡◌, ℕ, zero, suc, ◌+◌, ◌<◌, ◌≤◌, Bool, true, false, List, [], ◌∷◌, length, reverse, Option, Some, None, refl, sym, ap, ◌∙◌, length-set, arith}
use Rattle.std.specs.Prelude.{◌≢◌, ◌||◌, ◌==◌, if◌then◌else◌, is_none, slice_get, slice_set, unwrap_or, replicate}
use Rattle.std.proofs.lemmas.Bool.{eqb-true, eqb-false, false≢true}
use Rattle.std.proofs.lemmas.List.{length-replicate, length_push}
use Rattle.history.specs.declared.events.Act.{Act}
use Rattle.history.specs.Legal.{lock_allows}
use Rattle.chronicle.specs.Ports.{entry_by}
use Rattle.device.specs.declared.tallies.Tally.{Tally}
use Rattle.device.specs.declared.tallies.Stepped.{Stepped}
use Rattle.device.specs.declared.tallies.Stepped.TheVariants.{Over, Made, Again, Full}
use Rattle.device.specs.Setups.{Setup}
use Rattle.device.specs.Runs.{next_act}
use Rattle.device.specs.Turns.{IsTurn, RunState, actor_state, first_state, fresh, is_done, tally_of, turn, turn_if, with_actor, with_entry, with_stop, with_wait}
use Rattle.sched.specs.Rounds.{StopsAtCap, adds_entry, entries_left}
use Rattle.sched.proofs.Settled.{same_state}

-- a turn is one of these
pub data Goes (s : Setup) (state : RunState) (actor : ℕ) (new : RunState) : Type 0 where
  rests : is_done s state actor ≡ true → new ≡ state → Goes s state actor new
  acts : (act : Act) → length state.history ≢ s.world.cap → new ≡ with_actor state actor (with_entry actor act (actor_state state actor)) → Goes s state actor new
  waits : (act : Act) → next_act s state.history actor ≡ Some act → length state.history ≢ s.world.cap → lock_allows s.world (reverse state.history) act ≡ false
      → new ≡ with_actor state actor (with_wait (actor_state state actor)) → Goes s state actor new
  stops : length state.history ≡ s.world.cap → new ≡ with_actor state actor (with_stop (actor_state state actor)) → Goes s state actor new

goes_at_lock : (s : Setup) (state : RunState) (actor : ℕ) (a : Act) → next_act s state.history actor ≡ Some a → length state.history ≢ s.world.cap
    → (b : Bool) → lock_allows s.world (reverse state.history) a ≡ b
    → Goes s state actor (with_actor state actor (if b then with_entry actor a (actor_state state actor) else with_wait (actor_state state actor)))
goes_at_lock s state actor a next room true is = acts a room refl
goes_at_lock s state actor a next room false is = waits a next room is refl

goes_at_cap : (s : Setup) (state : RunState) (actor : ℕ) (a : Act) → next_act s state.history actor ≡ Some a
    → (b : Bool) → (length state.history == s.world.cap) ≡ b
    → Goes s state actor (with_actor state actor (if b then with_stop (actor_state state actor) else (if lock_allows s.world (reverse state.history) a then with_entry actor a (actor_state state actor) else with_wait (actor_state state actor))))
goes_at_cap s state actor a next true is = stops (eqb-true _ _ is) refl
goes_at_cap s state actor a next false is = goes_at_lock s state actor a next (eqb-false _ _ is) (lock_allows s.world (reverse state.history) a) refl

goes_next : (s : Setup) (state : RunState) (actor : ℕ) → (tally_of state actor).stopped ≡ false → (next : Option Act) → next_act s state.history actor ≡ next
    → Goes s state actor (with_actor state actor (turn_if s.world actor next (actor_state state actor)))
goes_next s state actor run None is = rests (ap (λ x. (tally_of state actor).stopped || is_none x) is ∙ ap (λ b. b || true) run) (same_state state actor)
goes_next s state actor run (Some a) is = goes_at_cap s state actor a is (length state.history == s.world.cap) refl

goes_if : (s : Setup) (state : RunState) (actor : ℕ) → (b : Bool) → (tally_of state actor).stopped ≡ b
    → Goes s state actor (with_actor state actor (if b then actor_state state actor else turn_if s.world actor (next_act s state.history actor) (actor_state state actor)))
goes_if s state actor true is = rests (ap (λ b. b || is_none (next_act s state.history actor)) is) (same_state state actor)
goes_if s state actor false is = goes_next s state actor is (next_act s state.history actor) refl

pub goes : (s : Setup) (state : RunState) (actor : ℕ) → Goes s state actor (turn s state actor)
goes s state actor = goes_if s state actor (tally_of state actor).stopped refl

-- ---- what turns keep

-- another tally of an actor that was stopped exactly where it was
flags_set : (xs : List Tally) (i k : ℕ) (t : Tally) → t.stopped ≡ (unwrap_or (slice_get xs i) fresh).stopped → (unwrap_or (slice_get (slice_set xs i t) k) fresh).stopped ≡ (unwrap_or (slice_get xs k) fresh).stopped
flags_set [] i k t same = refl
flags_set (x ∷ xs) zero zero t same = same
flags_set (x ∷ xs) zero (suc k) t same = refl
flags_set (x ∷ xs) (suc i) zero t same = refl
flags_set (x ∷ xs) (suc i) (suc k) t same = flags_set xs i k t same

fresh_runs : (n k : ℕ) → (unwrap_or (slice_get (replicate n fresh) k) fresh).stopped ≡ false
fresh_runs zero k = refl
fresh_runs (suc n) zero = refl
fresh_runs (suc n) (suc k) = fresh_runs n k

pub first_stops : (s : Setup) → StopsAtCap s (first_state s)
first_stops s = record {
  within = omega arith;
  stopped = λ actor stop. absurd (false≢true (sym (fresh_runs (1 + length s.programs) actor) ∙ stop));
  tallies = length-replicate (1 + length s.programs) fresh;
}

keeps_cap : (s : Setup) (state new : RunState) (actor : ℕ) → StopsAtCap s state → Goes s state actor new → StopsAtCap s new
keeps_cap s state new actor way g = elim g [
  | rests done same ↦ rw same way
  | acts act room same ↦ rw same (record {
    within = omega (arith, way.within, room, length_push state.history (entry_by actor act));
    stopped = λ k stop. absurd (room (way.stopped k (sym (flags_set state.tallies actor k (tally_of state actor) refl) ∙ stop)));
    tallies = length-set state.tallies actor (tally_of state actor) ∙ way.tallies;
  })
  | waits act next room locked same ↦ rw same (record {
    within = way.within;
    stopped = λ k stop. way.stopped k (sym (flags_set state.tallies actor k (with_wait (actor_state state actor)).tally refl) ∙ stop);
    tallies = length-set state.tallies actor (with_wait (actor_state state actor)).tally ∙ way.tallies;
  })
  | stops full same ↦ rw same (record {
    within = way.within;
    stopped = λ k stop. full;
    tallies = length-set state.tallies actor (with_stop (actor_state state actor)).tally ∙ way.tallies;
  })
]

pub turn_stops : (s : Setup) (state : RunState) (actor : ℕ) → StopsAtCap s state → StopsAtCap s (turn s state actor)
turn_stops s state actor way = keeps_cap s state (turn s state actor) actor way (goes s state actor)

-- ---- what turns leave

-- no turn makes room, and an entry takes some
pub no_more : (s : Setup) (state new : RunState) (actor : ℕ) (answer : Stepped) → IsTurn s state actor new answer → entries_left s new ≤ entries_left s state
no_more s state new actor Over tells = rw tells.1 (omega arith)
no_more s state new actor (Made place) tells = omega (arith, tells.0)
no_more s state new actor (Again place) tells = rw tells.0 (omega arith)
no_more s state new actor (Full place) tells = rw tells.0 (omega arith)

pub less_by_entry : (s : Setup) (state new : RunState) (actor : ℕ) (answer : Stepped) → StopsAtCap s new → adds_entry answer ≡ true → IsTurn s state actor new answer → entries_left s new < entries_left s state
less_by_entry s state new actor Over way adds tells = absurd (false≢true adds)
less_by_entry s state new actor (Made place) way adds tells = omega (arith, tells.0, way.within)
less_by_entry s state new actor (Again place) way adds tells = absurd (false≢true adds)
less_by_entry s state new actor (Full place) way adds tells = absurd (false≢true adds)
