-- What a turn and its answer say, case by case.
use Rattle.std.proofs.Common.{◌≡◌, ℕ, zero, suc, ◌+◌, ◌<◌, ◌≤◌, Bool, true, false, List, [], ◌∷◌, ◌++◌, length, map, reverse, take, Option, Some, None, refl, sym, ap, ◌∙◌, arith}
use Rattle.std.specs.Prelude.{◌≢◌, IsTrue, not, ◌&&◌, ◌||◌, ◌==◌, if◌then◌else◌, is_none, slice_get, slice_set, unwrap_or}
use Rattle.std.proofs.lemmas.Bool.{and_right, eqb-true, eqb-false, false≢true}
use Rattle.std.proofs.lemmas.List.{length_push, length-reverse, set-get_or, take_all}
use Rattle.std.proofs.lemmas.Option.{unwrap_or-slice_get}
use Rattle.history.specs.declared.events.Discipline.{Discipline}
use Rattle.history.specs.declared.events.Discipline.TheVariants as form
use Rattle.history.specs.declared.events.Act.{Act}
use Rattle.history.specs.declared.events.Act.TheVariants as act
use Rattle.history.specs.declared.events.Entry.{Entry}
use Rattle.history.specs.Attested.{is_attested, index_of}
use Rattle.history.specs.Layout.{Setting, IsSetting, block_of}
use Rattle.history.specs.Memory.{own}
use Rattle.history.specs.Pass.{Pass, pass_after, copied_of, is_ended, is_extended, is_released}
use Rattle.history.specs.Locks.{is_locked, locks, locks_now}
use Rattle.history.specs.Legal.{IsLegal, IsLegalBack, in_order, lock_allows}
use Rattle.challenge.specs.declared.Challenge.{Challenge}
use Rattle.chronicle.specs.Worlds.{shape_of}
use Rattle.chronicle.specs.Ports.{entry_by}
use Rattle.measure.specs.Program.{HasMade, MayStart, measuring_programs}
use Rattle.device.specs.declared.tallies.Tally.{Tally}
use Rattle.device.specs.declared.tallies.Stepped.TheVariants.{Over, Made, Again, Full}
use Rattle.device.specs.Setups.{Setup}
use Rattle.device.specs.Runs.{IsRunSoFar, measurer_acts, next_act}
use Rattle.device.specs.Turns.{ActorState, IsTurn, RunState, actor_state, answer_if, answer_of, answer_to, fresh, is_done, tally_of, turn, turn_if, turn_to, with_actor, with_entry, with_stop, with_wait}

-- ---- no pass locks nothing

unlocked_form : (discipline : Discipline) (copied : ℕ) (ended released : Bool) (index : ℕ) → not (not ended || (is_extended discipline && not released)) ≡ true → locks discipline copied ended released index ≡ false
unlocked_form form.All copied true released index closed = refl
unlocked_form form.All copied false released index closed = absurd (false≢true closed)
unlocked_form form.AllExt copied true true index closed = refl
unlocked_form form.AllExt copied true false index closed = absurd (false≢true closed)
unlocked_form form.AllExt copied false released index closed = absurd (false≢true closed)
unlocked_form form.Dec copied true released index closed = refl
unlocked_form form.Dec copied false released index closed = absurd (false≢true closed)
unlocked_form form.Inc copied true released index closed = refl
unlocked_form form.Inc copied false released index closed = absurd (false≢true closed)
unlocked_form form.IncExt copied true true index closed = refl
unlocked_form form.IncExt copied true false index closed = absurd (false≢true closed)
unlocked_form form.IncExt copied false released index closed = absurd (false≢true closed)

unlocked_pass : (w : Setting) (pass : Option Pass) (index : ℕ) → ((discipline : Discipline) (counter : ℕ) → IsTrue (in_order w pass (act.Start discipline counter))) → locks_now pass index ≡ false
unlocked_pass w None index may = refl
unlocked_pass w (Some pass) index may = unlocked_form pass.discipline (copied_of pass) (is_ended pass) (is_released pass) index (may pass.discipline pass.counter)

unlocked_block : (w : Setting) (history : List Entry) (block : ℕ) → MayStart w history → is_locked w (reverse history) block ≡ false
unlocked_block w history block may =
    and_right (is_attested w.ranges block) _ (unlocked_pass w (pass_after (reverse history)) (index_of w.ranges block) may)

pub allowed_without_pass : (w : Setting) (history : List Entry) (a : Act) → MayStart w history → lock_allows w (reverse history) a ≡ true
allowed_without_pass w history (act.Store addr width value) may = ap not (unlocked_block w history (block_of w.layout addr) may)
allowed_without_pass w history (act.Fetch addr value) may = refl
allowed_without_pass w history (act.Load addr width value) may = refl
allowed_without_pass w history (act.Start discipline counter) may = refl
allowed_without_pass w history (act.Copy block) may = refl
allowed_without_pass w history act.End may = refl
allowed_without_pass w history act.Tick may = refl
allowed_without_pass w history act.Release may = refl

-- ---- the measurer is over

past_from_none : {A : Type 0} (xs : List A) (n : ℕ) → slice_get xs n ≡ None → length xs ≤ n
past_from_none [] n none = omega arith
past_from_none (x ∷ xs) zero none = absurd cc
past_from_none (x ∷ xs) (suc n) none = let rest = past_from_none xs n none in omega (arith, rest)

abbrev pub ProgramsOver : Type 0
ProgramsOver = (w : Setting) (challenges : List Challenge) (old new : List Entry) → IsSetting w → IsLegal w new → MayStart w old → HasMade old new (measuring_programs challenges (shape_of w)) → MayStart w new

abbrev pub Unlocked : Type 0
Unlocked = (w : Setting) (history : List Entry) (a : Act) → MayStart w history → lock_allows w (reverse history) a ≡ true

pub nobody_waits : ProgramsOver → Unlocked → (s : Setup) (history : List Entry) (a : Act) → IsSetting s.world → IsRunSoFar s history → next_act s history 0 ≡ None → lock_allows s.world (reverse history) a ≡ true
nobody_waits over unlocked s history a setting run none =
    let all : take (length (own history 0 1)) (measurer_acts s) ≡ measurer_acts s = take_all (length (own history 0 1)) (measurer_acts s) (past_from_none (measurer_acts s) (length (own history 0 1)) none) in
    let made : HasMade [] history (measurer_acts s) = record { rest = history; whole = refl; own = run.measurer ∙ ap (λ l. map (entry_by 0) l) all } in
    unlocked s.world history a (over s.world s.challenges [] history setting run.legal (λ discipline counter. refl) made)

-- ---- a turn and its answer

within_cap : (w : Setting) (past : List Entry) → IsLegalBack w past → length past ≤ w.cap
within_cap w [] legal = omega arith
within_cap w (entry ∷ past) legal = omega (arith, legal.1.cap)

legal_within : (w : Setting) (history : List Entry) → IsLegal w history → length history ≤ w.cap
legal_within w history legal = omega (arith, length-reverse history, within_cap w (reverse history) legal)

abbrev run_state : List Entry → List Tally → RunState
run_state history tallies = record { history = history; tallies = tallies }

-- the state with this actor as it was
same_state : (state : RunState) (actor : ℕ) → with_actor state actor (actor_state state actor) ≡ state
same_state state actor =
    ap (λ l. run_state state.history l) (ap (λ t. slice_set state.tallies actor t) (unwrap_or-slice_get state.tallies actor fresh) ∙ set-get_or state.tallies actor fresh)

abbrev pub NobodyWaits : Type 0
NobodyWaits = (s : Setup) (history : List Entry) (a : Act) → IsSetting s.world → IsRunSoFar s history → next_act s history 0 ≡ None → lock_allows s.world (reverse history) a ≡ true

told_lock : NobodyWaits → (s : Setup) (state : RunState) (actor : ℕ) (a : Act) → IsSetting s.world → IsRunSoFar s state.history → length state.history < s.world.cap
    → (b : Bool) → lock_allows s.world (reverse state.history) a ≡ b
    → IsTurn s state actor (with_actor state actor (if b then with_entry actor a (actor_state state actor) else with_wait (actor_state state actor))) (if b then Made (length state.history + 1) else Again (length state.history))
told_lock free s state actor a setting run room true is = (length_push state.history (entry_by actor a), sym (length_push state.history (entry_by actor a)))
told_lock free s state actor a setting run room false is = (refl, refl, room, λ none. false≢true (sym is ∙ free s state.history a setting run none))

told_cap : NobodyWaits → (s : Setup) (state : RunState) (actor : ℕ) (a : Act) → IsSetting s.world → IsRunSoFar s state.history
    → (b : Bool) → (length state.history == s.world.cap) ≡ b
    → IsTurn s state actor (with_actor state actor (if b then with_stop (actor_state state actor) else (if lock_allows s.world (reverse state.history) a then with_entry actor a (actor_state state actor) else with_wait (actor_state state actor))))
    (if b then Full (length state.history) else (if lock_allows s.world (reverse state.history) a then Made (length state.history + 1) else Again (length state.history)))
told_cap free s state actor a setting run true is = (refl, refl, eqb-true _ _ is)
told_cap free s state actor a setting run false is =
    told_lock free s state actor a setting run (omega (arith, legal_within s.world state.history run.legal, eqb-false _ _ is)) (lock_allows s.world (reverse state.history) a) refl

told_next : NobodyWaits → (s : Setup) (state : RunState) (actor : ℕ) → IsSetting s.world → IsRunSoFar s state.history → (tally_of state actor).stopped ≡ false
    → (next : Option Act) → next_act s state.history actor ≡ next
    → IsTurn s state actor (with_actor state actor (turn_if s.world actor next (actor_state state actor))) (answer_if s.world next (actor_state state actor))
told_next free s state actor setting run going None is = (ap (λ x. (tally_of state actor).stopped || is_none x) is ∙ ap (λ b. b || true) going, same_state state actor)
told_next free s state actor setting run going (Some a) is = told_cap free s state actor a setting run (length state.history == s.world.cap) refl

told_stop : NobodyWaits → (s : Setup) (state : RunState) (actor : ℕ) → IsSetting s.world → IsRunSoFar s state.history
    → (b : Bool) → (tally_of state actor).stopped ≡ b
    → IsTurn s state actor (with_actor state actor (if b then actor_state state actor else turn_if s.world actor (next_act s state.history actor) (actor_state state actor)))
    (if b then Over else answer_if s.world (next_act s state.history actor) (actor_state state actor))
told_stop free s state actor setting run true is = (ap (λ b. b || is_none (next_act s state.history actor)) is, same_state state actor)
told_stop free s state actor setting run false is = told_next free s state actor setting run is (next_act s state.history actor) refl

pub answer_tells : NobodyWaits → (s : Setup) (state : RunState) (actor : ℕ) → IsSetting s.world → IsRunSoFar s state.history → IsTurn s state actor (turn s state actor) (answer_of s state actor)
answer_tells free s state actor setting run = told_stop free s state actor setting run (tally_of state actor).stopped refl
