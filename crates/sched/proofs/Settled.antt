-- Where every actor is done, turns change nothing, and rounds neither.
use Rattle.std.proofs.Common.{◌≡◌, ℕ, zero, suc, ◌+◌, ◌≤◌, Bool, true, false, List, length, Option, Some, None, refl, sym, ap, ◌∙◌, arith}
use Rattle.std.specs.Prelude.{◌||◌, if◌then◌else◌, is_none, slice_set}
use Rattle.std.specs.List.{range_with_len}
use Rattle.std.proofs.lemmas.Bool.{false≢true}
use Rattle.std.proofs.lemmas.List.{set-get_or}
use Rattle.std.proofs.lemmas.Option.{unwrap_or-slice_get}
use Rattle.history.specs.declared.events.Act.{Act}
use Rattle.history.specs.declared.events.Entry.{Entry}
use Rattle.history.specs.Layout.{Setting}
use Rattle.schedule_text.specs.declared.reading.Run.{Run}
use Rattle.device.specs.declared.tallies.Tally.{Tally}
use Rattle.device.specs.Setups.{Setup}
use Rattle.device.specs.Runs.{next_act}
use Rattle.device.specs.Turns.{ActorState, AllDone, RunState, actor_state, actors_in, first_state, fresh, is_done, tally_of, turn, turn_if, turns, with_actor}
use Rattle.sched.specs.Scheduled.{IsScheduled, rounds, turns_said}

abbrev run_state : List Entry → List Tally → RunState
run_state history tallies = record { history = history; tallies = tallies }

-- the state with this actor as it was
pub same_state : (state : RunState) (actor : ℕ) → with_actor state actor (actor_state state actor) ≡ state
same_state state actor =
    ap (λ l. run_state state.history l) (ap (λ t. slice_set state.tallies actor t) (unwrap_or-slice_get state.tallies actor fresh) ∙ set-get_or state.tallies actor fresh)

-- an actor that was stopped, or has nothing to do next
own_turn_done : (w : Setting) (actor : ℕ) (state : ActorState) (stopped : Bool) (next : Option Act) → (stopped || is_none next) ≡ true → (if stopped then state else turn_if w actor next state) ≡ state
own_turn_done w actor state true next done = refl
own_turn_done w actor state false None done = refl
own_turn_done w actor state false (Some act) done = absurd (false≢true done)

pub turn_done : (s : Setup) (state : RunState) (actor : ℕ) → is_done s state actor ≡ true → turn s state actor ≡ state
turn_done s state actor done =
    ap (with_actor state actor) (own_turn_done s.world actor (actor_state state actor) (tally_of state actor).stopped (next_act s state.history actor) done) ∙ same_state state actor

-- ---- of all actors

turns_done : (s : Setup) (state : RunState) (first count : ℕ) → AllDone s state → first + count ≤ 1 + length s.programs → turns s state (range_with_len first count) ≡ state
turns_done s state first zero done fits = refl
turns_done s state first (suc count) done fits =
    ap (λ next. turns s next (range_with_len (first + 1) count)) (turn_done s state first (done first (omega arith)))
    ∙ turns_done s state (first + 1) count done (omega arith)

pub round_done : (s : Setup) (state : RunState) → AllDone s state → turns s state (actors_in s) ≡ state
round_done s state done = turns_done s state 0 (1 + length s.programs) done (omega arith)

pub rounds_done : (s : Setup) (state : RunState) (count : ℕ) → AllDone s state → rounds s count state ≡ state
rounds_done s state zero done = refl
rounds_done s state (suc count) done = ap (rounds s count) (round_done s state done) ∙ rounds_done s state count done

-- rounds that lead to states in which every actor is done lead to the same state
rounds_meet : (s : Setup) (state : RunState) (a b : ℕ) → AllDone s (rounds s a state) → AllDone s (rounds s b state) → rounds s a state ≡ rounds s b state
rounds_meet s state zero b done_a done_b = sym (rounds_done s state b done_a)
rounds_meet s state (suc a) zero done_a done_b = rounds_done s state (suc a) done_b
rounds_meet s state (suc a) (suc b) done_a done_b = rounds_meet s (turns s state (actors_in s)) a b done_a done_b

pub one_state : (s : Setup) (schedule : List Run) (a b : RunState) → IsScheduled s schedule a → IsScheduled s schedule b → a ≡ b
one_state s schedule a b of_a of_b =
    let start : RunState = turns s (first_state s) (turns_said schedule) in
    let done_a : AllDone s (rounds s of_a.count start) = rw (← of_a.whole) of_a.done in
    let done_b : AllDone s (rounds s of_b.count start) = rw (← of_b.whole) of_b.done in
    of_a.whole ∙ rounds_meet s start of_a.count of_b.count done_a done_b ∙ sym of_b.whole
