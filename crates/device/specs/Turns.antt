-- A run under a stated order: whose turn it is decides which entry comes next.
use Rattle.std.specs.Prelude.{◌≡◌, ◌≢◌, ℕ, ◌+◌, ◌<◌, ◌≤◌, Bool, true, false, ◌||◌, ◌==◌, if◌then◌else◌, List, [], ◌∷◌, ◌++◌, length, reverse, replicate, slice_get, slice_set, Option, Some, None, unwrap_or, is_none}
use Rattle.std.specs.List.{range_with_len}
use Rattle.att_base.specs.Faults.{one_more}
use Rattle.history.specs.declared.events.Act.{Act}
use Rattle.history.specs.declared.events.Entry.{Entry}
use Rattle.history.specs.Layout.{Setting}
use Rattle.history.specs.Legal.{lock_allows}
use Rattle.chronicle.specs.Ports.{entry_by}
use Rattle.device.specs.declared.tallies.Tally.{Tally}
use Rattle.device.specs.declared.tallies.Stepped.{Stepped}
use Rattle.device.specs.declared.tallies.Stepped.TheVariants.{Over, Made, Again, Full}
use Rattle.device.specs.Setups.{Setup}
use Rattle.device.specs.Runs.{next_act}

-- ---- one actor

-- the history so far, and what one actor's turns have come to
pub record ActorState : Type 0 where
  pub history : List Entry
  pub tally : Tally

abbrev pub actor_at : List Entry → Tally → ActorState
actor_at history tally = record { history = history; tally = tally }

-- the actor was stopped by a full history
abbrev pub with_stop : ActorState → ActorState
with_stop state = record state { tally = record (state.tally) { stopped = true } }

-- the actor has waited here once more
abbrev pub with_wait : ActorState → ActorState
with_wait state = record state { tally = record (state.tally) { waits = one_more state.tally.waits; waited = Some (length state.history) } }

-- the actor has made its entry
abbrev pub with_entry : ℕ → Act → ActorState → ActorState
with_entry actor act state = record state { history = state.history ++ entry_by actor act ∷ [] }

-- what a turn comes to where the actor has this to do: at the cap it is stopped; a store into a locked block waits; else
-- here is its entry
abbrev pub turn_to : Setting → ℕ → Act → ActorState → ActorState
turn_to w actor act state =
    if length state.history == w.cap then with_stop state
    else (if lock_allows w (reverse state.history) act then with_entry actor act state else with_wait state)

abbrev pub turn_if : Setting → ℕ → Option Act → ActorState → ActorState
turn_if w actor None state = state
turn_if w actor (Some act) state = turn_to w actor act state

-- a turn of an actor that has this to do next: nothing changes where it is stopped, or has nothing to do
abbrev pub own_turn : Setting → ℕ → Option Act → ActorState → ActorState
own_turn w actor next state = if state.tally.stopped then state else turn_if w actor next state

-- what such a turn is answered, with the place of the entry or the length of the history
abbrev pub answer_to : Setting → Act → ActorState → Stepped
answer_to w act state =
    if length state.history == w.cap then Full (length state.history)
    else (if lock_allows w (reverse state.history) act then Made (length state.history + 1) else Again (length state.history))

abbrev pub answer_if : Setting → Option Act → ActorState → Stepped
answer_if w None state = Over
answer_if w (Some act) state = answer_to w act state

abbrev pub own_answer : Setting → Option Act → ActorState → Stepped
own_answer w next state = if state.tally.stopped then Over else answer_if w next state

-- ---- all of them

-- the history so far, and what each actor's turns have come to: the measurer's, and then each application's
pub record RunState : Type 0 where
  pub history : List Entry
  pub tallies : List Tally

-- an actor without a turn
abbrev pub fresh : Tally
fresh = record { stopped = false; waits = 0; waited = None }

-- no turn was made
abbrev pub first_state : Setup → RunState
first_state s = record { history = []; tallies = replicate (1 + length s.programs) fresh }

abbrev pub tally_of : RunState → ℕ → Tally
tally_of state actor = unwrap_or (slice_get state.tallies actor) fresh

-- one actor of them
abbrev pub actor_state : RunState → ℕ → ActorState
actor_state state actor = actor_at state.history (tally_of state actor)

-- the same state with this actor as it is now
abbrev pub with_actor : RunState → ℕ → ActorState → RunState
with_actor state actor now = record { history = now.history; tallies = slice_set state.tallies actor now.tally }

-- one turn of an actor
abbrev pub turn : Setup → RunState → ℕ → RunState
turn s state actor = with_actor state actor (own_turn s.world actor (next_act s state.history actor) (actor_state state actor))

-- what a turn of an actor is answered
abbrev pub answer_of : Setup → RunState → ℕ → Stepped
answer_of s state actor = own_answer s.world (next_act s state.history actor) (actor_state state actor)

-- the turns of these actors, one after the other
abbrev pub turns : Setup → RunState → List ℕ → RunState
turns s state [] = state
turns s state (actor ∷ actors) = turns s (turn s state actor) actors

-- the actor was stopped, or its program is over: its turns change nothing
abbrev pub is_done : Setup → RunState → ℕ → Bool
is_done s state actor = (tally_of state actor).stopped || is_none (next_act s state.history actor)

-- every actor is done
abbrev pub AllDone : Setup → RunState → Type 0
AllDone s state = (actor : ℕ) → actor ≤ length s.programs → is_done s state actor ≡ true

-- the actors of a round: the measurer and then each application
abbrev pub actors_in : Setup → List ℕ
actors_in s = range_with_len 0 (1 + length s.programs)

-- What each answer says of the turn. Again comes only where the measurer isn't over and the history has room.
abbrev pub IsTurn : Setup → RunState → ℕ → RunState → Stepped → Type 0
IsTurn s old actor new Over = (is_done s old actor ≡ true) × (new ≡ old)
IsTurn s old actor new (Made place) = (length new.history ≡ length old.history + 1) × (place ≡ length new.history)
IsTurn s old actor new (Again place) =
    (new.history ≡ old.history) × (place ≡ length old.history) × (place < s.world.cap) × (next_act s old.history 0 ≢ None)
IsTurn s old actor new (Full place) = (new.history ≡ old.history) × (place ≡ length old.history) × (place ≡ s.world.cap)

-- a device as contracts see it: what it began with, and what its turns have come to
pub record DeviceState : Type 0 where
  pub setup : Setup
  pub state : RunState
