-- The run of a device under a schedule.
use Rattle.std.specs.Prelude.{◌≡◌, ℕ, zero, suc, List, flat_map, replicate}
use Rattle.schedule_text.specs.declared.reading.Run.{Run}
use Rattle.device.specs.declared.outcomes.Outcome.{Outcome}
use Rattle.device.specs.Setups.{Setup}
use Rattle.device.specs.Runs.{IsRunOf, entries_of}
use Rattle.device.specs.Turns.{RunState, first_state, turns, actors_in, AllDone}
use Rattle.device.specs.Outcomes.{AreAppEnds, ArePassEnds, HaveWaited, acts_of}

-- whose turns a schedule says, one after the other
abbrev pub turns_said : List Run → List ℕ
turns_said schedule = flat_map (λ run. replicate run.turns run.actor) schedule

-- so many rounds, in each of which every actor has one turn: the measurer, and then each application
abbrev pub rounds : Setup → ℕ → RunState → RunState
rounds s zero state = state
rounds s (suc count) state = rounds s count (turns s state (actors_in s))

-- The run makes the turns that the schedule says, and then as many rounds as it takes until every actor is done. More
-- rounds would change nothing.
pub record IsScheduled (s : Setup) (schedule : List Run) (state : RunState) : Type 0 where
  pub count : ℕ
  pub whole : state ≡ rounds s count (turns s (first_state s) (turns_said schedule))
  pub done : AllDone s state

-- What the device has come to under the schedule: the history of that run, which is one of a whole run, and for each
-- application and each challenge what this history makes of it. The applications have waited as their turns say.
pub record IsScheduledOutcome (s : Setup) (schedule : List Run) (outcome : Outcome) : Type 0 where
  pub state : RunState
  pub scheduled : IsScheduled s schedule state
  pub run : IsRunOf s state.history
  pub world : outcome.chronicle.world ≡ s.world
  pub entries : outcome.chronicle.entries ≡ state.history
  pub apps : AreAppEnds s.programs state.history outcome.apps
  pub waits : HaveWaited state.tallies outcome.apps
  pub passes : ArePassEnds s state.history (acts_of (entries_of state.history 0)) s.challenges outcome.passes
