-- What a run on threads leaves. Each actor has run over a port of its own, and what the others made meanwhile changes
-- nothing of it.
use Rattle.std.specs.Prelude.{◌≡◌, ℕ, suc, ◌+◌, ◌≤◌, Bool, true, false, ◌||◌, IsTrue, is_none, List, [], ◌∷◌, length, slice_get, All, Some}
use Rattle.history.specs.declared.events.Entry.{Entry}
use Rattle.history.specs.Layout.{Setting, IsSetting}
use Rattle.history.specs.Legal.{IsLegal}
use Rattle.rv_core.specs.declared.waits.Ending.{Ending}
use Rattle.rv_core.specs.declared.waits.CoreWant.TheVariants.{Ended}
use Rattle.rv_core.specs.Runs.{AppProgram, ProgramState, beginning, next_access}
use Rattle.app_thread.specs.Turns.{IsAccessAsked}
use Rattle.app_thread.specs.WholeRuns.{GoesOn, HasWaited}
use Rattle.turn_cell.specs.Cells.{Cell, Token, token}
use Rattle.device.specs.declared.outcomes.AppEnd.{AppEnd}
use Rattle.device.specs.declared.passes.Passes.{Passes}
use Rattle.device.specs.declared.slots.Slot.{Slot}
use Rattle.device.specs.Setups.{Setup}
use Rattle.device.specs.Turns.{RunState, tally_of}
use Rattle.device.specs.Keeping.{IsDevice, IsMeasuring}

-- an application that stands there was stopped by a full history, with an access more to make; or it has ended
abbrev pub HasComeToEnd : Setting → List Entry → ProgramState → Bool → Type 0
HasComeToEnd w history at true = IsAccessAsked (next_access at) × (length history ≡ w.cap)
HasComeToEnd w history at false = (ending : Ending) × (next_access at ≡ Ended ending)

-- An application was run as this actor, from one list of entries to a longer one. It has gone on by its own entries
-- alone, to its end; and here is what was counted of its waiting.
pub record HasRunAs (w : Setting) (actor : ℕ) (old new : List Entry) (before after : Slot) : Type 0 where
  pub rest : after ≡ record before { app = after.app; tally = after.tally }
  pub layout : after.app.now.core.layout ≡ w.layout
  pub gone : GoesOn actor (actor + 1) old new before.app after.app
  pub end : HasComeToEnd w new after.app after.tally.stopped
  pub waited : HasWaited w actor (actor + 1) old new before.app after.tally.waits after.tally.waited

-- the same of each of these applications, from this actor on
abbrev pub HaveRunAs : Setting → ℕ → List Entry → List Entry → List Slot → List Slot → Type 0
HaveRunAs w actor old new [] [] = Unit {0}
HaveRunAs w actor old new (before ∷ befores) (after ∷ afters) = HasRunAs w actor old new before after × HaveRunAs w (suc actor) old new befores afters
HaveRunAs w actor old new _ _ = ⊥

-- A pass to this memory may run these applications: they are those of its actors, in order.
pub record MayRunRange (memory : Cell) (pass : Token) (slots : List Slot) : Type 0 where
  pub cell : pass.cell ≡ memory
  pub above : 1 ≤ pass.low
  pub below : pass.high ≤ 9
  pub some : 1 ≤ length slots
  pub range : pass.low + length slots ≡ pass.high
  pub layouts : All (λ slot. slot.app.now.core.layout ≡ memory.world.layout) slots
  pub legal : IsLegal memory.world pass.seen

-- They were run, and the pass has seen more.
pub record HasRunRange (memory : Cell) (before after : Token) (slots afters : List Slot) : Type 0 where
  pub pass : after ≡ record before { seen = after.seen }
  pub legal : IsLegal memory.world after.seen
  pub run : HaveRunAs memory.world before.low before.seen after.seen slots afters

-- A pass to this memory may serve these measurements with this key: it is the measurer's.
pub record MayServe (memory : Cell) (pass : Token) (key : List ℕ) (passes : Passes) : Type 0 where
  pub cell : pass.cell ≡ memory
  pub first : pass.low ≡ 0
  pub one : pass.high ≡ 1
  pub legal : IsLegal memory.world pass.seen
  pub stands : IsMeasuring key memory.world pass.seen passes

-- They were served until all were over or the history was full, and the pass has seen more.
pub record HasServed (memory : Cell) (before after : Token) (key : List ℕ) (passes afters : Passes) : Type 0 where
  pub pass : after ≡ record before { seen = after.seen }
  pub setting : IsSetting memory.world
  pub legal : IsLegal memory.world after.seen
  pub challenges : afters.challenges ≡ passes.challenges
  pub stands : IsMeasuring key memory.world after.seen afters
  pub done : IsTrue (afters.tally.stopped || is_none afters.under_way)

-- A pass to this memory may run all actors: the measurer and these applications.
pub record MayRunAll (memory : Cell) (pass : Token) (key : List ℕ) (slots : List Slot) (passes : Passes) : Type 0 where
  pub cell : pass.cell ≡ memory
  pub first : pass.low ≡ 0
  pub range : pass.high ≡ 1 + length slots
  pub some : 1 ≤ length slots
  pub few : length slots ≤ 8
  pub layouts : All (λ slot. slot.app.now.core.layout ≡ memory.world.layout) slots
  pub legal : IsLegal memory.world pass.seen
  pub stands : IsMeasuring key memory.world pass.seen passes

-- All were run, and the pass has seen all that they did.
pub record HasRunAll (memory : Cell) (before after : Token) (key : List ℕ) (slots slot_afters : List Slot) (passes afters : Passes) : Type 0 where
  pub measurer : HasServed memory before after key passes afters
  pub applications : HaveRunAs memory.world 1 before.seen after.seen slots slot_afters

-- ---- the whole

-- What a device keeps that may run on threads: no turn was made, and the pass is that of all actors.
pub record IsShared (memory : Cell) (pass : Token) (key : List ℕ) (slots : List Slot) (passes : Passes) : Type 0 where
  pub whole : pass ≡ token memory [] 0 memory.actors
  pub actors : memory.actors ≡ 1 + length slots
  pub device : IsDevice memory.world key [] slots passes

-- Each application's tally has counted of its waiting what is so in this history: nothing exactly where no store waited,
-- and else a place at which one did.
abbrev pub AreWaitsOf : Setup → RunState → Type 0
AreWaitsOf s state = (k : ℕ) (program : AppProgram) → slice_get s.programs k ≡ Some program
    → HasWaited s.world (suc k) (suc k + 1) [] state.history (beginning program) (tally_of state (suc k)).waits (tally_of state (suc k)).waited

-- the same of what the applications have come to
abbrev pub AreWaitsIn : Setup → List Entry → List AppEnd → Type 0
AreWaitsIn s history ends = (k : ℕ) (program : AppProgram) (end : AppEnd) → slice_get s.programs k ≡ Some program → slice_get ends k ≡ Some end
    → HasWaited s.world (suc k) (suc k + 1) [] history (beginning program) end.run.waits end.run.waited
