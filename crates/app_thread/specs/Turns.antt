-- One turn of an application: it makes the access that it asks next, or is told why there is none.
--
-- A port speaks for the actors from low up to below high: old is the list of entries that it had seen before the
-- turn, new what it has seen after it. The application stood there before, and after.
use Rattle.std.specs.Prelude.{◌≡◌, ℕ, List, [], ◌∷◌, ◌++◌, Some}
use Rattle.history.specs.declared.events.Width.{Width}
use Rattle.history.specs.declared.events.Act.{Act}
use Rattle.history.specs.declared.events.Act.TheVariants.{Fetch, Load, Store}
use Rattle.history.specs.declared.events.Entry.{Entry}
use Rattle.history.specs.Layout.{Setting, IsSetting, block_of}
use Rattle.history.specs.Legal.{IsLegal}
use Rattle.rv_core.specs.declared.waits.CoreWant.{CoreWant}
use Rattle.rv_core.specs.declared.waits.CoreWant.TheVariants.{Fetch as WantFetch, Load as WantLoad, Store as WantStore, Ended}
use Rattle.rv_core.specs.Runs.{ProgramState, next_access}
use Rattle.rv_core.specs.Waits.{act_asked, goes_on}
use Rattle.chronicle.specs.Ports.{IsAgain, IsDone, IsFull, entry_by}
use Rattle.app_thread.specs.declared.turns.Turn.{Turn}
use Rattle.app_thread.specs.declared.turns.Turn.TheVariants as turn

-- the number of an access's kind, as a gate is told it
abbrev pub kind_number : Act → ℕ
kind_number (Fetch addr value) = 1
kind_number (Load addr width value) = 2
kind_number (Store addr width value) = 3
kind_number _ = 0

-- what is asked is an access: the application has not ended
abbrev pub IsAccessAsked : CoreWant → Type 0
IsAccessAsked (WantFetch addr) = Unit {0}
IsAccessAsked (WantLoad addr width) = Unit {0}
IsAccessAsked (WantStore addr width value) = Unit {0}
IsAccessAsked (Ended ending) = ⊥

-- The act is the access that was asked, with what it has read. The application goes on from it.
pub record MakesAct (before after : ProgramState) (act : Act) (kind : ℕ) : Type 0 where
  pub read : ℕ
  pub asked : act_asked (next_access before) read ≡ Some act
  pub goes : goes_on before act ≡ Some after
  pub number : kind ≡ kind_number act

-- What is asked is a store, and its block was found locked.
pub record FindsLocked (w : Setting) (low high : ℕ) (old new : List Entry) (at : ProgramState) (place : ℕ) : Type 0 where
  pub addr : ℕ
  pub width : Width
  pub value : ℕ
  pub asked : next_access at ≡ WantStore addr width value
  pub again : IsAgain w low high old new (block_of w.layout addr) place

-- How a turn went. Only what made an entry changes where the application stands.
abbrev pub HasTurned : Setting → ℕ → ℕ → List Entry → List Entry → ProgramState → ProgramState → Turn → Type 0
HasTurned w low high old new before after (turn.Over ending) =
    (next_access before ≡ Ended ending) × (after ≡ before) × (new ≡ old)
HasTurned w low high old new before after (turn.Made kind place) =
    (act : Act) × MakesAct before after act kind × IsDone low high old new act place × IsLegal w new
HasTurned w low high old new before after (turn.Again place) =
    FindsLocked w low high old new before place × (after ≡ before) × IsLegal w new
HasTurned w low high old new before after (turn.Full place) =
    IsAccessAsked (next_access before) × IsFull w low high old new place × (after ≡ before) × IsLegal w new

-- after a turn that asked the port, the list is legal over a sound world
abbrev pub IsLegalAfter : Setting → List Entry → Turn → Type 0
IsLegalAfter w new (turn.Over ending) = Unit {0}
IsLegalAfter w new (turn.Made kind place) = IsSetting w × IsLegal w new
IsLegalAfter w new (turn.Again place) = IsSetting w × IsLegal w new
IsLegalAfter w new (turn.Full place) = IsSetting w × IsLegal w new

-- what a turn says where nobody but the port makes entries: the list has grown by the own entry, or is the old one
abbrev pub TurnsAlone : ℕ → List Entry → List Entry → ProgramState → ProgramState → Turn → Type 0
TurnsAlone low old new before after (turn.Made kind place) =
    (act : Act) × MakesAct before after act kind × (new ≡ old ++ entry_by low act ∷ [])
TurnsAlone low old new before after _ = new ≡ old
