-- The whole run of an application over a port: turn after turn, until it has ended or the history is full.
--
-- A port speaks for the actors from low up to below high: old is the list of entries that it had seen before the run,
-- new what it has seen after it. The application stood there before, and after.
use Rattle.std.specs.Prelude.{◌≡◌, ℕ, ◌<◌, ◌≤◌, ◌↔◌, IsTrue, IfSome, List, ◌++◌, length, take, Option, None}
use Rattle.history.specs.declared.events.Width.{Width}
use Rattle.history.specs.declared.events.Entry.{Entry}
use Rattle.history.specs.Layout.{Setting, block_of}
use Rattle.history.specs.Memory.{back, own}
use Rattle.history.specs.Locks.{is_locked}
use Rattle.rv_core.specs.declared.waits.CoreWant.TheVariants.{Store as WantStore, Ended}
use Rattle.rv_core.specs.Runs.{AppProgram, ProgramState, IsBegunRun, next_access}
use Rattle.app_thread.specs.Turns.{IsAccessAsked}
use Rattle.app_thread.specs.declared.ends.RunEnd.{RunEnd}
use Rattle.app_thread.specs.declared.ends.RunEnd.TheVariants as end

-- From the old list to the new one the application has gone on by the range's entries among the new ones, and by no
-- others: they continue whatever run stood there before.
pub record GoesOn (low high : ℕ) (old new : List Entry) (before after : ProgramState) : Type 0 where
  pub rest : List Entry
  pub whole : new ≡ old ++ rest
  pub begun : (start : AppProgram) (entries : List Entry) → IsBegunRun start entries before → IsBegunRun start (entries ++ own rest low high) after

-- how the run ended: the application has ended so, or it still asks an access, and the history is full
abbrev pub EndsRun : Setting → List Entry → ProgramState → RunEnd → Type 0
EndsRun w new after (end.Ended ending) = next_access after ≡ Ended ending
EndsRun w new after (end.Full place) = IsAccessAsked (next_access after) × (place ≡ w.cap) × (place ≡ length new)

-- A whole run, and how it ended.
pub record HasRun (w : Setting) (low high : ℕ) (old new : List Entry) (before after : ProgramState) (ending : RunEnd) : Type 0 where
  pub gone : GoesOn low high old new before after
  pub ended : EndsRun w new after ending

-- In the run, after so many entries, the application stood where it asked a store whose block was locked, in a history
-- that wasn't full.
pub record WaitsAt (w : Setting) (low high : ℕ) (old new : List Entry) (before : ProgramState) (place : ℕ) : Type 0 where
  pub at : ProgramState
  pub addr : ℕ
  pub width : Width
  pub value : ℕ
  pub within : place ≤ length new
  pub below : place < w.cap
  pub gone : GoesOn low high old (take place new) before at
  pub asked : next_access at ≡ WantStore addr width value
  pub locked : IsTrue (is_locked w (back new place) (block_of w.layout addr))

-- What was counted of the run's waiting: nothing exactly where no store waited, and else a place at which one did.
pub record HasWaited (w : Setting) (low high : ℕ) (old new : List Entry) (before : ProgramState) (waits : ℕ) (waited : Option ℕ) : Type 0 where
  pub none : (waits ≡ 0) ↔ (waited ≡ None)
  pub last : IfSome waited (λ place. WaitsAt w low high old new before place)
