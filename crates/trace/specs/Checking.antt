-- What a check of a history keeps as it goes over the entries, and what its answers say.
use Rattle.std.specs.Prelude.{◌≡◌, ℕ, not, ◌&&◌, ◌==◌, if◌then◌else◌, List, Option, Some, None}
use Rattle.history.specs.declared.events.Width.{Width}
use Rattle.history.specs.declared.events.Act.{Act}
use Rattle.history.specs.declared.events.Entry.{Entry}
use Rattle.history.specs.Layout.{Setting, fits, is_aligned, block_of}
use Rattle.history.specs.Memory.{memory_after, value_in}
use Rattle.history.specs.Pass.{pass_after}
use Rattle.history.specs.Locks.{is_locked}
use Rattle.history.specs.Legal.{in_range, value_fits, lock_allows, in_order}
use Rattle.history.specs.Broken.{broken}
use Rattle.block_memory.specs.Bytes.{Held, IsMemoryOf}
use Rattle.lock_plan.specs.Plans.{PlanState, plan_after}
use Rattle.trace.specs.declared.checking.CheckFault.{CheckFault}
use Rattle.trace.specs.declared.checking.CheckFault.TheVariants.{Broken, Memory}

-- memory and the plan are those after these entries, the newest first
pub record HasReplayed (w : Setting) (past : List Entry) (held : Held) (state : PlanState) : Type 0 where
  pub memory : IsMemoryOf w past held
  pub plan : state ≡ plan_after w.ranges past

-- the least rule that a read breaks, of those on its range and its value
abbrev pub read_rule : Setting → List Entry → ℕ → Width → ℕ → Option ℕ
read_rule w past addr width value =
    if not (fits w.layout addr width && is_aligned addr width) then Some 2
    else (if not (value == value_in (memory_after w past) addr width) then Some 3 else None)

-- the least rule that a store breaks, of those on its range and its block
abbrev pub store_rule : Setting → List Entry → ℕ → Width → Option ℕ
store_rule w past addr width =
    if not (fits w.layout addr width && is_aligned addr width) then Some 2
    else (if is_locked w past (block_of w.layout addr) then Some 4 else None)

-- the least rule that an act breaks, of those from its range to the order of a measurement
abbrev pub act_rule : Setting → List Entry → Act → Option ℕ
act_rule w past act =
    if not (in_range w act) then Some 2
    else (if not (value_fits w past act) then Some 3
    else (if not (lock_allows w past act) then Some 4
    else (if not (in_order w (pass_after past) act) then Some 5 else None)))

-- the fault tells the first break of a rule; want of memory tells nothing
abbrev pub TellsBreak : Setting → List Entry → CheckFault → Type 0
TellsBreak w history (Broken place rule) = broken w history ≡ Some (record { place = place; rule = rule })
TellsBreak w history Memory = Unit {0}
