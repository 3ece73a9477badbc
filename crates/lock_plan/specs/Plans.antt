-- What a plan keeps of the pass that the last Start opened: enough for its locks and for its next step.
use Rattle.std.specs.Prelude.{ℕ, suc, Bool, true, false, not, ◌&&◌, nat_lt, if◌then◌else◌, List, Option, Some, None}
use Rattle.std.specs.Option.{option_map}
use Rattle.history.specs.declared.events.Discipline.{Discipline}
use Rattle.history.specs.declared.events.Entry.{Entry}
use Rattle.history.specs.declared.ranges.Range.{Range}
use Rattle.history.specs.Attested.{is_attested, index_of, attested_block, total}
use Rattle.history.specs.Pass.{Pass, pass_after, copied_of, is_ended, is_released, is_extended}
use Rattle.history.specs.Locks.{locks}
use Rattle.lock_plan.specs.declared.steps.PlanStep.{PlanStep}
use Rattle.lock_plan.specs.declared.steps.PlanStep.TheVariants.{Start, Copy, End, Release}

-- A pass in short: its discipline, how many blocks it has copied, and whether its End and its Release have come.
pub record PassState : Type 0 where
  pub discipline : Discipline
  pub copied : ℕ
  pub ended : Bool
  pub released : Bool

-- A plan: the ranges of the attested blocks, and the pass; None before the first Start.
pub record PlanState : Type 0 where
  pub ranges : List Range
  pub pass : Option PassState

-- the pass in short
abbrev pub state_of : Pass → PassState
state_of pass = record { discipline = pass.discipline; copied = copied_of pass; ended = is_ended pass; released = is_released pass }

-- the plan after these entries, the newest first
abbrev pub plan_after : List Range → List Entry → PlanState
plan_after ranges past = record { ranges = ranges; pass = option_map state_of (pass_after past) }

-- a pass after so many copies, with or without End, with or without Release
abbrev pub pass_with : ℕ → Bool → Bool → Discipline → PassState
pass_with copied ended released discipline = record { discipline = discipline; copied = copied; ended = ended; released = released }

-- the plan once a pass has begun
abbrev pub after_start : Discipline → PlanState → PlanState
after_start discipline plan = record plan { pass = Some (pass_with 0 false false discipline) }

-- the pass with one block more, with its End, with its Release
abbrev pub with_copy : PassState → PassState
with_copy pass = record pass { copied = suc pass.copied }

abbrev pub with_end : PassState → PassState
with_end pass = record pass { ended = true }

abbrev pub with_release : PassState → PassState
with_release pass = record pass { released = true }

-- the plan once the pass has changed so
abbrev pub pass_changed : (PassState → PassState) → PlanState → PlanState
pass_changed change plan = record plan { pass = option_map change plan.pass }

-- the pass locks the attested block with this index; before the first Start nothing is locked
abbrev pub state_locks : Option PassState → ℕ → Bool
state_locks None index = false
state_locks (Some pass) index = locks pass.discipline pass.copied pass.ended pass.released index

-- the plan locks the block
abbrev pub plan_locks : PlanState → ℕ → Bool
plan_locks plan block = is_attested plan.ranges block && state_locks plan.pass (index_of plan.ranges block)

-- What comes next in a pass: the attested blocks by rising address, then End, then Release where the
-- discipline is extended; then a new pass.
abbrev pub step_in : List Range → PassState → PlanStep
step_in ranges pass = if pass.ended then (if is_extended pass.discipline && not pass.released then Release else Start) else (if nat_lt pass.copied (total ranges) then Copy (attested_block ranges pass.copied) else End)

-- the same; before the first Start, a Start
abbrev pub step_after : List Range → Option PassState → PlanStep
step_after ranges None = Start
step_after ranges (Some pass) = step_in ranges pass

-- the step that comes next
abbrev pub next_step : PlanState → PlanStep
next_step plan = step_after plan.ranges plan.pass

-- the step copies a block
abbrev pub is_copy_step : PlanStep → Bool
is_copy_step (Copy block) = true
is_copy_step _ = false
