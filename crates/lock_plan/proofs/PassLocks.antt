-- What the steps of a pass do to its locks.
use Rattle.std.proofs.Common.{◌≡◌, ℕ, Bool, true, false, ◌&&◌, nat_lt, if◌then◌else◌, List, Option, Some, None, refl, ap, arith}
use Rattle.std.proofs.lemmas.Bool.Decides.{nat_tests}
use Rattle.std.specs.Option.{option_map}
use Rattle.history.specs.declared.events.Discipline.{Discipline}
use Rattle.history.specs.declared.events.Discipline.TheVariants.{All, AllExt, Dec, Inc, IncExt}
use Rattle.history.specs.declared.events.Entry.{Entry}
use Rattle.history.specs.declared.ranges.Range.{Range}
use Rattle.history.specs.Attested.{is_attested, index_of, attested_block, total}
use Rattle.history.specs.Layout.{Setting}
use Rattle.history.specs.Locks.{locks, locks_now, is_locked}
use Rattle.history.specs.Pass.{Pass, pass_after}
use Rattle.history.specs.Sliding.{locks_at_start}
use Rattle.lock_plan.specs.declared.steps.PlanStep.TheVariants.{Copy, End, Release}
use Rattle.lock_plan.specs.Plans.{pass_with, state_of, state_locks, plan_after, plan_locks, step_after}

pub locks_begin : (discipline : Discipline) (k : ℕ) → locks discipline 0 false false k ≡ locks_at_start discipline
locks_begin All k = refl
locks_begin AllExt k = refl
locks_begin Dec k = grind (arith, nat_tests)
locks_begin Inc k = grind (arith, nat_tests)
locks_begin IncExt k = grind (arith, nat_tests)

-- nothing is locked once End and Release have come
pub locks_released : (discipline : Option Discipline) (copied k : ℕ) → state_locks (option_map (pass_with copied true true) discipline) k ≡ false
locks_released None copied k = refl
locks_released (Some All) copied k = refl
locks_released (Some AllExt) copied k = refl
locks_released (Some Dec) copied k = refl
locks_released (Some Inc) copied k = refl
locks_released (Some IncExt) copied k = refl

no_release : (more : Bool) (block : ℕ) → (if more then Copy block else End) ≡ Release → ⊥
no_release true block is = cc
no_release false block is = cc

-- a Release comes after an End
pub release_after_end : (ranges : List Range) (discipline : Option Discipline) (copied : ℕ) (ended released : Bool) → step_after ranges (option_map (pass_with copied ended released) discipline) ≡ Release → ended ≡ true
release_after_end ranges None copied ended released is = cc
release_after_end ranges (Some discipline) copied true released is = refl
release_after_end ranges (Some discipline) copied false released is = absurd (no_release (nat_lt copied (total ranges)) (attested_block ranges copied) is)

-- the plan after these entries locks what the history does
locks_same : (pass : Option Pass) (index : ℕ) → state_locks (option_map state_of pass) index ≡ locks_now pass index
locks_same None index = refl
locks_same (Some pass) index = refl

pub plan_is_history : (w : Setting) (past : List Entry) (block : ℕ) → plan_locks (plan_after w.ranges past) block ≡ is_locked w past block
plan_is_history w past block = ap (λ (locked : Bool). is_attested w.ranges block && locked) (locks_same (pass_after past) (index_of w.ranges block))
