-- How far a history has been checked.
use Rattle.std.proofs.Common.{◌≡◌, ℕ, ◌+◌, ◌-◌, ◌<◌, List, ◌∷◌, length, Some, arith}
use Rattle.std.specs.Prelude.{slice_get}
use Rattle.history.specs.declared.events.Entry.{Entry}
use Rattle.history.specs.Layout.{Setting, IsSetting}
use Rattle.history.specs.Memory.{back}
use Rattle.history.specs.Legal.{IsLegalBack, MayFollow}
use Rattle.history.specs.Broken.{broken_rule}
use Rattle.block_memory.specs.Bytes.{Held, IsMemoryOf}
use Rattle.lock_plan.specs.Plans.{PlanState, plan_after}
use Rattle.chronicle.specs.Laws.{IsFirstBreak}
use Rattle.trace.specs.Checking.{HasReplayed}

-- the first entries are legal, and memory and the plan are those after them
pub record HasChecked (w : Setting) (history : List Entry) (place : ℕ) (held : Held) (state : PlanState) : Type 0 where
  pub setting : IsSetting w
  pub legal : IsLegalBack w (back history place)
  pub replayed : HasReplayed w (back history place) held state

-- a rule that breaks at the next entry breaks there first
pub break_here : (w : Setting) (history : List Entry) (place : ℕ) (entry : Entry) (rule : ℕ) → slice_get history place ≡ Some entry → place < length history → IsLegalBack w (back history place) → broken_rule w (back history place) entry ≡ Some rule → IsFirstBreak w history (record { place = place + 1; rule = rule })
break_here w history place entry rule here inside legal breaks =
    let same : place + 1 - 1 ≡ place = omega arith in
    record { from = omega arith; within = omega arith; before = rw same legal; entry = entry; here = rw same here; rule = rw same breaks }

-- one entry more that breaks none
pub checked_more : (w : Setting) (history : List Entry) (place : ℕ) (entry : Entry) (held new : Held) (state later : PlanState) → HasChecked w history place held state → back history (place + 1) ≡ entry ∷ back history place → MayFollow w (back history place) entry
    → IsMemoryOf w (entry ∷ back history place) new → later ≡ plan_after w.ranges (entry ∷ back history place) → HasChecked w history (place + 1) new later
checked_more w history place entry held new state later checked next may memory plan =
    record { setting = checked.setting; legal = rw next (checked.legal, may); replayed = rw next (record { memory = memory; plan = plan }) }
