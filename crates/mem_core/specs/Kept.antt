-- What a core keeps beside its history: memory and the plan of the pass, as they are after it.
use Rattle.std.specs.Prelude.{◌≡◌, ◌≤◌, List, length, reverse}
use Rattle.history.specs.declared.events.Entry.{Entry}
use Rattle.history.specs.Layout.{Setting, IsSetting}
use Rattle.history.specs.Legal.{IsLegal}
use Rattle.block_memory.specs.Bytes.{Held, IsMemoryOf}
use Rattle.lock_plan.specs.Plans.{PlanState}
use Rattle.chronicle.specs.Laws.{lock_plan_of}

pub record IsKept (w : Setting) (history : List Entry) (held : Held) (state : PlanState) : Type 0 where
  pub setting : IsSetting w
  pub legal : IsLegal w history
  pub few : length history ≤ w.cap
  pub memory : IsMemoryOf w (reverse history) held
  pub plan : state ≡ lock_plan_of w history
