-- Entries of others leave the plan, and the own entry is a step of it.
use Rattle.chronicle.proofs.Orders.{plan_followed, plan_added}
use Rattle.chronicle.proofs.laws.answers_move_the_plan.Goals as goal

pub returns : goal.returns
returns c = record { others = plan_followed; added = plan_added }
