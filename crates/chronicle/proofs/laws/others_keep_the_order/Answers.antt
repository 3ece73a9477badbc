-- The plan is that of the measurer's own entries.
use Rattle.chronicle.proofs.Orders.{order_others, order_is_own, plan_is_own}
use Rattle.chronicle.proofs.laws.others_keep_the_order.Goals as goal

pub returns : goal.returns
returns c = record { order = order_others; own_order = order_is_own; own_plan = plan_is_own }
