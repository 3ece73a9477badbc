-- By cases on the pass and on the act.
use Rattle.chronicle.proofs.Orders.{order_is_next}
use Rattle.chronicle.proofs.laws.order_by_plan.Goals as goal

pub returns : goal.returns
returns c = λ w v. order_is_next w (c.blocks_in_order.ensures.block w.ranges v.ranges.apart) (λ index below. (c.blocks_in_order.ensures.attested w.ranges v.ranges.apart index below, c.blocks_in_order.ensures.indexed w.ranges v.ranges.apart index below))
