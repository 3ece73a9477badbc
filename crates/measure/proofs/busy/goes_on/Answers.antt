-- By the laws on others' entries.
use Rattle.measure.proofs.BusyPort.{in_order_after, stepped_after}
use Rattle.measure.proofs.busy.goes_on.Goals as goal

pub returns : goal.returns
returns c = record {
  order = in_order_after c.others_keep_the_order.ensures.order c.own_entries.ensures.none;
  answer = stepped_after c.answers_add_own_entries.ensures.others_join c.answers_add_own_entries.ensures.added_join;
}
