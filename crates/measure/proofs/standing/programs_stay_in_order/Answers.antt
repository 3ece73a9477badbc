-- By the measurer's own entries, to which the order rule looks alone.
use Rattle.measure.proofs.Programs.{next_in_order, over_closed}
use Rattle.measure.proofs.standing.programs_stay_in_order.Goals as goal

pub returns : goal.returns
returns c = record {
  next = next_in_order c.blocks_in_order.ensures.attested c.blocks_in_order.ensures.indexed c.others_keep_the_order.ensures.own_order c.own_entries.ensures.append c.prefixes_are_legal.ensures;
  over = over_closed c.blocks_in_order.ensures.attested c.blocks_in_order.ensures.indexed c.others_keep_the_order.ensures.own_order c.own_entries.ensures.append c.prefixes_are_legal.ensures;
}
