-- Discipline by discipline.
use Rattle.chronicle.proofs.Copies.{copied_at}
use Rattle.chronicle.proofs.laws.copied_is_memory.Goals as goal

pub returns : goal.returns
returns c = λ w v. copied_at w v (c.blocks_in_order.ensures.block w.ranges v.ranges.apart)
