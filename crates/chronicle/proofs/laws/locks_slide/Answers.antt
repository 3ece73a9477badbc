-- Each place of a legal history has legal entries before it.
use Rattle.history.specs.Memory.{back}
use Rattle.chronicle.proofs.Slide.{slides}
use Rattle.chronicle.proofs.Places.{legal_back}
use Rattle.chronicle.proofs.laws.locks_slide.Goals as goal

pub returns : goal.returns
returns c = λ w v history legal place pass is. slides w v (c.blocks_in_order.ensures.block w.ranges v.ranges.apart) (back history place) (legal_back w history legal place) pass is
