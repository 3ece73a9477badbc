-- By cases on what the turn comes to.
use Rattle.device.proofs.Told.{answer_tells}
use Rattle.device.proofs.laws.answers_tell.Goals as goal

pub returns : goal.returns
returns c = answer_tells c.nobody_waits_at_last.ensures
