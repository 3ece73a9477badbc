-- By induction on the pieces.
use Rattle.trace.proofs.Pieces.{parts_joined}
use Rattle.trace.proofs.laws.parts_are_the_text.Goals as goal

pub returns : goal.returns
returns c = parts_joined
