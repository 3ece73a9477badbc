-- The entries before a place, the newest first, are the first entries turned round.
use Rattle.chronicle.proofs.Places.{legal_back}
use Rattle.chronicle.proofs.laws.prefixes_are_legal.Goals as goal

pub returns : goal.returns
returns c = λ w history place legal. legal_back w history legal place
