use Rattle.listing.proofs.Told.{words_told, singles_told}
use Rattle.listing.proofs.laws.words_and_single_bytes.Goals as goal

pub returns-clause-words : goal.returns-clause-words
returns-clause-words c = words_told

pub returns-clause-bytes : goal.returns-clause-bytes
returns-clause-bytes c = singles_told
