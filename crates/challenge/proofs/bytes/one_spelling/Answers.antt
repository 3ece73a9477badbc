use Rattle.challenge.proofs.Spelling.{one_challenge, reading}
use Rattle.challenge.proofs.bytes.one_spelling.Goals as goal

pub returns-clause-value : goal.returns-clause-value
returns-clause-value c = one_challenge

pub returns-clause-read : goal.returns-clause-read
returns-clause-read c = reading
