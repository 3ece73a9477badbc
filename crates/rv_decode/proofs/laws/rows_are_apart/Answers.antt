use Rattle.rv_decode.proofs.WordLaws.{row_is}
use Rattle.rv_decode.proofs.laws.rows_are_apart.Goals as goal

pub returns : goal.returns
returns c = row_is
