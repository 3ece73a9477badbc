use Rattle.rv_decode.proofs.WordLaws.{one_instruction}
use Rattle.rv_decode.proofs.laws.words_are_apart.Goals as goal

pub returns : goal.returns
returns c = one_instruction
