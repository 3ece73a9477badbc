use Rattle.rv_core.proofs.RunLaws.{front_read}
use Rattle.rv_core.proofs.laws.fronts_are_begun.Goals as goal

pub returns : goal.returns
returns c start front back last h = let begun = front_read start front back last h.read in (begun.0, record { read = begun.1 })
