use Rattle.rv_core.proofs.RunLaws.{grows}
use Rattle.rv_core.proofs.laws.runs_grow_by_one.Goals as goal

pub returns : goal.returns
returns c = grows
