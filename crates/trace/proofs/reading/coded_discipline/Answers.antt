use Rattle.trace.proofs.Stands.{code_found}
use Rattle.trace.proofs.reading.coded_discipline.Goals as goal

pub returns : goal.returns
returns c = code_found c.args.code c.from_code.result c.from_code.ensures.found c.from_code.ensures.none
