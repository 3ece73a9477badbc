use Rattle.challenge.proofs.Codes.{code_found}
use Rattle.challenge.proofs.numbers.discipline_with.Goals as goal

pub returns : goal.returns
returns c = code_found c.from_code.result c.args.code c.from_code.ensures.found c.from_code.ensures.none
