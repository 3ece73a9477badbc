use Rattle.std.proofs.Common.{sym}
use Rattle.trace.proofs.Fronts.{number_found}
use Rattle.trace.proofs.reading.decimal_at.Goals as goal

pub returns : goal.returns
returns c = sym (number_found c.args.end c.in_ok-number.number c.args.text.now c.in_ok-word.word.now c.in_ok-word.rest.now c.in_ok-word.ensures.parts (sym c.in_ok-number.ensures))
