-- What is read stands there, and what stands there is read.
use Rattle.trace.proofs.Stands.{first_found, first_none}
use Rattle.trace.proofs.reading.first_entry.Goals as goal

pub returns-clause-found : goal.returns-clause-found
returns-clause-found c = first_found c.entry_at.result c.args.text.now c.entry_at.ensures

pub returns-clause-none : goal.returns-clause-none
returns-clause-none c = first_none c.entry_at.result c.args.text.now c.entry_at.ensures
