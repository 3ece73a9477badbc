use Rattle.trace.proofs.Again.{entry_again}
use Rattle.trace.proofs.Stands.{entry_takes}
use Rattle.trace.proofs.laws.entries_are_read_again.Goals as goal

pub returns : goal.returns
returns c = record {
  stands = λ text rest entry read. let e = entry_takes text (entry, rest) read in (e.printable, e.spelled);
  again = entry_again;
}
