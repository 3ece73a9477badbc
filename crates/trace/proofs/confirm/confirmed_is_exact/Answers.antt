use Rattle.trace.proofs.Confirms.{bytes_yes, confirmed_on_pass, on_pass_confirmed}
use Rattle.trace.proofs.confirm.confirmed_is_exact.Goals as goal

pub returns : goal.returns
returns c = record {
  yes = bytes_yes;
  instants = λ key w history r. on_pass_confirmed key w history r c.copied_is_memory.ensures;
  told = confirmed_on_pass;
}
