-- By induction on the entries of others.
use Rattle.chronicle.proofs.Others.{keeps_pass, keeps_none}
use Rattle.chronicle.proofs.laws.others_keep_the_pass.Goals as goal

pub returns : goal.returns
returns c = record { pass = keeps_pass; none = keeps_none }
