use Rattle.att_base.proofs.FileLemmas.{name_has, others_stay}
use Rattle.att_base.proofs.by_name.names_are_apart.Goals as goal

pub returns-clause-here : goal.returns-clause-here
returns-clause-here c = name_has

pub returns-clause-others : goal.returns-clause-others
returns-clause-others c = others_stay
