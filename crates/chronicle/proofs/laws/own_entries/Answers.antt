-- The lemmas on a filter by actors.
use Rattle.chronicle.proofs.Own.{own-append, own_none, own_all, own_within}
use Rattle.chronicle.proofs.laws.own_entries.Goals as goal

pub returns : goal.returns
returns c = record { append = own-append; none = own_none; all = own_all; part = own_within }
