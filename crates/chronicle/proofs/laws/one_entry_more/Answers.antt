-- One entry more, the newest first.
use Rattle.chronicle.proofs.Places.{legal_more, legal_less}
use Rattle.chronicle.proofs.laws.one_entry_more.Goals as goal

pub returns : goal.returns
returns c = record { more = legal_more; less = legal_less }
