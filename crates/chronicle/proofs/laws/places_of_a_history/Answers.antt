-- The lemmas on places.
use Rattle.std.proofs.Common.{refl}
use Rattle.chronicle.proofs.Places.{length_back, back_more, back_all, back-append}
use Rattle.chronicle.proofs.laws.places_of_a_history.Goals as goal

pub returns : goal.returns
returns c = record { none = λ _. refl; count = length_back; next = back_more; all = back_all; longer = back-append }
