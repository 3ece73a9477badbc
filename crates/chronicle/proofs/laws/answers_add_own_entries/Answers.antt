-- The filter by actors, over the parts of the new list.
use Rattle.chronicle.proofs.Added.{own_followed, own_added, followed_none, followed_join, added_join}
use Rattle.chronicle.proofs.laws.answers_add_own_entries.Goals as goal

pub returns : goal.returns
returns c = record { others = own_followed; added = own_added; none = followed_none; others_join = followed_join; added_join = added_join }
