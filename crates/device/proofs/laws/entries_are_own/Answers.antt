-- By the laws of own entries.
use Rattle.device.proofs.Entries.{own_added, other_added}
use Rattle.device.proofs.laws.entries_are_own.Goals as goal

pub returns : goal.returns
returns c = record {
  own = own_added c.own_entries.ensures.append c.own_entries.ensures.all;
  other = other_added c.own_entries.ensures.append c.own_entries.ensures.none;
}
