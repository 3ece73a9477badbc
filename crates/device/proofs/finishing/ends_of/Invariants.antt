use Rattle.std.proofs.Common.{◌≡◌, ◌≤◌, ◌++◌, length, map}
use Rattle.std.specs.Prelude.{vec_capacity}
use Rattle.device.specs.Keeping.{end_of_slot}
use Rattle.device.proofs.finishing.ends_of.Given as goal

-- the applications so far, and those that are left
abbrev pub invariant-loop-slot : goal.invariant-loop-slot
invariant-loop-slot l = record {
  whole : l.fn.slots.items ≡ l.yielded ++ l.slot-iterator.rest.items;
  ends : l.apps.items ≡ map (end_of_slot l.place) l.yielded;
  room : length l.fn.slots.items ≤ vec_capacity l.apps;
}
