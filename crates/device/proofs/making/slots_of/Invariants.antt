use Rattle.std.proofs.Common.{◌≡◌, length, map, take, All}
use Rattle.device.specs.Setups.{programs_at}
use Rattle.device.specs.Keeping.{IsFreshSlot, program_of_slot}
use Rattle.device.proofs.making.slots_of.Given as goal

-- the applications so far
abbrev pub invariant-loop-k : goal.invariant-loop-k
invariant-loop-k l = record {
  programs : map (program_of_slot l.geometry) l.slots.items ≡ take l.k (programs_at l.geometry l.apps l.entries);
  fresh : All (IsFreshSlot l.geometry) l.slots.items;
}
