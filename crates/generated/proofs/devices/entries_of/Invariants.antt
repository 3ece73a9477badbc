-- The addresses so far.
use Rattle.std.proofs.Common.{◌≡◌, map}
use Rattle.std.specs.List.{range_with_len}
use Rattle.generated.specs.Generated.{first_address}
use Rattle.generated.proofs.devices.entries_of.Given as goal

abbrev pub invariant-loop-k : goal.invariant-loop-k
invariant-loop-k l = l.entries.items ≡ map first_address (range_with_len 0 l.k)
