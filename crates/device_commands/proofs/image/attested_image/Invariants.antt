use Rattle.std.proofs.Common.{◌≡◌}
use Rattle.device_commands.proofs.AttestedBytes.{blocks_to}
use Rattle.device_commands.proofs.image.attested_image.Given as goal

-- the bytes of so many attested blocks are there
abbrev pub invariant-loop-index : goal.invariant-loop-index
invariant-loop-index l = l.bytes.items ≡ blocks_to l.plan l.image l.index
