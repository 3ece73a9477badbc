use Rattle.std.proofs.Common.{◌≡◌, ℕ, ◌++◌, List, take}
use Rattle.std.specs.List.{flat_map}
use Rattle.history.specs.Attested.{attested_blocks}
use Rattle.history.specs.Layout.{byte_count}
use Rattle.history.specs.Memory.{Memory, block_bytes, bytes_from}
use Rattle.hmac256.specs.States.{StandsFor}
use Rattle.trace.proofs.confirm.hash_attested.Given as goal

-- the blocks before this index are taken in
abbrev pub invariant-hashing : goal.invariant-hashing
invariant-hashing l = (key text : List ℕ) (m : Memory) → StandsFor l.fn.hmac key text → l.memory ≡ bytes_from m l.world.layout.base (byte_count l.world.layout) → StandsFor l.hmac key (text ++ flat_map (block_bytes l.world m) (take l.index (attested_blocks l.world.ranges)))
