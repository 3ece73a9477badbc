use Rattle.std.proofs.Common.{◌≡◌, ◌*◌, take, length, All}
use Rattle.std.specs.List.{flat_map}
use Rattle.block_memory.proofs.memory.BlockMemory.new.Given as goal

-- the blocks so far have the bytes so far
abbrev pub invariant-loop-block : goal.invariant-loop-block
invariant-loop-block l = record {
  count : length l.blocks.items ≡ l.block;
  bytes : flat_map (λ block. block.items) l.blocks.items ≡ take (l.size * l.block) l.image;
  each : All (λ block. length block.items ≡ l.size) l.blocks.items;
}
