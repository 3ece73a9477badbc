-- The blocks so far.
use Rattle.std.proofs.Common.{◌≡◌, ◌*◌, length}
use Rattle.std.specs.Prelude.{flat_map}
use Rattle.std.specs.List.{range_with_len}
use Rattle.generated.specs.Generated.{application_block}
use Rattle.generated.proofs.memories.append_blocks.Given as goal

abbrev pub invariant-loop-k : goal.invariant-loop-k
invariant-loop-k l = record {
  items : l.image.items ≡ flat_map (application_block l.fn.draws.seed) (range_with_len 0 l.k);
  length : length l.image.items ≡ 256 * l.k;
  seed : l.draws.seed ≡ l.fn.draws.seed;
  count : l.draws.count ≡ 2 * l.k;
}
