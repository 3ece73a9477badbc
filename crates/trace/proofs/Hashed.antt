-- The attested blocks of a memory, taken into a digest one after the other.
use Rattle.std.proofs.Common.{◌≡◌, ℕ, ◌+◌, ◌*◌, ◌<◌, ◌≤◌, List, [], ◌∷◌, ◌++◌, drop, take, sym, ap, ◌∙◌, arith}
use Rattle.std.specs.List.{flat_map}
use Rattle.std.proofs.lemmas.List.{flat_map_more, take_all}
use Rattle.std.proofs.Math.Nat.{mul-le-mul_left}
use Rattle.history.specs.Attested.{attested_blocks, total}
use Rattle.history.specs.Layout.{Setting, byte_count}
use Rattle.history.specs.Memory.{Memory, attested_bytes, block_bytes, bytes_from}
use Rattle.trace.proofs.Windows.{piece}

-- a block is a piece of memory
pub block_piece : (w : Setting) (m : Memory) (memory : List ℕ) (block : ℕ) → memory ≡ bytes_from m w.layout.base (byte_count w.layout) → block < w.layout.blocks → take w.layout.size (drop (w.layout.size * block) memory) ≡ block_bytes w m block
block_piece w m memory block is below =
    let inside : w.layout.size * (block + 1) ≤ w.layout.size * w.layout.blocks = mul-le-mul_left w.layout.size (omega arith) in
    ap (λ (bytes : List ℕ). take w.layout.size (drop (w.layout.size * block) bytes)) is ∙ piece m w.layout.base (byte_count w.layout) (w.layout.size * block) w.layout.size (omega (arith, inside))

-- one block more
pub hashed_more : (w : Setting) (m : Memory) (text bytes : List ℕ) (index block : ℕ) → take (index + 1) (attested_blocks w.ranges) ≡ take index (attested_blocks w.ranges) ++ block ∷ [] → bytes ≡ block_bytes w m block
    → (text ++ flat_map (block_bytes w m) (take index (attested_blocks w.ranges))) ++ bytes ≡ text ++ flat_map (block_bytes w m) (take (index + 1) (attested_blocks w.ranges))
hashed_more w m text bytes index block next is =
    ap (λ (more : List ℕ). (text ++ flat_map (block_bytes w m) (take index (attested_blocks w.ranges))) ++ more) is
    ∙ flat_map_more (block_bytes w m) text (take index (attested_blocks w.ranges)) block
    ∙ ap (λ (blocks : List ℕ). text ++ flat_map (block_bytes w m) blocks) (sym next)

-- all of them
pub hashed_all : (w : Setting) (m : Memory) (text : List ℕ) (index : ℕ) → total w.ranges ≤ index → text ++ flat_map (block_bytes w m) (take index (attested_blocks w.ranges)) ≡ text ++ attested_bytes w m
hashed_all w m text index all = ap (λ (blocks : List ℕ). text ++ flat_map (block_bytes w m) blocks) (take_all index (attested_blocks w.ranges) all)
