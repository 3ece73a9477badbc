-- The attested bytes of an image, block by block.
use Rattle.std.proofs.Common.{◌≡◌, ℕ, ◌+◌, ◌*◌, ◌<◌, ◌≤◌, List, [], ◌∷◌, ◌++◌, length, take, drop, flat_map, ap, ◌∙◌, arith}
use Rattle.std.proofs.lemmas.List.{append-nil, take_all}
use Rattle.std.proofs.lemmas.List.Concat.{flat_map-append}
use Rattle.std.proofs.Math.Nat.{mul-le-mul_left}
use Rattle.history.specs.Attested.{attested_blocks, total}
use Rattle.history.specs.Layout.{byte_count}
use Rattle.history.specs.Memory.{memory_after, block_bytes}
use Rattle.block_memory.proofs.BytesFrom.{bytes_from_list}
use Rattle.device_config.specs.declared.plans.DevicePlan.{DevicePlan}
use Rattle.device_inputs.specs.Setups.{device_setting}
use Rattle.device_commands.specs.Plans.{attested_image}

-- the bytes of so many attested blocks
abbrev pub blocks_to : DevicePlan → List ℕ → ℕ → List ℕ
blocks_to plan image count = flat_map (block_bytes (device_setting plan image) (memory_after (device_setting plan image) [])) (take count (attested_blocks plan.ranges))

-- a block of memory is one piece of the image
pub block_piece : (plan : DevicePlan) (image : List ℕ) (block : ℕ) → plan.geometry.size * block + plan.geometry.size ≤ length image
    → block_bytes (device_setting plan image) (memory_after (device_setting plan image) []) block ≡ take plan.geometry.size (drop (plan.geometry.size * block) image)
block_piece plan image block within = bytes_from_list image plan.geometry.base (plan.geometry.size * block) plan.geometry.size within

-- a block below the end of memory ends in the image
pub block_within : (plan : DevicePlan) (image : List ℕ) (block : ℕ) → length image ≡ byte_count plan.geometry → block < plan.geometry.blocks → plan.geometry.size * block + plan.geometry.size ≤ length image
block_within plan image block whole below =
    let inside : plan.geometry.size * (block + 1) ≤ plan.geometry.size * plan.geometry.blocks = mul-le-mul_left plan.geometry.size (omega arith) in
    omega (arith, inside, whole)

-- one block more
pub next_block : (plan : DevicePlan) (image : List ℕ) (count block : ℕ) → take (count + 1) (attested_blocks plan.ranges) ≡ take count (attested_blocks plan.ranges) ++ block ∷ [] → plan.geometry.size * block + plan.geometry.size ≤ length image
    → blocks_to plan image (count + 1) ≡ blocks_to plan image count ++ take plan.geometry.size (drop (plan.geometry.size * block) image)
next_block plan image count block next within =
    let f : ℕ → List ℕ = block_bytes (device_setting plan image) (memory_after (device_setting plan image) []) in
    let parts : flat_map f (take count (attested_blocks plan.ranges) ++ block ∷ []) ≡ flat_map f (take count (attested_blocks plan.ranges)) ++ flat_map f (block ∷ []) = flat_map-append f (take count (attested_blocks plan.ranges)) (block ∷ []) in
    let one : flat_map f (block ∷ []) ≡ take plan.geometry.size (drop (plan.geometry.size * block) image) = append-nil (f block) ∙ block_piece plan image block within in
    ap (flat_map f) next ∙ parts ∙ ap (λ (piece : List ℕ). flat_map f (take count (attested_blocks plan.ranges)) ++ piece) one

pub all_blocks : (plan : DevicePlan) (image : List ℕ) (count : ℕ) → count ≡ total plan.ranges → blocks_to plan image count ≡ attested_image plan image
unfolding attested_image
all_blocks plan image count all =
    let f : ℕ → List ℕ = block_bytes (device_setting plan image) (memory_after (device_setting plan image) []) in
    ap (flat_map f) (take_all count (attested_blocks plan.ranges) (omega (arith, all)))
