use Rattle.std.proofs.Common.{◌≡◌, ℕ, ◌*◌, List, [], ◌∷◌, ◌++◌, length, take, drop, Vec, Global, ap, ◌∙◌, arith}
use Rattle.std.specs.List.{flat_map}
use Rattle.std.proofs.lemmas.Grind.{common_steps}
use Rattle.std.proofs.lemmas.List.Elements.{All-push, All-same}
use Rattle.block_memory.proofs.Buffers.{one_more}
use Rattle.block_memory.proofs.memory.BlockMemory.new.Goals as goal

pub loop-block-preserved : goal.loop-block-preserved
loop-block-preserved c =
    let size = c.size-size.result in
    let block = c.loop-block.block in
    let bytes_of : Vec ℕ Global → List ℕ = λ v. v.items in
    let new = c.in_ok-from_slice.field-0 in
    let items : c.push.new.self.items ≡ c.loop-block.blocks.items ++ (new ∷ []) = c.in_ok-push.ensures.items in
    let piece : new.items ≡ take size (drop (size * block) c.args.image.now) = grind (arith, common_steps, c.in_ok-from_slice.ensures) in
    let whole : length new.items ≡ size = grind (arith, common_steps, c.in_ok-from_slice.ensures) in
    let Whole : Vec ℕ Global → Type 0 = λ v. length v.items ≡ size in
    record {
      count = grind (arith, common_steps, items);
      bytes = ap (λ (vs : List (Vec ℕ Global)). flat_map bytes_of vs) items ∙ one_more bytes_of size block c.loop-block.blocks.items new c.args.image.now c.loop-block.invariant.bytes piece;
      each = All-same Whole c.push.new.self.items (c.loop-block.blocks.items ++ (new ∷ [])) items (All-push Whole c.loop-block.blocks.items new c.loop-block.invariant.each whole);
    }
