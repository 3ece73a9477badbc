use Rattle.std.proofs.Common.{◌≡◌, ℕ, ◌*◌, List, Vec, Global, take, drop, sym, ap, ◌∙◌, arith}
use Rattle.history.specs.Layout.{Layout}
use Rattle.block_memory.specs.Bytes.{Held}
use Rattle.block_memory.proofs.Buffers.{joined_piece}
use Rattle.block_memory.proofs.BytesFrom.{block_is_piece, block_is_block}
use Rattle.block_memory.proofs.Places.{whole_view}
use Rattle.block_memory.proofs.memory.BlockMemory.copy_block.Goals as goal

pub returns-clause-bytes : goal.returns-clause-bytes
returns-clause-bytes c =
    let l = c.self.inside.geometry in
    let held = c.args.self.now in
    let same : l ≡ held.layout = ap (λ (h : Held). h.layout) c.self.view_is in
    let bytes_of : Vec ℕ Global → List ℕ = λ v. v.items in
    let blocks : l.blocks ≡ held.layout.blocks = ap (λ (k : Layout). k.blocks) same in
    let below = c.requires.block in
    let count = c.self.invariant.2 in
    let piece = joined_piece bytes_of l.size c.self.inside.blocks.items c.args.block c.index.result.now c.self.invariant.3 (omega arith) in
    c.copy_from_slice.ensures.after
    ∙ c.deref.ensures.value
    ∙ ap bytes_of c.index.ensures
    ∙ sym piece
    ∙ ap (λ (h : Held). take h.layout.size (drop (h.layout.size * c.args.block) h.bytes)) c.self.view_is
    ∙ sym (block_is_piece held c.args.block (whole_view held l c.self.inside.blocks.items c.self.view_is c.self.invariant.3 c.self.invariant.2) c.requires.block)

pub returns-clause-history : goal.returns-clause-history
returns-clause-history c = λ w past is_memory. returns-clause-bytes c ∙ block_is_block w past c.args.self.now is_memory c.args.block c.requires.block
