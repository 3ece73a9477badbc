use Rattle.std.proofs.Common.{◌≡◌, ℕ, ◌*◌, ◌<◌, List, ◌++◌, take, drop, sym, ap, ◌∙◌, arith}
use Rattle.history.specs.Attested.{attested_block, last_end, total}
use Rattle.device_commands.proofs.AttestedBytes.{blocks_to, block_within, next_block}
use Rattle.device_commands.proofs.image.attested_image.Goals as goal

pub piece-requires : goal.piece-requires
piece-requires c =
    let plan = c.args.plan.now in
    let apart = c.requires.plan.ranges.apart in
    let at = attested_block plan.ranges c.loop-index.index in
    let is = c.blocks_in_order.ensures.attested plan.ranges apart c.loop-index.index (rw c.total-total.ensures.value at c.loop-index-test.true) in
    let low : at < last_end plan.ranges = c.blocks_in_order.ensures.inside plan.ranges apart at is in
    let within = block_within plan c.args.image.now at c.requires.whole (omega (arith, low, c.requires.plan.ranges_inside)) in
    rw (c.size-size.ensures.value, c.block.ensures) within

pub loop-index-preserved : goal.loop-index-preserved
loop-index-preserved c =
    let plan = c.args.plan.now in
    let image = c.args.image.now in
    let i = c.loop-index.index in
    let apart = c.requires.plan.ranges.apart in
    let at = attested_block plan.ranges i in
    let below : i < total plan.ranges = rw c.total-total.ensures.value at c.loop-index-test.true in
    let is = c.blocks_in_order.ensures.attested plan.ranges apart i below in
    let low : at < last_end plan.ranges = c.blocks_in_order.ensures.inside plan.ranges apart at is in
    let within = block_within plan image at c.requires.whole (omega (arith, low, c.requires.plan.ranges_inside)) in
    let more = next_block plan image i at (c.blocks_in_order.ensures.next plan.ranges apart i below) within in
    let here : c.piece.result.now ≡ take plan.geometry.size (drop (plan.geometry.size * at) image) = rw (c.size-size.ensures.value, c.block.ensures) at c.piece.ensures in
    c.in_ok-extend_from_slice.ensures.items
    ∙ ap (λ (l : List ℕ). l ++ c.piece.result.now) c.loop-index.invariant
    ∙ ap (λ (p : List ℕ). blocks_to plan image i ++ p) here
    ∙ sym more
