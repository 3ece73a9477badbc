use Rattle.std.proofs.Common.{◌≡◌, ◌+◌, sym, ap, ◌∙◌, arith}
use Rattle.history.specs.declared.ranges.Range.{Range}
use Rattle.history.specs.Attested.{attested_block}
use Rattle.lock_plan.proofs.Indexes.{sum_more, block_at}
use Rattle.lock_plan.proofs.ranges.Ranges.block.Goals as goal

pub overflow_add-result : goal.overflow_add-result
overflow_add-result c =
    let laws = c.blocks_in_order.ensures in
    let apart = c.count-k-end.ensures.ranges.apart in
    let below = laws.inside c.args.self.now apart (attested_block c.args.self.now c.args.index) (laws.attested c.args.self.now apart c.args.index c.requires) in
    let low = c.count-k-end.ensures.ranges.low in
    let same : c.range-range.result.first + c.loop-k.rest ≡ attested_block c.args.self.now c.args.index = sym (block_at c.args.self.now c.loop-k.k c.loop-k.rest c.range-range.result c.range-range.ensures c.if-rest-range.true) ∙ ap (λ i. attested_block c.args.self.now i) c.loop-k.invariant in
    omega (arith, below, same)

pub returns-then-rest-range : goal.returns-then-rest-range
returns-then-rest-range c = sym (block_at c.args.self.now c.loop-k.k c.loop-k.rest c.range-range.result c.range-range.ensures c.if-rest-range.true) ∙ ap (λ i. attested_block c.args.self.now i) c.loop-k.invariant

pub loop-k-preserved : goal.loop-k-preserved
loop-k-preserved c =
    let more = sum_more (λ (r : Range). r.attested) c.args.self.now c.loop-k.k c.range-range.result c.range-range.ensures in
    let before = c.loop-k.invariant in
    let past = c.if-rest-range.false in
    omega arith
