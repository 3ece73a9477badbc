use Rattle.std.proofs.Common.{◌+◌, sym, ap, ◌∙◌, arith}
use Rattle.history.specs.declared.ranges.Range.{Range}
use Rattle.lock_plan.proofs.Indexes.{sum_more, sum_low}
use Rattle.lock_plan.proofs.ranges.Ranges.total.Goals as goal

pub overflow_add-total : goal.overflow_add-total
overflow_add-total c =
    let low = sum_low (λ (r : Range). r.attested) c.args.self.now c.loop-k.k c.range-total.result c.range-total.ensures in
    let all = c.blocks_in_order.ensures.total_by_ranges c.args.self.now in
    let few = c.blocks_in_order.ensures.few c.args.self.now c.count-k-end.ensures.ranges.apart in
    let end = c.count-k-end.ensures.ranges.low in
    let so_far = c.loop-k.invariant in
    omega arith

pub loop-k-preserved : goal.loop-k-preserved
loop-k-preserved c = ap (λ n. n + c.range-total.result.attested) c.loop-k.invariant ∙ sym (sum_more (λ (r : Range). r.attested) c.args.self.now c.loop-k.k c.range-total.result c.range-total.ensures)
