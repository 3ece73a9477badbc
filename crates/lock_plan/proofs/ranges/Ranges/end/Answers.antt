use Rattle.std.proofs.Common.{◌≡◌, sym, arith}
use Rattle.history.specs.Attested.{last_end, range_end}
use Rattle.lock_plan.proofs.Apart.{end_is}
use Rattle.lock_plan.proofs.ranges.Ranges.end.Goals as goal

pub overflow_add-result : goal.overflow_add-result
overflow_add-result c =
    let end : last_end c.args.self.now ≡ range_end c.range-last.result = end_is c.args.self.now c.count.result c.range-last.result c.count.ensures.value c.range-last.ensures in
    omega (arith, end, c.count.ensures.ranges.low)

pub returns-clause-value : goal.returns-clause-value
returns-clause-value c = sym (end_is c.args.self.now c.count.result c.range-last.result c.count.ensures.value c.range-last.ensures)
