use Rattle.std.proofs.Common.{ℕ, ap, ◌∙◌, List, arith}
use Rattle.lock_plan.specs.Tables.{has_bit}
use Rattle.lock_plan.proofs.WordBits.{no_bit}
use Rattle.lock_plan.proofs.plans.Plan.new.Goals as goal

pub invariant_of-result : goal.invariant_of-result
invariant_of-result c = (c.total.ensures.ranges, c.total.ensures.value, c.total.ensures.few, omega arith, λ same. same, λ index below. ap (λ (words : List ℕ). has_bit words index) c.filled.ensures ∙ no_bit index (omega (arith, c.total.ensures.few)))
