use Rattle.std.proofs.Common.{ℕ, ◌&&◌, ◌<◌, Bool, sym, ap, ◌∙◌, arith}
use Rattle.std.specs.Option.{option_map}
use Rattle.history.specs.Attested.{index_of}
use Rattle.lock_plan.specs.Plans.{PlanState, plan_locks, pass_with, state_locks}
use Rattle.lock_plan.proofs.PassLocks.{plan_is_history}
use Rattle.lock_plan.proofs.plans.Plan.is_locked.Goals as goal

pub bit-requires : goal.bit-requires
bit-requires c =
    let below = c.in-Some.ensures.below in
    let size = c.self.invariant.1 in
    let few = c.self.invariant.2 in
    omega (arith, below, size, few)

pub returns-in-Some-clause-state : goal.returns-in-Some-clause-state
returns-in-Some-clause-state c =
    let p = c.self.inside in
    let locks : ℕ → Bool = state_locks (option_map (pass_with p.copied p.ended p.released) p.discipline) in
    let value = c.in-Some.ensures.value in
    let below : c.in-Some.index < p.attested = omega (arith, c.in-Some.ensures.below, c.self.invariant.1) in
    c.bit.ensures
    ∙ c.self.invariant.5 c.in-Some.index below
    ∙ ap locks value.1
    ∙ ap (λ (t : Bool). t && locks (index_of p.ranges c.args.block)) (sym value.0)
    ∙ ap (λ (plan : PlanState). plan_locks plan c.args.block) c.self.view_is

pub returns-in-Some-clause-history : goal.returns-in-Some-clause-history
returns-in-Some-clause-history c = λ w past is. returns-in-Some-clause-state c ∙ ap (λ (plan : PlanState). plan_locks plan c.args.block) is ∙ plan_is_history w past c.args.block
