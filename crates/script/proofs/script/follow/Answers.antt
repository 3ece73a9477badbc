-- A Copy that may come is the plan's next step.
use Rattle.std.proofs.Common.{ap}
use Rattle.history.specs.Pass.{pass_after}
use Rattle.lock_plan.specs.Plans.{is_copy_step}
use Rattle.script.specs.Steps.{next_block}
use Rattle.script.proofs.script.follow.Goals as goal

pub copied-requires : goal.copied-requires
copied-requires c =
    let w = c.requires.0 in
    let past = c.requires.1 in
    ap is_copy_step (c.order_gives_next_step.ensures.copy w past c.args.plan.now (next_block w (pass_after past)) c.requires.2 c.requires.3 (rw c.in-Copy.is at c.requires.4))
