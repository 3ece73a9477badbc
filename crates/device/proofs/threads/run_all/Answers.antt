-- By what the measurer and the applications have done.
use Rattle.std.proofs.Common.{rules, subst}
use Rattle.device.specs.Threads.{HasRunRange, HasServed}
use Rattle.device.proofs.Served.{joined_all}
use Rattle.device.proofs.threads.run_all.Goals as goal

pub returns-clause-ran : goal.returns-clause-ran
returns-clause-ran g c =
    let left : HasServed c.args.memory.now c.split-second.new.pass c.join_mut-left.result.0 c.args.key.now c.args.passes.now c.passes-1.given.0 = search rules in
    let right : HasRunRange c.args.memory.now c.split-second.result c.join_mut-left.result.1 c.args.slots.now c.slots-1.given.0 = search rules in
    joined_all c.own_entries.ensures.append c.own_entries.ensures.none c.measured_stays.ensures.report c.measured_stays.ensures.note c.measuring_stands.ensures.followed c.runs_compose.ensures.others c.runs_compose.ensures.more c.runs_compose.ensures.waits_later
    c.args.memory.now c.args.pass c.join_mut-left.result.0 c.join_mut-left.result.1 c.join.result c.args.key.now c.args.slots.now c.slots-1.given.0 c.args.passes.now c.passes-1.given.0 c.requires.ready
    (subst (λ p. HasServed c.args.memory.now p c.join_mut-left.result.0 c.args.key.now c.args.passes.now c.passes-1.given.0) c.split-second.ensures.left left)
    (subst (λ p. HasRunRange c.args.memory.now p c.join_mut-left.result.1 c.args.slots.now c.slots-1.given.0) c.split-second.ensures.right right) c.join.ensures.pass c.join.ensures.left c.join.ensures.right
