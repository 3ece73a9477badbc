-- The store comes first, and then the step.
use Rattle.history.specs.declared.events.Act.TheVariants as act
use Rattle.measure.proofs.busy.BusyBlockPort.release.Goals as goal

pub release-requires-clause-order : goal.release-requires-clause-order
release-requires-clause-order c =
    rw (c.new.ensures.core, c.disturb.ensures.world) (c.goes_on.ensures.order c.args.self.now.core.now.world c.args.self.now.core.now.history c.disturb.new.core.history act.Release
    (rw c.disturb.ensures.world at c.disturb.ensures.legal) c.disturb.ensures.others c.requires.order)

pub returns-clause-answer : goal.returns-clause-answer
returns-clause-answer c =
    c.goes_on.ensures.answer c.args.self.now.core.now.world c.args.self.now.core.now.history c.disturb.new.core.history c.release.new.self.core.now.history act.Release
    c.release.result c.disturb.ensures.others (rw (c.new.ensures.core, c.new.ensures.actor, c.disturb.ensures.world) at c.release.ensures.answer)
