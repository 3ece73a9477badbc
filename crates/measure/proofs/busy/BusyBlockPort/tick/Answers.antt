-- The store comes first, and then the step.
use Rattle.history.specs.declared.events.Act.TheVariants as act
use Rattle.measure.proofs.busy.BusyBlockPort.tick.Goals as goal

pub returns-clause-answer : goal.returns-clause-answer
returns-clause-answer c =
    c.goes_on.ensures.answer c.args.self.now.core.now.world c.args.self.now.core.now.history c.disturb.new.core.history c.tick.new.self.core.now.history act.Tick
    c.tick.result c.disturb.ensures.others (rw (c.new.ensures.core, c.new.ensures.actor, c.disturb.ensures.world) at c.tick.ensures.answer)
