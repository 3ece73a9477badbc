-- By what the port answered, and by the rules on the entry that it made.
use Rattle.device.proofs.Acting.{app_full, app_made}
use Rattle.device.proofs.slots.Slot.turn.Goals as goal

pub returns-in-Made-clause-state : goal.returns-in-Made-clause-state
returns-in-Made-clause-state c =
    (app_made c.args.core.now.world c.args.actor c.args.core.now.history c.turn_over.new.core.history c.args.self.now.app c.turn_over.new.app c.args.self.now.tally c.if-self.false c.one_entry_more.ensures.less c.in-Made.kind c.in-Made.place c.in-Made.ensures.turned c.in-Made.ensures.alone).0

pub returns-in-Made-clause-answer : goal.returns-in-Made-clause-answer
returns-in-Made-clause-answer c =
    (app_made c.args.core.now.world c.args.actor c.args.core.now.history c.turn_over.new.core.history c.args.self.now.app c.turn_over.new.app c.args.self.now.tally c.if-self.false c.one_entry_more.ensures.less c.in-Made.kind c.in-Made.place c.in-Made.ensures.turned c.in-Made.ensures.alone).1

pub returns-in-Full-clause-state : goal.returns-in-Full-clause-state
returns-in-Full-clause-state c =
    (app_full c.args.core.now.world c.args.actor c.args.core.now.history c.turn_over.new.core.history c.args.self.now.app c.turn_over.new.app c.args.self.now.tally c.if-self.false c.in-Full.place c.in-Full.ensures.turned c.in-Full.ensures.alone).0

pub returns-in-Full-clause-answer : goal.returns-in-Full-clause-answer
returns-in-Full-clause-answer c =
    (app_full c.args.core.now.world c.args.actor c.args.core.now.history c.turn_over.new.core.history c.args.self.now.app c.turn_over.new.app c.args.self.now.tally c.if-self.false c.in-Full.place c.in-Full.ensures.turned c.in-Full.ensures.alone).1
