-- A load breaks the rules of a read.
use Rattle.trace.proofs.checking.act_rule.Goals as goal

pub returns-in-Load : goal.returns-in-Load
returns-in-Load c = λ past replayed. rw c.in-Load.is (c.read_rule-in-Load.ensures past replayed.memory)
