use Rattle.std.proofs.Common.{◌-◌}
use Rattle.turn_cell.proofs.tests.+fn-note_all-lower+fn-note_all-upper+note_all.Given as goal

abbrev pub decreases-lower : goal.decreases-lower
decreases-lower g l = l.first.high - l.first.low

abbrev pub decreases-upper : goal.decreases-upper
decreases-upper g l = l.second.high - l.second.low

abbrev pub decreases-note_all : goal.decreases-note_all
decreases-note_all g l = l.pass.high - l.pass.low
