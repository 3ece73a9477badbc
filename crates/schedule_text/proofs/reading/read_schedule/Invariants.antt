use Rattle.std.proofs.Common.{length}
use Rattle.schedule_text.proofs.Steps.{ReadSoFar}
use Rattle.schedule_text.proofs.reading.read_schedule.Given as goal

abbrev pub invariant-loop-line : goal.invariant-loop-line
invariant-loop-line l = ReadSoFar l.apps l.bytes l.runs l.turns l.rest

abbrev pub decreases-loop-line : goal.decreases-loop-line
decreases-loop-line l = length l.rest
