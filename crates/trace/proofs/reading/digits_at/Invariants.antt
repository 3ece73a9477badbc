use Rattle.trace.proofs.Fronts.{HasSeen}
use Rattle.trace.proofs.reading.digits_at.Given as goal

abbrev pub invariant-loop-c : goal.invariant-loop-c
invariant-loop-c l = HasSeen l.count l.c-index l.seen l.value l.text
