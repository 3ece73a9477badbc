use Rattle.std.proofs.Common.{◌≡◌, ◌+◌, Err, Some, None, sym, length}
use Rattle.schedule_text.specs.Schedules.{next_run, schedule_of}
use Rattle.schedule_text.proofs.Steps.{refused_line, one_more}
use Rattle.schedule_text.proofs.reading.read_schedule.Goals as goal

pub returns-in_default-next_run-clause-file : goal.returns-in_default-next_run-clause-file
returns-in_default-next_run-clause-file c =
    let says : next_run c.args.apps (length c.loop-line.runs) c.loop-line.turns c.in-Some.line.now ≡ None = rw c.len-in-Some.ensures at (sym c.in_default-next_run.ensures.value) in
    let at : schedule_of c.args.apps c.args.bytes.now ≡ Err (length c.loop-line.runs + 1) = refused_line c.args.apps c.args.bytes.now c.loop-line.runs c.loop-line.turns c.loop-line.rest.now c.in-Some.line.now c.in-Some.more.now c.loop-line.invariant c.in-Some.ensures.parts says in
    rw c.len.ensures at

pub loop-line-preserved : goal.loop-line-preserved
loop-line-preserved c =
    let says : next_run c.args.apps (length c.loop-line.runs) c.loop-line.turns c.in-Some.line.now ≡ Some c.in-Some-next_run.run' = rw c.len-in-Some.ensures at (sym c.in-Some-next_run.ensures.value) in
    rw (c.in-Ok.ensures.ok, c.from-turns.ensures)
    (one_more c.args.apps c.args.bytes.now c.loop-line.runs c.loop-line.turns c.loop-line.rest.now c.in-Some.line.now c.in-Some.more.now c.in-Some-next_run.run' c.loop-line.invariant c.in-Some.ensures.parts says c.in-Some-next_run.ensures.run (rw c.len-in-Some.ensures at c.in-Some-next_run.ensures.lines) c.in-Some-next_run.ensures.turns)
