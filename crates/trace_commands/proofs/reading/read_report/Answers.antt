use Rattle.trace_commands.specs.Checks.{ReportIn}
use Rattle.trace_commands.proofs.reading.read_report.Goals as goal

pub returns-in-Ok : goal.returns-in-Ok
unfolding ReportIn
returns-in-Ok g c = rw (c.as_str.ensures, ← c.from_vec.ensures) at c.in-Ok.ensures.reads

pub returns-in-Err : goal.returns-in-Err
unfolding ReportIn
returns-in-Err g c = rw c.as_str.ensures at c.in-Err.ensures.reads
