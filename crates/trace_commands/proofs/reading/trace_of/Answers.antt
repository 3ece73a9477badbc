use Rattle.std.proofs.Common.{ℕ, List, Result, Err, refl, ap}
use Rattle.chronicle.specs.Worlds.{Recorded}
use Rattle.command_plans.specs.Steps.{Reason, bad}
use Rattle.trace.specs.Whole.{LeavesAt}
use Rattle.trace_commands.specs.Checks.{is_trace, leaves}
use Rattle.trace_commands.proofs.reading.trace_of.Goals as goal

-- what is bad is told by a line
abbrev refused : List ℕ → Result Recorded Reason
refused line = Err (bad line)

pub returns-in-Ok-clause-comes : goal.returns-in-Ok-clause-comes
returns-in-Ok-clause-comes c = (refl, is_trace c.in-Ok.chronicle c.in-Ok.ensures.trace refl)

pub returns-in_ok-line-in-Err-Line-clause-comes : goal.returns-in_ok-line-in-Err-Line-clause-comes
returns-in_ok-line-in-Err-Line-clause-comes c =
    let here : LeavesAt c.args.text.now c.in-Err-Line.line = rw c.in-Err-Line.field-0-is at c.in-Err-Line.ensures.fault in
    (refl, leaves c.in-Err-Line.line here (ap refused c.in_ok-line-in-Err-Line.ensures))
