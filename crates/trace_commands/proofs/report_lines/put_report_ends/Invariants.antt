use Rattle.std.proofs.Common.{◌≡◌, ◌+◌, ◌++◌, drop}
use Rattle.trace_commands.specs.GeneratedRuns.{all_report_lines}
use Rattle.trace_commands.proofs.report_lines.put_report_ends.Given as goal

-- what is appended, and the lines of the others
abbrev pub invariant-loop-end : goal.invariant-loop-end
invariant-loop-end l = record {
  text : l.out.items ++ all_report_lines l.number (drop l.end-index l.ends) ≡ l.fn.out.items ++ all_report_lines 1 l.ends;
  number : l.number ≡ l.end-index + 1;
}
