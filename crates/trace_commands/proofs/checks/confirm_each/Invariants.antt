use Rattle.std.proofs.Common.{◌≡◌, ◌++◌, length, drop}
use Rattle.history.specs.Layout.{byte_count}
use Rattle.trace_commands.specs.Checks.{answers_of}
use Rattle.trace_commands.proofs.checks.confirm_each.Given as goal

-- what those so far are told, and the others
abbrev pub invariant-loop-report : goal.invariant-loop-report
invariant-loop-report l = record {
  answers : l.answers.items ++ answers_of l.key l.index (drop l.report-index l.reports) ≡ answers_of l.key l.index l.reports;
  room : length l.buffer ≡ byte_count l.index.world.layout;
}
