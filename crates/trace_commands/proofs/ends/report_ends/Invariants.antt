use Rattle.std.proofs.Common.{◌≡◌, ◌++◌, length, drop}
use Rattle.history.specs.Layout.{byte_count}
use Rattle.trace_commands.specs.GeneratedRuns.{report_ends}
use Rattle.trace_commands.proofs.ends.report_ends.Given as goal

-- what those so far have come to, and the others
abbrev pub invariant-loop-end : goal.invariant-loop-end
invariant-loop-end l = record {
  ends : l.ends.items ++ report_ends l.key l.index (drop l.end-index l.passes) ≡ report_ends l.key l.index l.passes;
  room : length l.buffer ≡ byte_count l.index.world.layout;
}
