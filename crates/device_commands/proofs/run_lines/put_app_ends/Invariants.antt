use Rattle.std.proofs.Common.{◌≡◌, ◌+◌, ◌++◌, drop}
use Rattle.device_commands.specs.RunLines.{end_lines}
use Rattle.device_commands.proofs.run_lines.put_app_ends.Given as goal

-- what is appended, and the lines of the others
abbrev pub invariant-loop-app : goal.invariant-loop-app
invariant-loop-app l = record {
  text : l.out.items ++ end_lines l.number (drop l.app-index l.apps) ≡ l.fn.out.items ++ end_lines 1 l.apps;
  number : l.number ≡ l.app-index + 1;
}
