use Rattle.std.proofs.Common.{◌≡◌, ◌+◌, ◌++◌, drop}
use Rattle.device_commands.specs.RunLines.{all_challenge_lines}
use Rattle.device_commands.proofs.run_lines.put_challenges.Given as goal

-- what is appended, and the lines of the others
abbrev pub invariant-loop-end : goal.invariant-loop-end
invariant-loop-end l = record {
  text : l.out.items ++ all_challenge_lines l.set.images l.number (drop l.end-index l.ends) ≡ l.fn.out.items ++ all_challenge_lines l.set.images 1 l.ends;
  number : l.number ≡ l.end-index + 1;
}
