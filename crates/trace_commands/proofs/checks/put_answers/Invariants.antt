use Rattle.std.proofs.Common.{◌≡◌, ◌++◌, drop}
use Rattle.trace_commands.specs.Checks.{answer_lines}
use Rattle.trace_commands.proofs.checks.put_answers.Given as goal

-- what is appended, and the lines of the others
abbrev pub invariant-loop-name : goal.invariant-loop-name
invariant-loop-name l = record {
  text : l.out.items ++ answer_lines (drop l.name-index l.names) (drop l.k l.answers) ≡ l.fn.out.items ++ answer_lines l.names l.answers;
  place : l.k ≡ l.name-index;
}
