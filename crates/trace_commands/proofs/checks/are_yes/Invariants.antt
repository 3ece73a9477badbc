use Rattle.std.proofs.Common.{◌≡◌, drop}
use Rattle.std.specs.List.{list_all}
use Rattle.trace_commands.specs.Checks.{is_yes}
use Rattle.trace_commands.proofs.checks.are_yes.Given as goal

-- what holds of all is what holds of the others
abbrev pub invariant-loop-answer : goal.invariant-loop-answer
invariant-loop-answer l = list_all is_yes (drop l.answer-index l.answers) ≡ list_all is_yes l.answers
