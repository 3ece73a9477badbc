use Rattle.std.proofs.Common.{◌≡◌, drop}
use Rattle.std.specs.List.{list_all}
use Rattle.trace_commands.specs.GeneratedRuns.{is_confirmed_end}
use Rattle.trace_commands.proofs.ends.are_confirmed.Given as goal

-- what holds of all is what holds of the others
abbrev pub invariant-loop-end : goal.invariant-loop-end
invariant-loop-end l = list_all is_confirmed_end (drop l.end-index l.ends) ≡ list_all is_confirmed_end l.ends
