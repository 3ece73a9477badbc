use Rattle.std.proofs.Common.{◌≡◌, drop}
use Rattle.std.specs.List.{list_all}
use Rattle.device_commands.specs.RunWritten.{is_accepted}
use Rattle.device_commands.proofs.outputs.are_accepted.Given as goal

-- what holds of all is what holds of the others
abbrev pub invariant-loop-end : goal.invariant-loop-end
invariant-loop-end l = list_all is_accepted (drop l.end-index l.ends) ≡ list_all is_accepted l.ends
