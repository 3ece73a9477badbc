use Rattle.std.proofs.Common.{◌≡◌, drop}
use Rattle.std.specs.List.{list_any}
use Rattle.device_commands.specs.RunWritten.{is_cut_pass}
use Rattle.device_commands.proofs.outputs.a_pass_is_cut.Given as goal

-- what holds of all is what holds of the others
abbrev pub invariant-loop-end : goal.invariant-loop-end
invariant-loop-end l = list_any is_cut_pass (drop l.end-index l.passes) ≡ list_any is_cut_pass l.passes
