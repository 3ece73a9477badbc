use Rattle.std.proofs.Common.{◌≡◌, ◌++◌, drop}
use Rattle.device_inputs.specs.Admissions.{served}
use Rattle.device_commands.proofs.ends.served.Given as goal

abbrev pub invariant-loop-admission : goal.invariant-loop-admission
invariant-loop-admission l = l.challenges.items ++ served (drop l.admission-index l.admissions) ≡ served l.admissions
