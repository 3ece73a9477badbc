-- The numbers of the statuses.
use Rattle.std.specs.Prelude.{ℕ}
use Rattle.attest_top.specs.declared.status.Status.{Status}
use Rattle.attest_top.specs.declared.status.Status.TheVariants.{Good, Rejected, Usage, BadInput, OutsideFault, Full, Memory}

abbrev pub exit_code : Status → ℕ
exit_code Good = 0
exit_code Rejected = 1
exit_code Usage = 2
exit_code BadInput = 3
exit_code OutsideFault = 4
exit_code Full = 5
exit_code Memory = 6
