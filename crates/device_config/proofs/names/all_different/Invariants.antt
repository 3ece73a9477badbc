use Rattle.std.proofs.Common.{◌≡◌, length}
use Rattle.device_config.specs.Names.{all_different}
use Rattle.device_config.proofs.names.all_different.Given as goal

-- the names before those that are left stand once
abbrev pub invariant-loop-name : goal.invariant-loop-name
invariant-loop-name l = all_different l.names ≡ all_different l.rest

abbrev pub decreases-loop-name : goal.decreases-loop-name
decreases-loop-name l = length l.rest
