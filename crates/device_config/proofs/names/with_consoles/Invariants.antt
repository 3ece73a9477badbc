use Rattle.std.proofs.Common.{◌≡◌, ◌++◌, drop}
use Rattle.device_config.specs.Names.{consoles}
use Rattle.device_config.proofs.names.with_consoles.Given as goal

-- the names so far, and then those that are left, are all
abbrev pub invariant-loop-app : goal.invariant-loop-app
invariant-loop-app l = l.fn.names ++ consoles l.apps ≡ l.all ++ consoles (drop l.app-index l.apps)
