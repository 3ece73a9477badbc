use Rattle.std.proofs.Common.{◌≡◌, ◌++◌, drop}
use Rattle.device_config.specs.Names.{reports}
use Rattle.device_config.proofs.names.with_reports.Given as goal

-- the names so far, and then those that are left, are all
abbrev pub invariant-loop-challenge : goal.invariant-loop-challenge
invariant-loop-challenge l = l.fn.names ++ reports l.challenges ≡ l.all ++ reports (drop l.challenge-index l.challenges)
