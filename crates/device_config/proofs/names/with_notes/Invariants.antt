use Rattle.std.proofs.Common.{◌≡◌, ◌++◌, drop}
use Rattle.device_config.specs.Names.{notes}
use Rattle.device_config.proofs.names.with_notes.Given as goal

-- the names so far, and then those that are left, are all
abbrev pub invariant-loop-challenge : goal.invariant-loop-challenge
invariant-loop-challenge l = l.fn.names ++ notes l.challenges ≡ l.all ++ notes (drop l.challenge-index l.challenges)
