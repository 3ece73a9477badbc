use Rattle.std.proofs.Common.{ℕ, ◌<◌, ◌^◌, get_or}
use Rattle.challenge.specs.declared.Challenge.{Challenge}
use Rattle.device_commands.proofs.setting_up.counters_fit.Given as goal

abbrev pub invariant-loop-challenge : goal.invariant-loop-challenge
invariant-loop-challenge l = (k : ℕ) (d : Challenge) → k < l.challenge-index → (get_or l.challenges k d).counter < 2 ^ 64
