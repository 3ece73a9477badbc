use Rattle.std.proofs.Common.{◌≡◌, drop}
use Rattle.toml.specs.View.{items_view}
use Rattle.device_config.specs.Arrays.{challenge_plan_of}
use Rattle.config_rules.specs.Values.{each_of}
use Rattle.device_config.proofs.ItemsSoFar.{read_from}
use Rattle.device_config.proofs.arrays.challenges_of.Given as goal

-- what was read so far, and then what is left, is what all values say
abbrev pub invariant-loop-value : goal.invariant-loop-value
invariant-loop-value l = each_of challenge_plan_of (items_view l.values) ≡ read_from challenge_plan_of l.challenges (drop l.value-index l.values)
