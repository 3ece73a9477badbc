use Rattle.std.proofs.Common.{◌≡◌, drop}
use Rattle.toml.specs.View.{items_view}
use Rattle.config_rules.specs.Values.{each_of, name_of}
use Rattle.config_rules.proofs.ItemsSoFar.{read_from}
use Rattle.config_rules.proofs.values.names_of.Given as goal

-- the names so far, and then those of the values that are left, are the names of all
abbrev pub invariant-loop-value : goal.invariant-loop-value
invariant-loop-value l = each_of name_of (items_view l.values) ≡ read_from name_of l.names (drop l.value-index l.values)
