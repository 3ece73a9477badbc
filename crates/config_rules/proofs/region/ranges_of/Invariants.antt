use Rattle.std.proofs.Common.{◌≡◌, take, drop, length}
use Rattle.toml.specs.View.{items_view}
use Rattle.config_rules.specs.Rules.{range_of}
use Rattle.config_rules.specs.Values.{each_of}
use Rattle.config_rules.proofs.ItemsSoFar.{read_from}
use Rattle.config_rules.proofs.region.ranges_of.Given as goal

-- the ranges so far, and then those of the values that are left, are those of all
abbrev pub invariant-loop-place : goal.invariant-loop-place
invariant-loop-place l = record {
  places : length l.list ≡ 8;
  read : each_of range_of (items_view l.values) ≡ read_from range_of (take l.place l.list) (drop l.place l.values);
}
