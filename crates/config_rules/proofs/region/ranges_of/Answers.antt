use Rattle.std.proofs.Common.{◌≡◌, ◌+◌, ◌<◌, List, ◌∷◌, Some, length, take, drop, sym, ap, ◌∙◌, arith}
use Rattle.std.proofs.lemmas.List.{drop_more, take_more_set}
use Rattle.std.proofs.Math.ListN.{set, length-set}
use Rattle.toml.specs.declared.value.Value.{Value}
use Rattle.toml.specs.View.{items_view, view}
use Rattle.history.specs.declared.ranges.Range.{Range}
use Rattle.config_rules.specs.Rules.{range_of}
use Rattle.config_rules.specs.Values.{each_of}
use Rattle.config_rules.proofs.ItemsSoFar.{read_from}
use Rattle.config_rules.proofs.RangeItems.{over_eight, read_more}
use Rattle.config_rules.proofs.region.ranges_of.Goals as goal

pub returns-then-values-gt-MOST_RANGES : goal.returns-then-values-gt-MOST_RANGES
returns-then-values-gt-MOST_RANGES c = sym (over_eight c.args.end c.args.values.now c.if-values-gt-MOST_RANGES.true)

pub loop-place-preserved : goal.loop-place-preserved
loop-place-preserved c =
    let values : List Value = c.args.values.now in
    let i = c.loop-place.place in
    let list : List Range = c.loop-place.list in
    let v : Value = c.index-values-place.result in
    let r : Range = c.in-Some.range in
    let is : range_of (view v) ≡ Some r = sym c.range_of.ensures ∙ c.in-Some.is in
    let split : drop i values ≡ v ∷ drop (i + 1) values = drop_more values i v c.loop-place-test.true ∙ ap (λ (x : Value). x ∷ drop (i + 1) values) (sym c.index-values-place.is) in
    let room : i < length list = omega (arith, c.loop-place-test.true, c.if-values-gt-MOST_RANGES.false, c.loop-place.invariant.places) in
    let read : each_of range_of (items_view values) ≡ read_from range_of (take (i + 1) (set list i r)) (drop (i + 1) values) =
    c.loop-place.invariant.read
    ∙ ap (λ (vs : List Value). read_from range_of (take i list) vs) split
    ∙ read_more range_of (take i list) v (drop (i + 1) values) r is
    ∙ ap (λ (rs : List Range). read_from range_of rs (drop (i + 1) values)) (sym (take_more_set list i r room)) in
    record { places = length-set list i r ∙ c.loop-place.invariant.places; read = read }
