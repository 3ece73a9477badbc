use Rattle.std.proofs.Common.{Option, option_and_then, sym, ap, ◌∙◌, arith}
use Rattle.toml.specs.Data.{Items}
use Rattle.toml.specs.View.{items_view}
use Rattle.config_rules.specs.Rules.{range_from, range_of}
use Rattle.config_rules.proofs.RangeItems.{no_pair}
use Rattle.config_rules.proofs.region.range_of.Goals as goal

pub returns-in_default-as_slice : goal.returns-in_default-as_slice
unfolding range_of
returns-in_default-as_slice c =
    let none = no_pair c.as_slice.result.now (λ two. omega (arith, c.in_default-as_slice.len_below)) in
    sym (ap (λ (o : Option Items). option_and_then range_from o) (sym c.in-Some.ensures) ∙ ap (λ vs. range_from (items_view vs)) (sym c.as_slice.ensures.value) ∙ none)

pub returns-in_default-as_slice-2 : goal.returns-in_default-as_slice-2
unfolding range_of
returns-in_default-as_slice-2 c =
    let none = no_pair c.as_slice.result.now (λ two. omega (arith, c.in_default-as_slice.len_at_least)) in
    sym (ap (λ (o : Option Items). option_and_then range_from o) (sym c.in-Some.ensures) ∙ ap (λ vs. range_from (items_view vs)) (sym c.as_slice.ensures.value) ∙ none)
