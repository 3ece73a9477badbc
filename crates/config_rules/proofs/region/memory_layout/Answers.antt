use Rattle.history.specs.Layout.{Layout}
use Rattle.config_rules.specs.Rules.{memory_layout}
use Rattle.config_rules.proofs.Layouts.{layout_from}
use Rattle.config_rules.proofs.region.memory_layout.Goals as goal

pub returns-in-Some : goal.returns-in-Some
unfolding memory_layout
returns-in-Some c =
    let layout : Layout = record { base = c.args.base; size = c.args.size; blocks = c.in-Some.blocks } in
    rw (← c.in-Some.ensures.value) (layout_from c.new.result layout c.new.ensures (c.layouts_are_tested.ensures.is layout) (c.layouts_are_tested.ensures.tested layout))
