use Rattle.script.proofs.Layouts.{layout_from}
use Rattle.script.proofs.reading.layout_in.Goals as goal

pub returns : goal.returns
returns c = layout_from c.new.result (record { base = c.args.base; size = c.args.size; blocks = c.args.blocks }) c.new.ensures (c.layouts_are_tested.ensures.is (record { base = c.args.base; size = c.args.size; blocks = c.args.blocks })) (c.layouts_are_tested.ensures.tested (record { base = c.args.base; size = c.args.size; blocks = c.args.blocks }))
