use Rattle.std.proofs.Common.{◌+◌, ◌&&◌, Bool, drop, sym, ap, ◌∙◌}
use Rattle.report.specs.Shapes.{same_ranges}
use Rattle.report.proofs.SameRanges.{at_place, other_count}
use Rattle.report.proofs.shapes.same_ranges.Goals as goal

pub returns-then-count : goal.returns-then-count
returns-then-count c =
    let other = c.if-count.true in
    sym (other_count c.args.a.now c.args.b.now (λ same. other (c.count.ensures.value ∙ same ∙ sym c.count-2.ensures.value)))

pub returns-then-not-same_range : goal.returns-then-not-same_range
returns-then-not-same_range c = sym (c.loop-k.invariant ∙ at_place c.args.a.now c.args.b.now c.loop-k.k c.range.result c.range-in-loop-k.result c.same_range.result c.range.ensures c.range-in-loop-k.ensures c.same_range.ensures ∙ ap (λ (here : Bool). here && same_ranges (drop (c.loop-k.k + 1) c.args.a.now) (drop (c.loop-k.k + 1) c.args.b.now)) c.if-not-same_range.true)

pub loop-k-preserved : goal.loop-k-preserved
loop-k-preserved c = c.loop-k.invariant ∙ at_place c.args.a.now c.args.b.now c.loop-k.k c.range.result c.range-in-loop-k.result c.same_range.result c.range.ensures c.range-in-loop-k.ensures c.same_range.ensures ∙ ap (λ (here : Bool). here && same_ranges (drop (c.loop-k.k + 1) c.args.a.now) (drop (c.loop-k.k + 1) c.args.b.now)) c.if-not-same_range.false
