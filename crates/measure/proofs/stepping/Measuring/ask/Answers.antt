-- The first step that is left is in order, as a program's next step always is.
use Rattle.std.proofs.Common.{rules, ◌≡◌, ◌<◌, ◌-◌, ◌+◌, ap, sym, ◌∙◌, subst}
use Rattle.history.specs.declared.events.Act.TheVariants as act
use Rattle.chronicle.specs.Worlds.{shape_of}
use Rattle.measure.specs.declared.machine.Stage.TheVariants as stage
use Rattle.measure.specs.declared.stepping.Progress.TheVariants as progress
use Rattle.measure.specs.Machine.{acts_left}
use Rattle.measure.specs.Stepping.{HasAsked, left_of}
use Rattle.measure.proofs.Turns.{asked_first, comes_in_order, copy_left, holds_none, left_at, left_hold, left_start, left_tick}
use Rattle.measure.proofs.stepping.Measuring.ask.Goals as goal

pub start-step-requires-clause-order : goal.start-step-requires-clause-order
start-step-requires-clause-order g c =
    let w = g.P.Viewed.world c.args.port.now in
    let m = c.args.self.now in
    let key = c.requires.stands.0 in
    let s = c.requires.stands.1 in
    let none : c.in-Leading-eq0.left ≡ 0 = search rules in
    let a = act.Start m.challenge.discipline m.challenge.counter in
    let missed = acts_left m.challenge (shape_of w) (stage.Copying 0) in
    comes_in_order c.programs_stay_in_order.ensures.next key w s.0 s.1 (g.P.Viewed.seen c.args.port.now) m a missed s.2
    (left_at w m (progress.Leading 0) a missed (c.in-Leading-eq0.is ∙ ap progress.Leading none) (left_start m.challenge (shape_of w)))

pub copy-step-requires-clause-order : goal.copy-step-requires-clause-order
copy-step-requires-clause-order g c =
    let w = g.P.Viewed.world c.args.port.now in
    let m = c.args.self.now in
    let key = c.requires.stands.0 in
    let s = c.requires.stands.1 in
    let made = c.in-Copying.made in
    comes_in_order c.programs_stay_in_order.ensures.next key w s.0 s.1 (g.P.Viewed.seen c.args.port.now) m (act.Copy c.block.result) (acts_left m.challenge (shape_of w) (stage.Copying (made + 1))) s.2
    (copy_left key w s.0 s.1 (g.P.Viewed.seen c.args.port.now) m c.in-Copying.passing made c.total.result c.block.result s.2 c.in-Copying.is c.total.ensures.value c.if-made-total.true c.block.ensures)

pub returns-in-Leading-clause-asked : goal.returns-in-Leading-clause-asked
returns-in-Leading-clause-asked g c =
    let w = g.P.Viewed.world c.args.port.now in
    let m = c.args.self.now in
    let left = c.in-Leading.left in
    let some : 0 < left = search rules in
    let missed = acts_left m.challenge (shape_of w) (stage.Leading (left - 1)) in
    subst (λ r. HasAsked g.P.Viewed.alone w (g.P.Viewed.seen c.args.port.now) (g.P.Viewed.seen c.tick.new.self) (left_of w m) c.args.buffer.now r) (sym c.tell-in-Leading.ensures)
    (asked_first g.P.Viewed.alone w (g.P.Viewed.low c.args.port.now) (g.P.Viewed.high c.args.port.now) c.requires.actor (g.P.Viewed.seen c.args.port.now) (g.P.Viewed.seen c.tick.new.self)
    (left_of w m) act.Tick missed c.args.buffer.now c.tick.result
    (left_at w m (progress.Leading left) act.Tick missed c.in-Leading.is (left_tick m.challenge (shape_of w) left some))
    c.tick.ensures.answer c.tick.ensures.alone (holds_none w (g.P.Viewed.seen c.tick.new.self) act.Tick c.args.buffer.now c.tick.result tt))

pub returns-in-Holding-clause-asked : goal.returns-in-Holding-clause-asked
returns-in-Holding-clause-asked g c =
    let w = g.P.Viewed.world c.args.port.now in
    let m = c.args.self.now in
    let r = c.in-Holding.report in
    let left = c.in-Holding.left in
    let some : 0 < left = search rules in
    let missed = acts_left m.challenge (shape_of w) (stage.Holding (left - 1)) in
    subst (λ x. HasAsked g.P.Viewed.alone w (g.P.Viewed.seen c.args.port.now) (g.P.Viewed.seen c.tick-in-Holding.new.self) (left_of w m) c.args.buffer.now x) (sym c.tell-in-Holding.ensures)
    (asked_first g.P.Viewed.alone w (g.P.Viewed.low c.args.port.now) (g.P.Viewed.high c.args.port.now) c.requires.actor (g.P.Viewed.seen c.args.port.now) (g.P.Viewed.seen c.tick-in-Holding.new.self)
    (left_of w m) act.Tick missed c.args.buffer.now c.tick-in-Holding.result
    (left_at w m (progress.Holding r left) act.Tick missed c.in-Holding.is (left_hold m.challenge (shape_of w) left some))
    c.tick-in-Holding.ensures.answer c.tick-in-Holding.ensures.alone (holds_none w (g.P.Viewed.seen c.tick-in-Holding.new.self) act.Tick c.args.buffer.now c.tick-in-Holding.result tt))
