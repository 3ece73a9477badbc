use Rattle.std.proofs.Common.{◌+◌, [], drop, get_or, refl, sym, ◌∙◌}
use Rattle.history.specs.declared.events.Width.TheVariants.{Byte}
use Rattle.script.specs.declared.steps.Step.TheVariants.{Load}
use Rattle.script.proofs.Midways.{midway-none, midway-may, midway-next, midway-full, rest_at}
use Rattle.script.proofs.running.take_steps.Goals as goal

pub loop-step-init : goal.loop-step-init
loop-step-init c = (
  midway-none c.args.core.now.world c.args.tagger.now.key.items c.args.steps.now c.args.out.now.items c.args.core.now c.args.tagger.now
      refl c.requires.empty c.requires.ordered (c.requires.begun []),
  c.requires.room,
)

pub take_step-requires-clause-may : goal.take_step-requires-clause-may
take_step-requires-clause-may c =
    let step = get_or c.args.steps.now c.loop-step.step-index (Load Byte 0) in
    let here = rest_at c.args.steps.now c.loop-step.step-index (Load Byte 0) c.loop-step-test.true in
    midway-may c.args.core.now.world c.args.tagger.now.key.items c.args.steps.now c.args.out.now.items step (drop (c.loop-step.step-index + 1) c.args.steps.now)
    c.loop-step.core c.loop-step.out.items c.loop-step.tagger (rw here at c.loop-step.invariant.0)

pub take_step-requires-clause-room : goal.take_step-requires-clause-room
take_step-requires-clause-room c = rw c.loop-step.invariant.0.world c.loop-step.invariant.1

pub loop-step-preserved : goal.loop-step-preserved
loop-step-preserved c =
    let step = get_or c.args.steps.now c.loop-step.step-index (Load Byte 0) in
    let here = rest_at c.args.steps.now c.loop-step.step-index (Load Byte 0) c.loop-step-test.true in (
      rw c.in_ok-say_end.ensures.text (midway-next c.args.core.now.world c.args.tagger.now.key.items c.args.steps.now c.args.out.now.items step (drop (c.loop-step.step-index + 1) c.args.steps.now)
          c.loop-step.core c.take_step.new.core c.loop-step.out.items c.take_step.new.out.items c.loop-step.tagger c.take_step.new.tagger c.in_ok-end.end (sym c.in_ok-say_end.ensures.full ∙ c.if-branch.false)
          (rw here at c.loop-step.invariant.0) c.in_ok-end.ensures.ran c.in_ok-end.ensures.tagging),
      c.take_step.auto.buffer ∙ c.loop-step.invariant.1,
    )

pub returns-then-branch-clause-text : goal.returns-then-branch-clause-text
returns-then-branch-clause-text c =
    let step = get_or c.args.steps.now c.loop-step.step-index (Load Byte 0) in
    let here = rest_at c.args.steps.now c.loop-step.step-index (Load Byte 0) c.loop-step-test.true in
    c.in_ok-say_end.ensures.text
    ∙ (midway-full c.args.core.now.world c.args.tagger.now.key.items c.args.steps.now c.args.out.now.items step (drop (c.loop-step.step-index + 1) c.args.steps.now)
    c.loop-step.core c.take_step.new.core c.loop-step.out.items c.take_step.new.out.items c.loop-step.tagger c.in_ok-end.end (sym c.in_ok-say_end.ensures.full ∙ c.if-branch.true)
    (rw here at c.loop-step.invariant.0) c.in_ok-end.ensures.ran).0

pub returns-then-branch-clause-full : goal.returns-then-branch-clause-full
returns-then-branch-clause-full c =
    let step = get_or c.args.steps.now c.loop-step.step-index (Load Byte 0) in
    let here = rest_at c.args.steps.now c.loop-step.step-index (Load Byte 0) c.loop-step-test.true in
    (midway-full c.args.core.now.world c.args.tagger.now.key.items c.args.steps.now c.args.out.now.items step (drop (c.loop-step.step-index + 1) c.args.steps.now)
    c.loop-step.core c.take_step.new.core c.loop-step.out.items c.take_step.new.out.items c.loop-step.tagger c.in_ok-end.end (sym c.in_ok-say_end.ensures.full ∙ c.if-branch.true)
    (rw here at c.loop-step.invariant.0) c.in_ok-end.ensures.ran).1
