-- No such line stands there, or one with too little room.
use Rattle.std.proofs.Common.{sym, ap, ◌∙◌, arith}
use Rattle.history.specs.Layout.{Layout}
use Rattle.trace.proofs.OneTrace.{memory_front}
use Rattle.trace.proofs.Begun.{leaves_1, leaves_2}
use Rattle.trace.proofs.text_reading.read_memory.Goals as goal

pub returns-in_default-clause-fault : goal.returns-in_default-clause-fault
returns-in_default-clause-fault c = leaves_1 c.args.text.now c.in_default.ensures.none

pub returns-in-None-clause-fault : goal.returns-in-None-clause-fault
returns-in-None-clause-fault c =
    leaves_2 c.in-Some.several c.args.text.now c.in-Some.text.now c.in-Some.ensures.found (λ layout rest is_layout room is. c.in-None.ensures.none layout rest is_layout is)

pub returns-then-blocks-lt3-clause-fault : goal.returns-then-blocks-lt3-clause-fault
returns-then-blocks-lt3-clause-fault c =
    leaves_2 c.in-Some.several c.args.text.now c.in-Some.text.now c.in-Some.ensures.found (λ layout rest is_layout room is.
    let read = c.in-Some-memory_line in
    let same = memory_front read.found.0 layout read.found.1.now rest read.ensures.layout is_layout (sym read.ensures.found ∙ is) in
    let three = room c.if-several.true in
    absurd (omega (arith, three, ap (λ (l : Layout). l.blocks) same.0, c.if-blocks-lt3.true, c.blocks-then-several.ensures.value)))
