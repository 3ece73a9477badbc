-- One byte on, and what the marks tell in the end.
use Rattle.std.proofs.Common.{◌≡◌, ◌<◌, length, get_or, sym, ap, ◌∙◌, arith, length-take}
use Rattle.std.proofs.lemmas.List.{get_or-take}
use Rattle.trace.specs.Reading.{low_digit}
use Rattle.trace.proofs.Fronts.{digits_short, seen_more}
use Rattle.trace.proofs.reading.digits_at.Goals as goal

pub returns-then-text-count : goal.returns-then-text-count
returns-then-text-count c = record { value = sym (digits_short c.args.count 0 c.args.text.now c.if-text-count.true) }

pub loop-c-preserved : goal.loop-c-preserved
loop-c-preserved c =
    let text = c.args.text.now in
    let i = c.loop-c.c-index in
    let before : i < c.args.count = omega (arith, c.loop-c-test.true, length-take c.args.count text) in
    let inside : i < length text = omega (arith, before, c.if-text-count.false) in
    let is : c.low_digit-digit.result ≡ low_digit (get_or text i 0) = c.low_digit-digit.ensures.value ∙ ap low_digit (get_or-take c.args.count text i 0 before) in
    seen_more c.args.count i c.loop-c.seen c.loop-c.value c.low_digit-digit.result text c.requires before inside is c.loop-c.invariant
