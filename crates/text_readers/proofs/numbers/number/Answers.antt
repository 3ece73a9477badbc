use Rattle.std.proofs.Common.{arith, sym}
use Rattle.text_readers.proofs.ReadDigits.{digits_number-stops, digits_number-digits, digits_more, ReadsSoFar-none}
use Rattle.text_readers.proofs.numbers.number.Goals as goal

pub loop-c-init : goal.loop-c-init
loop-c-init c = ReadsSoFar-none c.args.base c.args.digits.now

pub returns-in_default : goal.returns-in_default
returns-in_default c =
    sym (digits_number-stops c.args.base c.args.digits.now c.loop-c.c-index c.loop-c.value c.loop-c.invariant (omega arith) c.loop-c-test.true (λ h. c.in_default.ensures h))

pub loop-c-preserved : goal.loop-c-preserved
loop-c-preserved c =
    digits_more c.args.base c.args.digits.now c.loop-c.c-index c.loop-c.value c.in-Some.more c.loop-c-test.true c.loop-c.invariant c.in-Some.ensures.0.0 c.in-Some.ensures.0.1 c.in-Some.ensures.1

pub returns : goal.returns
returns c = sym (digits_number-digits c.args.base c.args.digits.now c.loop-c.c-index c.loop-c.value c.loop-c-test.false c.loop-c.invariant)
