use Rattle.std.proofs.Common.{arith, sym}
use Rattle.text_readers.proofs.ReadDigits.{digits_number-hex, digits_number-word}
use Rattle.text_readers.proofs.numbers.hex_number.Goals as goal

pub overflow_cast-result : goal.overflow_cast-result
overflow_cast-result c = omega (arith, digits_number-word c.args.digits.now c.in_ok-value.value (sym c.in_ok-value.ensures) (omega arith))

pub returns-clause-below : goal.returns-clause-below
returns-clause-below c = rw c.if-digits-count.false at (digits_number-hex c.args.digits.now c.in_ok-value.value (sym c.in_ok-value.ensures))
