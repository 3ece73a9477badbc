use Rattle.text_readers.proofs.ReadDigits.{ReadsSoFar}
use Rattle.text_readers.proofs.numbers.number.Given as goal

abbrev pub invariant-loop-c : goal.invariant-loop-c
invariant-loop-c l = ReadsSoFar l.base l.digits l.c-index l.value
