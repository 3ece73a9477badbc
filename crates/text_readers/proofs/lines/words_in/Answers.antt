-- Each cut takes one word off, and what is left after the fifth is at least one more.
use Rattle.std.proofs.Common.{ap, arith, length, ◌==◌}
use Rattle.std.proofs.lemmas.List.Splits.{length-slice_split}
use Rattle.text_readers.proofs.lines.words_in.Goals as goal

pub returns-in-Some-cut_at-4 : goal.returns-in-Some-cut_at-4
returns-in-Some-cut_at-4 c = omega (
  arith,
  ap length c.in-Some.ensures.parts,
  ap length c.in-Some-cut_at.ensures.parts,
  ap length c.in-Some-cut_at-2.ensures.parts,
  ap length c.in-Some-cut_at-3.ensures.parts,
  ap length c.in-Some-cut_at-4.ensures.parts,
  length-slice_split (λ b. b == 32) c.in-Some-cut_at-4.field-0.1.now,
)
