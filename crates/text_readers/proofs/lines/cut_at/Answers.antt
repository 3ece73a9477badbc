use Rattle.std.proofs.Common.{arith, ◌==◌, sym}
use Rattle.text_readers.proofs.Splits.{slice_split_here, slice_split_nowhere}
use Rattle.std.proofs.lemmas.Grind.{common_steps}
use Rattle.text_readers.proofs.lines.cut_at.Goals as goal

pub returns-in-Some-clause-parts : goal.returns-in-Some-clause-parts
returns-in-Some-clause-parts c = let h = slice_split_here (λ b. b == c.args.byte) c.args.text.now c.in-Some.at (sym c.in-Some.ensures) in grind (arith, common_steps, h)

pub returns-in-None-clause-parts : goal.returns-in-None-clause-parts
returns-in-None-clause-parts c = slice_split_nowhere (λ b. b == c.args.byte) c.args.text.now (sym c.in-None.ensures)
