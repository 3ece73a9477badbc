use Rattle.std.proofs.Common.{arith, ◌==◌, ◌+◌, take, drop, sym}
use Rattle.text_readers.proofs.Splits.{slice_split_here, slice_split_nowhere, lines_of_parts, lines_of_one, nothing_after}
use Rattle.std.proofs.lemmas.Grind.{common_steps}
use Rattle.text_readers.proofs.lines.first_line.Goals as goal

pub returns-in-Some-clause-line : goal.returns-in-Some-clause-line
returns-in-Some-clause-line c =
    let h = lines_of_parts (take c.in-Some.at c.args.text.now) c.args.text.now (drop (c.in-Some.at + 1) c.args.text.now) (slice_split_here (λ b. b == 10) c.args.text.now c.in-Some.at (sym c.in-Some.ensures)) in
    grind (arith, common_steps, h)

pub returns-in-None-clause-line : goal.returns-in-None-clause-line
returns-in-None-clause-line c =
    let h = lines_of_one c.args.text.now c.requires (slice_split_nowhere (λ b. b == 10) c.args.text.now (sym c.in-None.ensures)) in rw (nothing_after c.args.text.now) h
