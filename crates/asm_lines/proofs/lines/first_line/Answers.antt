use Rattle.std.proofs.Common.{◌∷◌, ap, sym, ◌∙◌}
use Rattle.asm_lines.specs.Lines.{source_lines}
use Rattle.asm_lines.proofs.Splits.{lines_of_parts, lines_of_one, nothing_after}
use Rattle.asm_lines.proofs.lines.first_line.Goals as goal

pub returns-in-Some-clause-line : goal.returns-in-Some-clause-line
returns-in-Some-clause-line c =
    lines_of_parts c.in-Some.line.now c.args.text.now c.in-Some.rest.now c.in-Some.ensures.parts
    ∙ ap (λ line. line ∷ source_lines c.in-Some.rest.now) (sym c.without_cr.ensures)

pub returns-in-None-clause-line : goal.returns-in-None-clause-line
returns-in-None-clause-line c = rw (nothing_after c.args.text.now) (lines_of_one c.args.text.now c.requires c.in-None.ensures.parts)
