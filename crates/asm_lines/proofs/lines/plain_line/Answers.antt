use Rattle.std.proofs.Common.{take, sym, ap, ◌∙◌}
use Rattle.std.proofs.lemmas.List.{take_rest}
use Rattle.asm_lines.specs.Cuts.{labelled}
use Rattle.asm_lines.proofs.PlainLines.{plain_front, plain_first, plain_says}
use Rattle.asm_lines.proofs.lines.plain_line.Goals as goal

pub returns-clause-line : goal.returns-clause-line
returns-clause-line c =
    let plain = plain_front c.args.text.now c.in_ok-at.at (sym c.in_ok-at.ensures) in
    record {
      line = take c.in_ok-at.at c.args.text.now;
      first = rw take_rest (plain_first c.args.text.now c.in_ok-at.at plain.0 plain.1 c.if-text-at-ne10.false);
      says = c.labelled.ensures ∙ ap labelled c.trimmed.ensures ∙ plain_says (take c.in_ok-at.at c.args.text.now) plain.1;
    }
