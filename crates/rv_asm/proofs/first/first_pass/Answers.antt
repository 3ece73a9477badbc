use Rattle.std.proofs.Common.{◌+◌, ◌++◌, Some, unwrap_or, append_assoc, ap, sym, ◌∙◌, arith}
use Rattle.std.specs.Option.{option_map}
use Rattle.asm_lines.specs.Cuts.{line_of, nothing_said}
use Rattle.asm_lines.specs.Lines.{source_lines}
use Rattle.rv_asm.specs.First.{first_pass_place}
use Rattle.rv_asm.specs.Kept.{kept_orders, kept_here, kept_from, order_said}
use Rattle.rv_asm.proofs.Lines.{first_more, first_stops_at, kept_more, lines_more, empty_said}
use Rattle.rv_asm.proofs.first.first_pass.Goals as goal

pub returns-in-Err-clause-place : goal.returns-in-Err-clause-place
returns-in-Err-clause-place c =
    rw c.fault_at.ensures (first_stops_at (first_pass_place c.lines.place) c.lines.number c.lines.rest.now c.in-Some-next_line.after.now (option_map line_of c.in-Some-next_line.parsed) c.in-Err.stop _
    c.lines.invariant.read c.in-Some-next_line.ensures.line c.in-Err.ensures.moved)

pub lines-preserved : goal.lines-preserved
lines-preserved c =
    let place = first_pass_place c.lines.place in
    let next = first_pass_place c.read_line.new.place in
    let said = option_map line_of c.in-Some-next_line.parsed in
    let left = kept_from next (c.lines.number + 1) (source_lines c.in-Some-next_line.after.now) in
    let here = kept_here c.lines.number (unwrap_or place.next 0) (order_said said) in
    let more = lines_more c.lines.rest.now c.in-Some-next_line.after.now said c.in-Some-next_line.ensures.line in
    record {
      read = first_more place next c.lines.number c.lines.rest.now c.in-Some-next_line.after.now said c.in-Some-next_line.ensures.line c.in-Ok.ensures.moved ∙ c.lines.invariant.read;
      kept =
          ap (λ k. k ++ left) c.in-Ok.ensures.kept ∙ append_assoc (kept_orders c.lines.kept.items) here left
          ∙ ap (λ k. kept_orders c.lines.kept.items ++ k) (sym (kept_more place next c.lines.number c.lines.rest.now c.in-Some-next_line.after.now said c.in-Some-next_line.ensures.line c.in-Ok.ensures.moved))
          ∙ c.lines.invariant.kept;
      count = omega (arith, more, c.lines.invariant.count);
      fits = omega (arith, c.in-Some-next_line.ensures.shorter, c.lines.invariant.fits);
    }

pub lines-preserved-in-Some : goal.lines-preserved-in-Some
lines-preserved-in-Some c =
    let place = first_pass_place c.lines.place in
    let said = Some nothing_said in
    let more = lines_more c.lines.rest.now c.in-Some.after.now said c.in-Some.ensures.line in
    record {
      read = first_more place place c.lines.number c.lines.rest.now c.in-Some.after.now said c.in-Some.ensures.line (empty_said place) ∙ c.lines.invariant.read;
      kept =
          ap (λ k. kept_orders c.lines.kept.items ++ k) (sym (kept_more place place c.lines.number c.lines.rest.now c.in-Some.after.now said c.in-Some.ensures.line (empty_said place)))
          ∙ c.lines.invariant.kept;
      count = omega (arith, more, c.lines.invariant.count);
      fits = omega (arith, c.in-Some.ensures.shorter, c.lines.invariant.fits);
    }
