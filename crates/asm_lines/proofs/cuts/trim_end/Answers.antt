use Rattle.std.proofs.Common.{◌≡◌, ◌∙◌, sym, arith}
use Rattle.asm_lines.proofs.Trims.{trim_end-take_blank, trim_end-take_stays}
use Rattle.asm_lines.proofs.cuts.trim_end.Goals as goal
use Rattle.asm_lines.proofs.cuts.trim_end.Goals.{then-loop-end-test+else-is_blank, else-loop-end-test}

pub loop-end-preserved : goal.loop-end-preserved
loop-end-preserved c =
    (trim_end-take_blank c.args.text.now c.loop-end.end (omega arith) c.loop-end.invariant.1 (sym c.is_blank.ensures ∙ c.if-is_blank.true) ∙ c.loop-end.invariant.0, omega arith)

pub returns : goal.returns
returns c = elim c.loop-end-test.branch [
  | then-loop-end-test+else-is_blank w ↦ sym (trim_end-take_stays c.args.text.now c.loop-end.end (omega arith) c.loop-end.invariant.1 (sym w.is_blank.ensures ∙ w.if-is_blank.false)) ∙ c.loop-end.invariant.0
  | else-loop-end-test w ↦ let none : c.loop-end.end ≡ 0 = omega arith in (let e = c.loop-end.invariant.0 in rw none (rw none at e))
]
