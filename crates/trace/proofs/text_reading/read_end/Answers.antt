-- The last line isn't the end's, or isn't the last.
use Rattle.std.proofs.Common.{◌+◌, ◌<◌, ◌++◌, ◌∷◌, length, sym, ap, ◌∙◌, arith, inl, inr}
use Rattle.std.proofs.lemmas.Bool.{eqb-false, cases_lt}
use Rattle.trace.proofs.Entries.{leaves_entries, leaves_end, end_is}
use Rattle.trace.proofs.text_reading.read_end.Goals as goal

pub returns-in_default-clause-fault : goal.returns-in_default-clause-fault
returns-in_default-clause-fault c = λ w es whole s printable few count line is none.
    leaves_entries w whole c.args.text.now es s printable few is
    (λ e t p fewer stands. none e t p stands)
    (λ r ends. c.in_default.ensures.none r (ends ∙ ap (λ l. l ++ 10 ∷ r) (sym (end_is es c.args.count count))))
    c.args.line (omega (arith, line, count))

pub returns-then-not-is_empty-clause-fault : goal.returns-then-not-is_empty-clause-fault
returns-then-not-is_empty-clause-fault c = λ w es whole s printable few count line is none.
    let rest = c.in-Some.rest.now in
    let longer = eqb-false (length rest) 0 (sym c.is_empty.ensures ∙ c.if-not-is_empty.true) in
    let some : 0 < length rest = elim (cases_lt 0 (length rest)) [
      | inl some ↦ some
      | inr none ↦ absurd (longer (omega (arith, none)))
    ] in
    leaves_end w whole c.args.text.now rest es s printable few is
    (c.in-Some.ensures.found ∙ ap (λ l. l ++ 10 ∷ rest) (end_is es c.args.count count)) some
    (c.args.line + 1) (omega (arith, line, count))
