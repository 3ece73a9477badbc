use Rattle.std.proofs.Common.{take, Some, refl, ap, arith}
use Rattle.std.proofs.lemmas.List.{take_rest}
use Rattle.asm_lines.specs.Cuts.{is_symbol}
use Rattle.asm_lines.proofs.Symbols.{no_label_alone, no_label_other, label_if, label_ends, absent, present}
use Rattle.asm_lines.proofs.cuts.leading_label.Goals as goal

pub returns-then-end-text-clause-name : goal.returns-then-end-text-clause-name
returns-then-end-text-clause-name c = rw (no_label_alone c.args.text.now c.name_end-end.result c.name_end-end.ensures.place c.if-end-text.true) refl

pub returns-then-end-text-clause-rest : goal.returns-then-end-text-clause-rest
returns-then-end-text-clause-rest c = rw (no_label_alone c.args.text.now c.name_end-end.result c.name_end-end.ensures.place c.if-end-text.true) refl

pub returns-then-text-end-ne58-clause-name : goal.returns-then-text-end-ne58-clause-name
returns-then-text-end-ne58-clause-name c = rw (no_label_other c.args.text.now c.name_end-end.result c.name_end-end.ensures.place (omega arith) c.if-text-end-ne58.true) refl

pub returns-then-text-end-ne58-clause-rest : goal.returns-then-text-end-ne58-clause-rest
returns-then-text-end-ne58-clause-rest c = rw (no_label_other c.args.text.now c.name_end-end.result c.name_end-end.ensures.place (omega arith) c.if-text-end-ne58.true) refl

pub returns-in-None-clause-name : goal.returns-in-None-clause-name
returns-in-None-clause-name c =
    rw (label_if c.args.text.now c.name_end-end.result c.name_end-end.ensures.place (omega arith) c.if-text-end-ne58.false)
    (absent (is_symbol (take c.name_end-end.result c.args.text.now)) _ _ c.in-None.ensures)

pub returns-in-None-clause-rest : goal.returns-in-None-clause-rest
returns-in-None-clause-rest c =
    rw (label_if c.args.text.now c.name_end-end.result c.name_end-end.ensures.place (omega arith) c.if-text-end-ne58.false)
    (absent (is_symbol (take c.name_end-end.result c.args.text.now)) _ _ c.in-None.ensures)

pub returns-in-Some-clause-name : goal.returns-in-Some-clause-name
returns-in-Some-clause-name c =
    let named = present (is_symbol (take c.name_end-end.result c.args.text.now)) _ _ c.in-Some.ensures in
    rw (
      label_if c.args.text.now c.name_end-end.result c.name_end-end.ensures.place (omega arith) c.if-text-end-ne58.false,
      named.0,
      label_ends c.args.text.now c.name_end-end.result c.name_end-end.ensures.place (omega arith) c.if-text-end-ne58.false,
    ) (ap (λ t. Some t) named.1)

pub returns-in-Some-clause-rest : goal.returns-in-Some-clause-rest
returns-in-Some-clause-rest c =
    let named = present (is_symbol (take c.name_end-end.result c.args.text.now)) _ _ c.in-Some.ensures in
    rw (
      label_if c.args.text.now c.name_end-end.result c.name_end-end.ensures.place (omega arith) c.if-text-end-ne58.false,
      named.0,
      label_ends c.args.text.now c.name_end-end.result c.name_end-end.ensures.place (omega arith) c.if-text-end-ne58.false,
      take_rest,
    ) refl
