use Rattle.std.proofs.Common.{◌≡◌, List, [], ◌∷◌, ◌++◌, Some, None, sym, ap, ◌∙◌}
use Rattle.elf32.specs.Files.{FileSegment}
use Rattle.loader.specs.declared.spans.Span.{Span}
use Rattle.loader.specs.Placing.{segment_fault, span, spans}
use Rattle.loader.specs.Placing.Test.{TrySegment}
use Rattle.loader.proofs.InTurn.{next_test, fails_with, outcome_of, segment_passed}
use Rattle.loader.proofs.placing.Placing.segment.Goals as goal

pub returns-in-Some-clause-outcome : goal.returns-in-Some-clause-outcome
returns-in-Some-clause-outcome c = λ done passed.
    let l = c.args.geometry.now in
    let part : FileSegment = record { addr = c.args.part.now.addr; size = c.args.part.now.size; bytes = c.args.part.now.bytes.now } in
    let own = span c.args.app c.args.number part in
    let found : segment_fault l (spans done) own ≡ Some c.in-Some.fault =
    ap (λ (earlier : List Span). segment_fault l earlier own) (sym passed.spans_are ∙ sym c.deref.ensures.value) ∙ sym c.segment_fault.ensures ∙ c.in-Some.is in
    fails_with c.in-Some.fault l (done ++ TrySegment c.args.app c.args.number part ∷ []) (next_test l done (TrySegment c.args.app c.args.number part) passed.sound ∙ found)

pub returns-in-None-clause-outcome : goal.returns-in-None-clause-outcome
returns-in-None-clause-outcome c = λ done passed.
    let l = c.args.geometry.now in
    let part : FileSegment = record { addr = c.args.part.now.addr; size = c.args.part.now.size; bytes = c.args.part.now.bytes.now } in
    let own = span c.args.app c.args.number part in
    let free : segment_fault l (spans done) own ≡ None =
    ap (λ (earlier : List Span). segment_fault l earlier own) (sym passed.spans_are ∙ sym c.deref.ensures.value) ∙ sym c.segment_fault.ensures ∙ c.in-None.is in
    outcome_of l (done ++ TrySegment c.args.app c.args.number part ∷ []) c.put.new.self c.put.result
    (segment_passed l done c.args.app c.args.number part c.args.self.now c.put.new.self c.put.result passed free c.requires.in_range.filled c.put.ensures.spans c.put.ensures.entries c.put.ensures.image)
    c.put.ensures.err
