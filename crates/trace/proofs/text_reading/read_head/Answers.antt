-- No such line stands there, or one of a world that a device can't have.
use Rattle.std.proofs.Common.{◌≡◌, ◌≤◌, ◌++◌, ◌∷◌, drop, sym, ap, ◌∙◌, arith}
use Rattle.std.specs.Prelude.{nat_lt}
use Rattle.history.specs.Attested.{last_end}
use Rattle.chronicle.specs.Settings.{setting_of}
use Rattle.trace.specs.Text.{text_of_lines, memory_line, attest_line, head_lines, version_line}
use Rattle.trace.proofs.OneTrace.{ranges_low, ranges_front}
use Rattle.trace.proofs.Begun.{leaves_3, leaves_4, head_is, word_fits, word_says, same_truth, other_truth}
use Rattle.trace.proofs.text_reading.read_head.Goals as goal

pub returns-in-None-clause-fault : goal.returns-in-None-clause-fault
returns-in-None-clause-fault c =
    let read = c.in-Ok in
    leaves_3 read.found.0 read.found.1 c.args.text.now read.found.2.now read.ensures.layout read.ensures.room read.ensures.found (λ ranges rest are inside word is. c.in-None.ensures.none ranges rest are is)

pub returns-then-count-several-clause-fault : goal.returns-then-count-several-clause-fault
returns-then-count-several-clause-fault c =
    let read = c.in-Ok in
    let ranges = c.in-Some.found.0 in
    let are = c.in-Some.ensures.ranges in
    leaves_3 read.found.0 read.found.1 c.args.text.now read.found.2.now read.ensures.layout read.ensures.room read.ensures.found (λ others rest are_others inside word is.
    let same = ranges_front others ranges rest c.in-Some.found.1.now (ranges_low others are_others.apart are_others.low) (ranges_low ranges are.apart are.low) (ap (drop 6) (sym is ∙ c.in-Some.ensures.found)) in
    other_truth (nat_lt 1 c.count.result) read.found.0 c.if-count-several.true (word_says read.found.0 ranges c.count.result c.count.ensures.value are (ap version_line (sym same.0) ∙ word)))

pub returns-then-end-blocks-clause-fault : goal.returns-then-end-blocks-clause-fault
returns-then-end-blocks-clause-fault c =
    let read = c.in-Ok in
    let ranges = c.in-Some.found.0 in
    let are = c.in-Some.ensures.ranges in
    leaves_3 read.found.0 read.found.1 c.args.text.now read.found.2.now read.ensures.layout read.ensures.room read.ensures.found (λ others rest are_others inside word is.
    let same = ranges_front others ranges rest c.in-Some.found.1.now (ranges_low others are_others.apart are_others.low) (ranges_low ranges are.apart are.low) (ap (drop 6) (sym is ∙ c.in-Some.ensures.found)) in
    absurd (omega (arith, inside, ap last_end same.0, c.if-end-blocks.true, c.end.ensures.value, c.blocks-2.ensures.value)))

pub returns-in_default-clause-fault : goal.returns-in_default-clause-fault
returns-in_default-clause-fault c =
    let read = c.in-Ok in
    let ranges = c.in-Some.found.0 in
    let are = c.in-Some.ensures.ranges in
    let inside : last_end ranges ≤ read.found.1.blocks = omega (arith, c.if-end-blocks.false, c.end.ensures.value, c.blocks-2.ensures.value) in
    let spelled = read.ensures.found ∙ ap (λ v. v ++ 10 ∷ (memory_line read.found.1 ++ 10 ∷ read.found.2.now)) (word_fits read.found.0 ranges c.count.result c.count.ensures.value are (same_truth (nat_lt 1 c.count.result) read.found.0 c.if-count-several.false)) ∙ ap (λ t. version_line ranges ++ 10 ∷ (memory_line read.found.1 ++ 10 ∷ t)) c.in-Some.ensures.found in
    leaves_4 read.found.1 ranges c.args.text.now c.in-Some.found.1.now read.ensures.layout are inside spelled c.in_default.ensures.none

pub returns-clause-found : goal.returns-clause-found
returns-clause-found c = λ image.
    let read = c.in-Ok in
    let ranges = c.in-Some.found.0 in
    let are = c.in-Some.ensures.ranges in
    let last = c.in-Some-cap_line in
    let spelled = read.ensures.found ∙ ap (λ v. v ++ 10 ∷ (memory_line read.found.1 ++ 10 ∷ read.found.2.now)) (word_fits read.found.0 ranges c.count.result c.count.ensures.value are (same_truth (nat_lt 1 c.count.result) read.found.0 c.if-count-several.false)) ∙ ap (λ t. version_line ranges ++ 10 ∷ (memory_line read.found.1 ++ 10 ∷ t)) (c.in-Some.ensures.found ∙ ap (λ t. attest_line ranges ++ 10 ∷ t) last.ensures.found) in
    let whole : c.args.text.now ≡ text_of_lines (head_lines (setting_of read.found.1 ranges image last.cap)) ++ last.rest.now = head_is read.found.1 ranges image last.cap c.args.text.now last.rest.now spelled in
    whole
