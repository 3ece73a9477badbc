-- One entry too many.
use Rattle.std.proofs.Common.{◌+◌, ◌++◌, sym, ap, ◌∙◌, arith}
use Rattle.trace.specs.Text.{text_of_lines, head_lines, image_lines}
use Rattle.trace.proofs.Entries.{leaves_entries, no_entry_ends}
use Rattle.trace.proofs.text_reading.read_entries.Goals as goal

pub returns-then-count-ge-MOST_ENTRIES-clause-fault : goal.returns-then-count-ge-MOST_ENTRIES-clause-fault
returns-then-count-ge-MOST_ENTRIES-clause-fault c = λ w whole s line is.
    let kept = c.loop-entry.invariant in
    let es = c.loop-entry.entries.items in
    let found = c.in-Some.ensures.found in
    let full = c.if-count-ge-MOST_ENTRIES.true in
    let count = c.len-count.ensures in
    leaves_entries w whole c.loop-entry.left.now es s kept.printable kept.few (is ∙ ap (λ t. text_of_lines (head_lines w ++ image_lines w.image) ++ t) kept.spelled)
    (λ e t p fewer stands. omega (arith, fewer, full, count))
    (λ r ends. no_entry_ends c.in-Some.entry es c.in-Some.rest.now r found.0 (sym found.1 ∙ ends))
    (c.args.line + c.len-count.result) (omega (arith, line, count))
