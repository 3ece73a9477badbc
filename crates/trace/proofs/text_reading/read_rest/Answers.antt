-- The parts of the rest, behind the head and the image.
use Rattle.std.proofs.Common.{◌≡◌, [], ◌∷◌, ◌++◌, length, sym, ap, ◌∙◌, arith}
use Rattle.std.proofs.lemmas.List.{append-nil}
use Rattle.trace.specs.Text.{text_of_lines, entries_text, head_lines, image_lines, end_line}
use Rattle.trace.proofs.Faults.{handed}
use Rattle.trace.proofs.Images.{image_number}
use Rattle.trace.proofs.Entries.{end_is}
use Rattle.trace.specs.Whole.{TellsLine}
use Rattle.trace.proofs.text_reading.read_rest.Goals as goal

pub returns-in_err-entries-clause-fault : goal.returns-in_err-entries-clause-fault
returns-in_err-entries-clause-fault c = λ whole is.
    let w = c.args.world.now in
    let number = image_number w.image in
    let image = ap length c.image.ensures.value in
    handed c.from_residual.result (TellsLine whole) c.in_err-entries.field-0.0 c.from_residual.ensures.1
    (c.in_err-entries.ensures.fault w whole c.image.ensures.setting (omega (arith, number, image)) is)

pub returns-in_err-read_end-clause-fault : goal.returns-in_err-read_end-clause-fault
returns-in_err-read_end-clause-fault c = λ whole is.
    let w = c.args.world.now in
    let read = c.in_ok-entries in
    let number = image_number w.image in
    let image = ap length c.image.ensures.value in
    let count : c.len-count.result ≡ length read.entries.items = omega (arith, c.len-count.ensures, read.entries.ok.0) in
    let spelled = is ∙ ap (λ t. text_of_lines (head_lines w ++ image_lines w.image) ++ t) read.ensures.found in
    handed c.from_residual-in_err-read_end.result (TellsLine whole) c.in_err-read_end.field-0.0 c.from_residual-in_err-read_end.ensures.1
    (c.in_err-read_end.ensures.fault w read.entries.items whole c.image.ensures.setting read.ensures.printable read.ensures.few count (omega (arith, number, image)) spelled read.ensures.last)

pub returns-clause-found : goal.returns-clause-found
returns-clause-found c =
    let es = c.in_ok-entries.entries.items in
    let count : c.len-count.result ≡ length es = omega (arith, c.len-count.ensures, c.in_ok-entries.entries.ok.0) in
    c.in_ok-entries.ensures.found ∙ ap (λ t. entries_text es ++ t) (c.in_ok-read_end.ensures.whole ∙ ap (λ l. l ++ 10 ∷ []) (end_is es c.len-count.result count) ∙ sym (append-nil (end_line es ++ 10 ∷ [])))
