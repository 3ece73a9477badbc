-- What reading answers is what the bytes are.
use Rattle.std.proofs.Common.{rules, arith, ◌≡◌, None}
use Rattle.report.specs.Notes.{note_in}
use Rattle.report.proofs.NoteBytes.{reading_of}
use Rattle.report.proofs.notes.read_note.Goals as goal

pub returns-then-bytes-ne-NOTE_BYTES-clause-reading : goal.returns-then-bytes-ne-NOTE_BYTES-clause-reading
unfolding note_in
returns-then-bytes-ne-NOTE_BYTES-clause-reading c =
    let value : None ≡ note_in c.args.bytes.now = search rules in
    reading_of c.args.bytes.now None (λ i. omega (arith, c.type_inv.bytes i)) value

pub returns-clause-reading : goal.returns-clause-reading
unfolding note_in
returns-clause-reading c =
    let value : c.if_note.result ≡ note_in c.args.bytes.now = search rules in
    reading_of c.args.bytes.now c.if_note.result (λ i. omega (arith, c.type_inv.bytes i)) value
