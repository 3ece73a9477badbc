-- What is written is read again.
use Rattle.std.proofs.Common.{rules, ◌≡◌, ◌++◌, [], ap, ◌∙◌}
use Rattle.report.specs.Notes.{FitsNote, note_bytes, note_in}
use Rattle.report.proofs.NoteBytes.{note_again}
use Rattle.report.proofs.notes.write_note.Goals as goal

pub returns-clause-again : goal.returns-clause-again
unfolding note_bytes
returns-clause-again c =
    let fits : FitsNote c.args.note.now = record { counter = search rules; start = search rules; end = search rules; release = search rules; tag = search rules } in
    let value : c.copy_from_slice-2.new.self ++ (c.copy_from_slice.new.self ++ []) ≡ note_bytes c.args.note.now = search rules in
    ap note_in value ∙ note_again c.args.note.now c.requires fits
