use Rattle.std.proofs.Common.{refl}
use Rattle.report.specs.Notes.{note_in}
use Rattle.report.proofs.NoteBytes.{one_note, reading_of}
use Rattle.report.proofs.notes.one_note.Goals as goal

pub returns-clause-value : goal.returns-clause-value
returns-clause-value c = one_note

pub returns-clause-read : goal.returns-clause-read
returns-clause-read c = λ bytes fits. reading_of bytes (note_in bytes) fits refl
