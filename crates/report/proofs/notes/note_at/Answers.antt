-- The fields that the code cuts are those at their places.
use Rattle.std.proofs.Common.{◌∙◌}
use Rattle.std.proofs.lemmas.List.{take_rest}
use Rattle.report.proofs.NoteBytes.{same_note}
use Rattle.report.proofs.notes.note_at.Goals as goal

pub returns : goal.returns
returns c = same_note c.u64_at.result c.u64_at-2.result c.u64_at-3.result c.u64_at-4.result c.copy_from_slice.new.self _ c.u64_at.ensures c.u64_at-2.ensures c.u64_at-3.ensures c.u64_at-4.ensures (c.copy_from_slice.ensures.after ∙ take_rest c.args.bytes.now 40)
