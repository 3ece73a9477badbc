-- By one instant of the pass, which the shorter list has too.
use Rattle.measure.proofs.Later.{report_later, note_later}
use Rattle.measure.proofs.standing.measured_stays.Goals as goal

pub returns : goal.returns
returns c = record {
  report = report_later c.copied_is_memory.ensures c.prefixes_are_legal.ensures (λ w history legal form number start end ends. (c.places_of_a_pass.ensures.whole w history legal form number start end ends).1);
  note = note_later;
}
