-- The sliding-lock fact, at the report's own End.
use Rattle.measure.proofs.Stands.{report_on}
use Rattle.measure.proofs.laws.reports_stand.Goals as goal

pub returns-clause-report : goal.returns-clause-report
returns-clause-report c = report_on c.copied_is_memory.ensures c.places_of_a_pass.ensures.ends c.places_of_a_pass.ensures.end_bytes
