-- The pass has one place of each kind, and any one instant fixes the tag.
use Rattle.device.proofs.OneReport.{one_report, one_note}
use Rattle.device.proofs.outcome_laws.one_report.Goals as goal

pub returns : goal.returns
returns c = record {
  reports = one_report c.passes_end_once.ensures.ends c.passes_end_once.ensures.released;
  notes = one_note c.passes_end_once.ensures.releases;
}
