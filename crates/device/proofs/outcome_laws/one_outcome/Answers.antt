-- A program reads its entries to one place; and the measurer's acts say which measurement came how far.
use Rattle.device.proofs.OneOutcome.{one_pass_ends, same_app_ends, same_with_waits}
use Rattle.device.proofs.outcome_laws.one_outcome.Goals as goal

pub returns : goal.returns
returns c = record {
  apps = same_app_ends;
  apps_with_waits = same_with_waits;
  passes = one_pass_ends c.counters_start_once.ensures c.one_report.ensures.reports c.one_report.ensures.notes;
}
