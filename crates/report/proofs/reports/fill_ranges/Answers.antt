-- One range more.
use Rattle.std.proofs.Common.{rules}
use Rattle.report.proofs.Reading.{filled_more}
use Rattle.report.proofs.reports.fill_ranges.Goals as goal

pub filling-preserved : goal.filling-preserved
filling-preserved c = record {
  filled = filled_more c.args.bytes.now c.args.place c.filling.k c.filling.list c.range_at.result (search rules) c.range_at.ensures c.filling.invariant.filled;
  long = search rules;
}
