use Rattle.std.proofs.Common.{◌≡◌, length, take}
use Rattle.report.specs.Reports.{ranges_at}
use Rattle.report.proofs.reports.fill_ranges.Given as goal

abbrev pub invariant-filling : goal.invariant-filling
invariant-filling l = record {
  filled : take l.k l.list ≡ ranges_at l.bytes l.place l.k;
  long : length l.list ≡ length l.fn.list;
}
