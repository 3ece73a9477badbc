use Rattle.std.proofs.Common.{refl}
use Rattle.report.specs.Reports.{report_in}
use Rattle.report.proofs.Reading.{TestsTell, no_one_range, one_report, one_spelling, reading_of, report_again, report_size}
use Rattle.report.proofs.reports.one_report.Goals as goal

pub returns : goal.returns
returns c =
    let laws : TestsTell = record { layout = c.layouts_are_tested.ensures.is; layout_tested = c.layouts_are_tested.ensures.tested; ranges = c.ranges_are_tested.ensures.is; ranges_tested = c.ranges_are_tested.ensures.tested } in
    record {
      value = one_report laws;
      spelling = one_spelling;
      size = report_size;
      read = λ bytes fits. reading_of laws bytes (report_in bytes) fits refl;
      again = report_again laws;
      one_range = no_one_range laws;
    }
