-- What is written is read again.
use Rattle.std.proofs.Common.{rules, ap, ◌∙◌, ◌≡◌}
use Rattle.report.specs.Reports.{FitsReport, report_bytes, report_in}
use Rattle.report.proofs.Reading.{TestsTell, report_again}
use Rattle.report.proofs.reports.write_report.Goals as goal

pub returns-clause-again : goal.returns-clause-again
unfolding report_bytes
returns-clause-again c =
    let laws : TestsTell = record { layout = c.layouts_are_tested.ensures.is; layout_tested = c.layouts_are_tested.ensures.tested; ranges = c.ranges_are_tested.ensures.is; ranges_tested = c.ranges_are_tested.ensures.tested } in
    let r = c.args.report.now in
    let fits : FitsReport r = record { counter = search rules; nonce = search rules; base = search rules; size = search rules; start = search rules; end = search rules; tag = search rules } in
    let value : c.append-3.new.bytes.items ≡ report_bytes r = search rules in
    ap report_in value ∙ report_again laws r c.requires fits
