-- The test of the grammar and the comparison are those of the definition.
use Rattle.std.proofs.Common.{rules, ◌≡◌}
use Rattle.report.specs.Reports.{report_bytes}
use Rattle.report.proofs.Reading.{TestsTell, refused, accepted}
use Rattle.report.proofs.reports.if_report.Goals as goal

pub returns-then-not-is_valid : goal.returns-then-not-is_valid
returns-then-not-is_valid c =
    let laws : TestsTell = record { layout = c.layouts_are_tested.ensures.is; layout_tested = c.layouts_are_tested.ensures.tested; ranges = c.ranges_are_tested.ensures.is; ranges_tested = c.ranges_are_tested.ensures.tested } in
    refused laws c.args.bytes.now c.args.report c.is_valid.result c.is_valid.ensures c.if-not-is_valid.true

pub returns : goal.returns
returns c =
    let laws : TestsTell = record { layout = c.layouts_are_tested.ensures.is; layout_tested = c.layouts_are_tested.ensures.tested; ranges = c.ranges_are_tested.ensures.is; ranges_tested = c.ranges_are_tested.ensures.tested } in
    let same : report_bytes c.args.report ≡ c.args.bytes.now = search rules in
    accepted laws c.args.bytes.now c.args.report (c.is_valid.ensures.0 c.if-not-is_valid.false) same
