-- Each way out is the definition's.
use Rattle.std.proofs.Common.{arith, inl, inr, sym, ap, ◌∙◌}
use Rattle.report.specs.Reports.{if_report}
use Rattle.report.proofs.Reading.{TestsTell, no_such_size, no_discipline, no_ranges, with_discipline}
use Rattle.report.proofs.reports.found.Goals as goal

pub returns-then-bytes-lt-LEAST_REPORT_BYTES : goal.returns-then-bytes-lt-LEAST_REPORT_BYTES
returns-then-bytes-lt-LEAST_REPORT_BYTES c =
    let laws : TestsTell = record { layout = c.layouts_are_tested.ensures.is; layout_tested = c.layouts_are_tested.ensures.tested; ranges = c.ranges_are_tested.ensures.is; ranges_tested = c.ranges_are_tested.ensures.tested } in
    sym (no_such_size laws c.args.bytes.now (λ i. omega (arith, c.type_inv.bytes i)) (inl c.if-bytes-lt-LEAST_REPORT_BYTES.true))

pub returns-then-bytes-gt-MOST_REPORT_BYTES : goal.returns-then-bytes-gt-MOST_REPORT_BYTES
returns-then-bytes-gt-MOST_REPORT_BYTES c =
    let laws : TestsTell = record { layout = c.layouts_are_tested.ensures.is; layout_tested = c.layouts_are_tested.ensures.tested; ranges = c.ranges_are_tested.ensures.is; ranges_tested = c.ranges_are_tested.ensures.tested } in
    sym (no_such_size laws c.args.bytes.now (λ i. omega (arith, c.type_inv.bytes i)) (inr c.if-bytes-gt-MOST_REPORT_BYTES.true))

pub returns-in_default : goal.returns-in_default
returns-in_default c = sym (no_discipline c.args.bytes.now (sym c.discipline_with.ensures ∙ c.in_default.is))

pub returns-in_default-report_ranges : goal.returns-in_default-report_ranges
returns-in_default-report_ranges c =
    let laws : TestsTell = record { layout = c.layouts_are_tested.ensures.is; layout_tested = c.layouts_are_tested.ensures.tested; ranges = c.ranges_are_tested.ensures.is; ranges_tested = c.ranges_are_tested.ensures.tested } in
    sym (no_ranges laws c.args.bytes.now c.in_default-report_ranges.ensures c.discipline_with.result (sym c.discipline_with.ensures))

pub returns : goal.returns
returns c =
    c.if_report.ensures ∙ ap (if_report c.args.bytes.now) c.report_at.ensures ∙ sym (with_discipline c.args.bytes.now c.in-Some.discipline (sym c.discipline_with.ensures ∙ c.in-Some.is))
