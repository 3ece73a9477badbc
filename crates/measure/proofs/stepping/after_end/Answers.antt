-- The report is the one at the place of End.
use Rattle.std.proofs.Common.{◌≡◌, true, false, rules}
use Rattle.history.specs.Pass.{is_extended}
use Rattle.measure.specs.Passing.{report_with}
use Rattle.measure.proofs.Turns.{after_extended, after_plain}
use Rattle.measure.proofs.stepping.after_end.Goals as goal

pub returns-then-extended : goal.returns-then-extended
returns-then-extended c =
    let extended : is_extended c.args.challenge.now.discipline ≡ true = search rules in (
      c.report_at-report.result.tag,
      after_extended c.args.challenge.now (report_with c.args.passing c.args.place c.report_at-report.result.tag) c.report_at-report.result extended c.report_at-report.ensures.report,
      c.report_at-report.ensures.tag,
    )

pub returns : goal.returns
returns c =
    let plain : is_extended c.args.challenge.now.discipline ≡ false = search rules in (
      c.report_at-report.result.tag,
      after_plain c.args.challenge.now (report_with c.args.passing c.args.place c.report_at-report.result.tag) c.report_at-report.result plain c.report_at-report.ensures.report,
      c.report_at-report.ensures.tag,
    )
