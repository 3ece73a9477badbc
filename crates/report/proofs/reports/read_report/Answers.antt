-- What reading answers is what the bytes are.
use Rattle.std.proofs.Common.{arith, sym, subst}
use Rattle.report.specs.Reports.{IsReportReading}
use Rattle.report.proofs.reports.read_report.Goals as goal

pub returns-clause-reading : goal.returns-clause-reading
returns-clause-reading c = subst (IsReportReading c.args.bytes.now) (sym c.found.ensures) (c.one_report.ensures.read c.args.bytes.now (λ i. omega (arith, c.type_inv.bytes i)))
