use Rattle.std.proofs.Common.{sym, ◌∙◌}
use Rattle.trace.proofs.Confirms.{bytes_tell}
use Rattle.trace.proofs.index.Index.confirm.Goals as goal

pub returns-in-Some-clause-tells : goal.returns-in-Some-clause-tells
returns-in-Some-clause-tells c = λ legal yes.
    bytes_tell c.args.key.now c.args.self.now.world c.args.self.now.entries c.args.report.now c.in-Some.report c.copied_is_memory.ensures c.confirm_report.ensures.setting c.in-Some.ensures.reading legal (sym c.confirm_report.ensures.answer ∙ yes)
