-- The report is at the place of End.
use Rattle.std.proofs.Common.{sym, subst}
use Rattle.measure.specs.declared.passing.Attested.TheVariants as attested
use Rattle.measure.specs.Passing.{IsEnded}
use Rattle.measure.proofs.Closing.{ended_on}
use Rattle.measure.proofs.passing.end_pass.Goals as goal

pub returns-clause-ended : goal.returns-clause-ended
returns-clause-ended g c = λ key stands.
    subst (λ r. IsEnded key (g.P.Viewed.world c.args.port.now) c.args.passing (g.P.Viewed.seen c.args.port.now) (g.P.Viewed.seen c.end.new.self) (attested.Ended r)) (sym c.report_at.ensures.report)
    (ended_on c.answers_make.ensures.added c.steps_of_a_pass.ensures.ends key (g.P.Viewed.world c.args.port.now) (g.P.Viewed.low c.args.port.now) (g.P.Viewed.high c.args.port.now) c.requires.actor
    (g.P.Viewed.seen c.args.port.now) (g.P.Viewed.seen c.end.new.self) c.args.passing c.in-Done.place c.report_at.result.tag
    (rw c.in-Done.ensures.port.world at c.in-Done.ensures.legal) c.in-Done.ensures.answer c.requires.passing (c.report_at.ensures.tag key _ stands))
