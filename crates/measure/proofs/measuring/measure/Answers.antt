-- The whole program, with what is known of it at each of its ends.
use Rattle.measure.specs.declared.passing.Attested.TheVariants as attested
use Rattle.measure.specs.declared.passing.Closed.TheVariants as closed
use Rattle.measure.specs.Program.{closing_acts}
use Rattle.measure.specs.Passing.{HasAttested, HasClosed}
use Rattle.measure.proofs.Whole.{lead_full, pass_full, close_full, reported, whole_made}
use Rattle.measure.proofs.measuring.measure.Goals as goal

pub returns-in-Full-clause-measured : goal.returns-in-Full-clause-measured
returns-in-Full-clause-measured g c =
    lead_full c.answers_make.ensures.more (g.P.Viewed.world c.args.port.now) c.args.challenge.now (g.P.Viewed.seen c.args.port.now) (g.P.Viewed.seen c.tick_for.new.port) c.in-Full.place
    (c.answers_make.ensures.none (g.P.Viewed.seen c.args.port.now)) c.in-Full.ensures.ticked

pub returns-in-Full-attest-clause-measured : goal.returns-in-Full-attest-clause-measured
returns-in-Full-attest-clause-measured g c =
    pass_full c.answers_make.ensures.more (g.P.Viewed.world c.args.port.now) c.args.challenge.now (g.P.Viewed.seen c.args.port.now) (g.P.Viewed.seen c.tick_for.new.port) (g.P.Viewed.seen c.attest.new.port)
    c.in-Full-attest.place c.in-Made.ensures.ticked.0 (rw c.tick_for.ensures.port.world at c.in-Full-attest.ensures.attested)

pub returns-in-Over-clause-measured : goal.returns-in-Over-clause-measured
returns-in-Over-clause-measured g c =
    let w = g.P.Viewed.world c.args.port.now in
    let attested : HasAttested c.args.key.now w c.args.challenge.now (g.P.Viewed.seen c.tick_for.new.port) (g.P.Viewed.seen c.attest.new.port) (attested.Ended c.in-Ended.report) = rw c.tick_for.ensures.port.world at c.in-Ended.ensures.attested in
    let closed : HasClosed c.args.key.now w c.args.challenge.now c.in-Ended.report (g.P.Viewed.seen c.attest.new.port) (g.P.Viewed.seen c.close.new.port) closed.Over = rw (c.attest.ensures.port.world, c.tick_for.ensures.port.world) at c.in-Over.ensures.closed in (
      whole_made c.answers_make.ensures.more c.args.key.now w c.args.challenge.now (g.P.Viewed.seen c.args.port.now) (g.P.Viewed.seen c.tick_for.new.port) (g.P.Viewed.seen c.attest.new.port) (g.P.Viewed.seen c.close.new.port)
          c.in-Ended.report c.in-Made.ensures.ticked.0 attested closed.0,
      reported c.reports_stand.ensures.report c.reports_stand.ensures.later c.args.key.now w c.args.challenge.now (g.P.Viewed.seen c.args.port.now) (g.P.Viewed.seen c.tick_for.new.port) (g.P.Viewed.seen c.attest.new.port) (g.P.Viewed.seen c.close.new.port)
          c.in-Ended.report (closing_acts c.args.challenge.now) c.shape-shape.ensures.setting c.in-Made.ensures.ticked.0 attested closed.0 closed.1,
      closed.2,
    )

pub returns-in-Released-clause-measured : goal.returns-in-Released-clause-measured
returns-in-Released-clause-measured g c =
    let w = g.P.Viewed.world c.args.port.now in
    let attested : HasAttested c.args.key.now w c.args.challenge.now (g.P.Viewed.seen c.tick_for.new.port) (g.P.Viewed.seen c.attest.new.port) (attested.Ended c.in-Ended.report) = rw c.tick_for.ensures.port.world at c.in-Ended.ensures.attested in
    let closed : HasClosed c.args.key.now w c.args.challenge.now c.in-Ended.report (g.P.Viewed.seen c.attest.new.port) (g.P.Viewed.seen c.close.new.port) (closed.Released c.in-Released.note) = rw (c.attest.ensures.port.world, c.tick_for.ensures.port.world) at c.in-Released.ensures.closed in (
      whole_made c.answers_make.ensures.more c.args.key.now w c.args.challenge.now (g.P.Viewed.seen c.args.port.now) (g.P.Viewed.seen c.tick_for.new.port) (g.P.Viewed.seen c.attest.new.port) (g.P.Viewed.seen c.close.new.port)
          c.in-Ended.report c.in-Made.ensures.ticked.0 attested closed.0,
      reported c.reports_stand.ensures.report c.reports_stand.ensures.later c.args.key.now w c.args.challenge.now (g.P.Viewed.seen c.args.port.now) (g.P.Viewed.seen c.tick_for.new.port) (g.P.Viewed.seen c.attest.new.port) (g.P.Viewed.seen c.close.new.port)
          c.in-Ended.report (closing_acts c.args.challenge.now) c.shape-shape.ensures.setting c.in-Made.ensures.ticked.0 attested closed.0 closed.1,
      (closed.2, closed.3, closed.4),
    )

pub returns-in-Full-close-clause-measured : goal.returns-in-Full-close-clause-measured
returns-in-Full-close-clause-measured g c =
    let w = g.P.Viewed.world c.args.port.now in
    let attested : HasAttested c.args.key.now w c.args.challenge.now (g.P.Viewed.seen c.tick_for.new.port) (g.P.Viewed.seen c.attest.new.port) (attested.Ended c.in-Ended.report) = rw c.tick_for.ensures.port.world at c.in-Ended.ensures.attested in
    close_full c.answers_make.ensures.more c.reports_stand.ensures.report c.reports_stand.ensures.later c.args.key.now w c.args.challenge.now
    (g.P.Viewed.seen c.args.port.now) (g.P.Viewed.seen c.tick_for.new.port) (g.P.Viewed.seen c.attest.new.port) (g.P.Viewed.seen c.close.new.port)
    c.in-Ended.report c.in-Full-close.place c.shape-shape.ensures.setting c.in-Made.ensures.ticked.0 attested (rw (c.attest.ensures.port.world, c.tick_for.ensures.port.world) at c.in-Full-close.ensures.closed)
