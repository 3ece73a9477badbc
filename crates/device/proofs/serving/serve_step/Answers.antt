-- By what the measurer's port answered, and by how its measurements go on.
use Rattle.std.proofs.Common.{subst}
use Rattle.history.specs.Layout.{IsSetting}
use Rattle.history.specs.Legal.{IsLegal}
use Rattle.device.specs.Keeping.{IsUnfinished}
use Rattle.device.proofs.Served.{served_full, served_made}
use Rattle.device.proofs.serving.serve_step.Goals as goal

pub settle-requires : goal.settle-requires
settle-requires g c =
    let e = c.in-Done.ensures in
    let key = c.args.key.now in
    let w = g.P.Viewed.world c.args.port.now in
    let new = g.P.Viewed.seen c.turn.new.port in
    record {
      standing = (
        key,
        w,
        new,
        served_made c.measured_stays.ensures.report c.measured_stays.ensures.note key w (g.P.Viewed.seen c.args.port.now) new c.args.passes.now c.in-Some.measuring c.turn.new.self c.in-Done.place c.requires.stands.so_far c.in-Some.is c.requires.going
            (subst IsSetting e.port.world e.setting) (subst (λ s. IsLegal s new) e.port.world e.legal) e.turned e.stands,
      );
    }

pub returns-in-Done-clause-stands : goal.returns-in-Done-clause-stands
returns-in-Done-clause-stands g c =
    let e = c.in-Done.ensures in
    let key = c.args.key.now in
    let w = g.P.Viewed.world c.args.port.now in
    let new = g.P.Viewed.seen c.turn.new.port in
    c.settle.ensures.stands key w new (
    served_made c.measured_stays.ensures.report c.measured_stays.ensures.note key w (g.P.Viewed.seen c.args.port.now) new c.args.passes.now c.in-Some.measuring c.turn.new.self c.in-Done.place c.requires.stands.so_far c.in-Some.is c.requires.going
    (subst IsSetting e.port.world e.setting) (subst (λ s. IsLegal s new) e.port.world e.legal) e.turned e.stands)

pub returns-in-Full-clause-stands : goal.returns-in-Full-clause-stands
returns-in-Full-clause-stands g c =
    let e = c.in-Full.ensures in
    let w = g.P.Viewed.world c.args.port.now in
    let new = g.P.Viewed.seen c.turn.new.port in
    served_full c.measured_stays.ensures.report c.measured_stays.ensures.note c.args.key.now w (g.P.Viewed.seen c.args.port.now) new c.args.passes.now c.in-Some.measuring c.turn.new.self c.in-Full.place c.requires.stands.so_far c.in-Some.is (subst IsUnfinished c.in-Some.is c.requires.stands.unfinished)
    (subst IsSetting e.port.world e.setting) (subst (λ s. IsLegal s new) e.port.world e.legal) e.turned e.stands
