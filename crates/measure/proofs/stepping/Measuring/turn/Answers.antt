-- What the port answered is taken in; and where the history was full, others alone have acted.
use Rattle.std.proofs.Common.{ap, sym, ◌∙◌, ◌∷◌}
use Rattle.measure.proofs.stepping.Measuring.turn.Goals as goal

pub returns-in-Done-clause-turned : goal.returns-in-Done-clause-turned
returns-in-Done-clause-turned g c =
    let w = g.P.Viewed.world c.args.port.now in
    let a = c.in-Done.ensures.asked in
    let s = c.requires.stands in
    let t = c.told.ensures.takes w s.0 s.1 (g.P.Viewed.seen c.args.port.now) (g.P.Viewed.seen c.ask.new.port) c.shape-shape.ensures.shape a.next a.missed s.2 a.whole
    (record { adds = a.stepped.0; here = a.stepped.1; legal = rw c.in-Done.ensures.port.world at c.in-Done.ensures.legal; holds = a.holds }) in
    (a.next, a.whole ∙ ap (λ l. a.next ∷ l) (sym t.1), a.stepped)

pub returns-in-Full-clause-stands : goal.returns-in-Full-clause-stands
returns-in-Full-clause-stands g c = λ d first s.
    c.measuring_stands.ensures.followed c.args.key.now (g.P.Viewed.world c.args.port.now) d first (g.P.Viewed.seen c.args.port.now) (g.P.Viewed.seen c.ask.new.port) c.args.self.now s
    (rw c.in-Full.ensures.port.world at c.in-Full.ensures.legal) c.in-Full.ensures.asked.stepped.0
