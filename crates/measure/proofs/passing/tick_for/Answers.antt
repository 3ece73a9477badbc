-- One Tick more, or a full history.
use Rattle.std.proofs.Common.{rules, ◌∙◌}
use Rattle.chronicle.specs.Ports.{IsMeasurer}
use Rattle.measure.proofs.Parts.{own_adds, ticks_full, ticks_next}
use Rattle.history.specs.declared.events.Act.TheVariants.{Tick}
use Rattle.measure.proofs.passing.tick_for.Goals as goal

pub tick-requires : goal.tick-requires
tick-requires g c = record { actor = (c.ticking.invariant.port.low ∙ c.requires.actor.0, c.ticking.invariant.port.high ∙ c.requires.actor.1) }

pub returns-in-Full-clause-ticked : goal.returns-in-Full-clause-ticked
returns-in-Full-clause-ticked g c =
    let i = c.ticking.invariant in
    ticks_full c.answers_make.ensures.more c.answers_make.ensures.others (g.P.Viewed.world c.args.port.now)
    (g.P.Viewed.low c.ticking.port) (g.P.Viewed.high c.ticking.port) (i.port.low ∙ c.requires.actor.0, i.port.high ∙ c.requires.actor.1)
    (g.P.Viewed.seen c.args.port.now) (g.P.Viewed.seen c.ticking.port) (g.P.Viewed.seen c.tick.new.self) c.args.count c.ticking.counter c.in-Full.place
    c.ticking-test.true i.made (rw (c.in-Full.ensures.port.world, i.port.world) at c.in-Full.ensures.legal) (rw i.port.world at c.in-Full.ensures.answer)

pub ticking-preserved : goal.ticking-preserved
ticking-preserved g c =
    let i = c.ticking.invariant in
    let m : IsMeasurer (g.P.Viewed.low c.ticking.port) (g.P.Viewed.high c.ticking.port) = (i.port.low ∙ c.requires.actor.0, i.port.high ∙ c.requires.actor.1) in
    let legal = rw (c.in-Done.ensures.port.world, i.port.world) at c.in-Done.ensures.legal in
    record {
      port = record { owner = search rules; world = search rules; low = search rules; high = search rules };
      made = ticks_next c.answers_make.ensures.more c.answers_make.ensures.added (g.P.Viewed.low c.ticking.port) (g.P.Viewed.high c.ticking.port) m
          (g.P.Viewed.seen c.args.port.now) (g.P.Viewed.seen c.ticking.port) (g.P.Viewed.seen c.tick.new.self) c.ticking.counter i.made c.in-Done.ensures.answer.0;
      keeps = c.answers_keep.ensures.more (g.P.Viewed.world c.args.port.now) (g.P.Viewed.seen c.args.port.now) (g.P.Viewed.seen c.ticking.port) (g.P.Viewed.seen c.tick.new.self) i.keeps
          (c.answers_keep.ensures.tick (g.P.Viewed.world c.args.port.now) (g.P.Viewed.seen c.ticking.port) (g.P.Viewed.seen c.tick.new.self) legal
          (own_adds (g.P.Viewed.low c.ticking.port) (g.P.Viewed.high c.ticking.port) m (g.P.Viewed.seen c.ticking.port) (g.P.Viewed.seen c.tick.new.self) Tick c.in-Done.ensures.answer.0));
    }
