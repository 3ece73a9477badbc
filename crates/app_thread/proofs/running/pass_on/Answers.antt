-- A store that waits once more.
use Rattle.std.proofs.Common.{◌∙◌, arith}
use Rattle.app_thread.proofs.Waited.{asked_again, waited_still}
use Rattle.app_thread.specs.declared.turns.Turn.TheVariants.{Full, Made, Over}
use Rattle.app_thread.proofs.running.pass_on.Goals as goal

pub asking-preserved : goal.asking-preserved
asking-preserved g c =
    let i = c.asking.invariant in
    let p = c.in-Again.ensures.port in
    let laws = c.runs_compose.ensures in
    let asked =
    asked_again laws.more laws.turn laws.waits laws.waits_later laws.waits_earlier (g.P.Viewed.world c.args.port.now) (g.P.Viewed.world c.asking.port) (g.P.Viewed.low c.args.port.now) (g.P.Viewed.low c.asking.port) (g.P.Viewed.high c.args.port.now) (g.P.Viewed.high c.asking.port)
    (g.P.Viewed.seen c.args.port.now) (g.P.Viewed.seen c.asking.port) (g.P.Viewed.seen c.turn.new.port) c.args.app.now c.asking.app c.turn.new.self c.in-Again.place
    c.asking.waits.count c.asking.waits.last c.one.result.count c.one.result.last c.and-waits.result.count c.and-waits.result.last
    (omega (arith, c.requires.actor.2)) i.port.world i.port.low i.port.high i.app c.in-Again.ensures.turn i.gone i.waited c.one.ensures.0 c.one.ensures.1
    (record { none = c.and-waits.ensures.none; one = c.and-waits.ensures.last; counts = c.and-waits.ensures.count }) in
    record {
      port = record {
        owner = p.owner ∙ i.port.owner;
        world = p.world ∙ i.port.world;
        low = p.low ∙ i.port.low;
        high = p.high ∙ i.port.high;
      };
      app = asked.app;
      legal = λ was. asked.legal;
      gone = asked.gone;
      waited = asked.waited;
    }

pub returns-in-Made-clause-waits : goal.returns-in-Made-clause-waits
returns-in-Made-clause-waits g c =
    let i = c.asking.invariant in
    waited_still c.runs_compose.ensures.turn c.runs_compose.ensures.waits_later (g.P.Viewed.world c.args.port.now) (g.P.Viewed.world c.asking.port) (g.P.Viewed.low c.args.port.now) (g.P.Viewed.low c.asking.port) (g.P.Viewed.high c.args.port.now) (g.P.Viewed.high c.asking.port)
    (g.P.Viewed.seen c.args.port.now) (g.P.Viewed.seen c.asking.port) (g.P.Viewed.seen c.turn.new.port) c.args.app.now c.asking.app c.turn.new.self (Made c.in-Made.kind c.in-Made.place) c.asking.waits.count c.asking.waits.last
    (omega (arith, c.requires.actor.2)) i.port.world i.port.low i.port.high c.in-Made.ensures.turn i.waited

pub returns-in-Over-clause-waits : goal.returns-in-Over-clause-waits
returns-in-Over-clause-waits g c =
    let i = c.asking.invariant in
    waited_still c.runs_compose.ensures.turn c.runs_compose.ensures.waits_later (g.P.Viewed.world c.args.port.now) (g.P.Viewed.world c.asking.port) (g.P.Viewed.low c.args.port.now) (g.P.Viewed.low c.asking.port) (g.P.Viewed.high c.args.port.now) (g.P.Viewed.high c.asking.port)
    (g.P.Viewed.seen c.args.port.now) (g.P.Viewed.seen c.asking.port) (g.P.Viewed.seen c.turn.new.port) c.args.app.now c.asking.app c.turn.new.self (Over c.in-Over.ending) c.asking.waits.count c.asking.waits.last
    (omega (arith, c.requires.actor.2)) i.port.world i.port.low i.port.high c.in-Over.ensures.turn i.waited

pub returns-in-Full-clause-waits : goal.returns-in-Full-clause-waits
returns-in-Full-clause-waits g c =
    let i = c.asking.invariant in
    waited_still c.runs_compose.ensures.turn c.runs_compose.ensures.waits_later (g.P.Viewed.world c.args.port.now) (g.P.Viewed.world c.asking.port) (g.P.Viewed.low c.args.port.now) (g.P.Viewed.low c.asking.port) (g.P.Viewed.high c.args.port.now) (g.P.Viewed.high c.asking.port)
    (g.P.Viewed.seen c.args.port.now) (g.P.Viewed.seen c.asking.port) (g.P.Viewed.seen c.turn.new.port) c.args.app.now c.asking.app c.turn.new.self (Full c.in-Full.place) c.asking.waits.count c.asking.waits.last
    (omega (arith, c.requires.actor.2)) i.port.world i.port.low i.port.high c.in-Full.ensures.turn i.waited
