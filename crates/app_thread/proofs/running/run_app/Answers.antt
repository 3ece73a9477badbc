-- One part of the run more.
use Rattle.std.proofs.Common.{◌∙◌}
use Rattle.app_thread.proofs.Waited.{gone_on, legal_on, waited_on}
use Rattle.app_thread.proofs.running.run_app.Goals as goal

pub returns-in-Some-end-clause-waits : goal.returns-in-Some-end-clause-waits
returns-in-Some-end-clause-waits g c =
    let i = c.running.invariant in
    let p = c.pass_on-passage.ensures in
    waited_on c.runs_compose.ensures.waits_later c.runs_compose.ensures.waits_earlier (g.P.Viewed.world c.args.port.now) (g.P.Viewed.world c.running.port) (g.P.Viewed.low c.args.port.now) (g.P.Viewed.low c.running.port) (g.P.Viewed.high c.args.port.now) (g.P.Viewed.high c.running.port)
    (g.P.Viewed.seen c.args.port.now) (g.P.Viewed.seen c.running.port) (g.P.Viewed.seen c.pass_on-passage.new.port) c.args.app.now c.running.app c.pass_on-passage.new.app
    c.running.waits.count c.running.waits.last c.pass_on-passage.result.waits.count c.pass_on-passage.result.waits.last c.and-waits.result.count c.and-waits.result.last
    i.port.world i.port.low i.port.high i.gone p.gone i.waited p.waits (record { none = c.and-waits.ensures.none; one = c.and-waits.ensures.last; counts = c.and-waits.ensures.count })

pub running-preserved : goal.running-preserved
running-preserved g c =
    let i = c.running.invariant in
    let p = c.pass_on-passage.ensures in
    record {
      port = record {
        owner = p.port.owner ∙ i.port.owner;
        world = p.port.world ∙ i.port.world;
        low = p.port.low ∙ i.port.low;
        high = p.port.high ∙ i.port.high;
      };
      layout = p.layout ∙ i.layout;
      legal = legal_on (g.P.Viewed.world c.args.port.now) (g.P.Viewed.world c.running.port) (g.P.Viewed.seen c.args.port.now) (g.P.Viewed.seen c.running.port) (g.P.Viewed.seen c.pass_on-passage.new.port) i.port.world i.legal p.legal;
      gone = gone_on c.runs_compose.ensures.more (g.P.Viewed.low c.args.port.now) (g.P.Viewed.low c.running.port) (g.P.Viewed.high c.args.port.now) (g.P.Viewed.high c.running.port) (g.P.Viewed.seen c.args.port.now) (g.P.Viewed.seen c.running.port) (g.P.Viewed.seen c.pass_on-passage.new.port) c.args.app.now c.running.app c.pass_on-passage.new.app
          i.port.low i.port.high i.gone p.gone;
      waited =
          waited_on c.runs_compose.ensures.waits_later c.runs_compose.ensures.waits_earlier (g.P.Viewed.world c.args.port.now) (g.P.Viewed.world c.running.port) (g.P.Viewed.low c.args.port.now) (g.P.Viewed.low c.running.port) (g.P.Viewed.high c.args.port.now) (g.P.Viewed.high c.running.port)
          (g.P.Viewed.seen c.args.port.now) (g.P.Viewed.seen c.running.port) (g.P.Viewed.seen c.pass_on-passage.new.port) c.args.app.now c.running.app c.pass_on-passage.new.app
          c.running.waits.count c.running.waits.last c.pass_on-passage.result.waits.count c.pass_on-passage.result.waits.last c.and-waits.result.count c.and-waits.result.last
          i.port.world i.port.low i.port.high i.gone p.gone i.waited p.waits (record { none = c.and-waits.ensures.none; one = c.and-waits.ensures.last; counts = c.and-waits.ensures.count });
    }
