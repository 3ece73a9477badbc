-- The port's range is one actor.
use Rattle.device.proofs.Joined.{runs_as}
use Rattle.device.proofs.ranges.run_over.Goals as goal

pub returns-clause-run : goal.returns-clause-run
returns-clause-run g c =
    let r = c.run_app-run in
    runs_as (g.P.Viewed.world c.args.port.now) (g.P.Viewed.low c.args.port.now) (g.P.Viewed.high c.args.port.now) (g.P.Viewed.seen c.args.port.now) (g.P.Viewed.seen r.new.port) c.args.slot.now r.new.app r.result.end r.result.waits r.result.waited c.is_stop.result
    c.requires.actor c.requires.layout r.ensures.layout r.ensures.run r.ensures.waits (c.is_stop.ensures (g.P.Viewed.world c.args.port.now) (g.P.Viewed.seen r.new.port) r.new.app r.ensures.run.ended)
