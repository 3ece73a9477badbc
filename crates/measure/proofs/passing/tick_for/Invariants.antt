use Rattle.std.proofs.Common.{replicate}
use Rattle.history.specs.declared.events.Act.TheVariants as act
use Rattle.chronicle.specs.Ports.{KeepsPort}
use Rattle.measure.specs.Program.{HasMade}
use Rattle.measure.specs.Passing.{Keeps}
use Rattle.measure.proofs.passing.tick_for.Given as goal

abbrev pub invariant-ticking : goal.invariant-ticking
invariant-ticking g l = record {
  port : KeepsPort (g.P.Viewed.owner l.fn.port) (g.P.Viewed.owner l.port) (g.P.Viewed.world l.fn.port) (g.P.Viewed.world l.port) (g.P.Viewed.low l.fn.port) (g.P.Viewed.low l.port) (g.P.Viewed.high l.fn.port) (g.P.Viewed.high l.port);
  made : HasMade (g.P.Viewed.seen l.fn.port) (g.P.Viewed.seen l.port) (replicate l.counter act.Tick);
  keeps : Keeps (g.P.Viewed.world l.fn.port) (g.P.Viewed.seen l.fn.port) (g.P.Viewed.seen l.port);
}
