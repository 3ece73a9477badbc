use Rattle.std.proofs.Common.{◌≡◌}
use Rattle.turn_bench.proofs.fetch_often.Given as goal

abbrev pub invariant-loop : goal.invariant-loop
invariant-loop g l =
    (g.P.Viewed.owner l.port ≡ g.P.Viewed.owner l.initial.port) × (g.P.Viewed.low l.port ≡ g.P.Viewed.low l.initial.port) × (g.P.Viewed.high l.port ≡ g.P.Viewed.high l.initial.port) × (g.P.Viewed.world l.port ≡ g.P.Viewed.world l.initial.port)
