use Rattle.std.proofs.Common.{◌≡◌}
use Rattle.turn_bench.proofs.mix_often.Given as goal

abbrev pub invariant-loop-round : goal.invariant-loop-round
invariant-loop-round g l =
    (g.P.Viewed.owner l.port ≡ g.P.Viewed.owner l.initial.port) × (g.P.Viewed.low l.port ≡ g.P.Viewed.low l.initial.port) × (g.P.Viewed.high l.port ≡ g.P.Viewed.high l.initial.port) × (g.P.Viewed.world l.port ≡ g.P.Viewed.world l.initial.port)
