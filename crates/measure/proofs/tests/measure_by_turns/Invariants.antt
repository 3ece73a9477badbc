use Rattle.std.proofs.Common.{◌≡◌, [], ◌∷◌}
use Rattle.measure.specs.Stepping.{Stands}
use Rattle.measure.proofs.tests.measure_by_turns.Given as goal

abbrev pub invariant-turning : goal.invariant-turning
invariant-turning g l = record {
  room : l.core.world.layout.size ≡ 16;
  stands : Stands (107 ∷ 101 ∷ 121 ∷ []) l.core.world l.challenge [] l.core.history l.measuring;
}
