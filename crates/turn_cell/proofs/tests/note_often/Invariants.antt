use Rattle.std.proofs.Common.{◌≡◌}
use Rattle.turn_cell.proofs.tests.note_often.Given as goal

abbrev pub invariant-loop : goal.invariant-loop
invariant-loop g l = (l.pass.cell ≡ l.initial.pass.cell) × (l.pass.low ≡ l.initial.pass.low) × (l.pass.high ≡ l.initial.pass.high)
