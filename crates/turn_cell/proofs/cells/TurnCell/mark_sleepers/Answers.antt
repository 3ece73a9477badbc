use Rattle.std.proofs.Common.{rules}
use Rattle.turn_cell.specs.Turning.{of_boxed}
use Rattle.turn_cell.proofs.Keeps.{marks_seat}
use Rattle.turn_cell.proofs.cells.TurnCell.mark_sleepers.Goals as goal

pub store-requires : goal.store-requires
store-requires g c = (search rules, search rules, marks_seat (of_boxed g.T.Chronicled.world) (of_boxed g.T.Chronicled.history) _ _ _ _)
