use Rattle.std.proofs.Common.{rules, []}
use Rattle.turn_cell.specs.SeatViews.{token_at, token_beside}
use Rattle.turn_cell.specs.Turning.{of_boxed}
use Rattle.turn_cell.proofs.Shares.{settles_seat}
use Rattle.turn_cell.proofs.cells.TurnCell.settle.Goals as goal

pub load-count-requires : goal.load-count-requires
load-count-requires g c =
    let seat = c.args.seat.now in
    let parts = c.requires.parts in
    (search rules, search rules, settles_seat (of_boxed g.T.Chronicled.world) (of_boxed g.T.Chronicled.history) _ _ _ _ (token_at seat.table_id seat.me.0) (token_beside seat.table_id seat.me.0) [] parts.0 parts.1 parts.2 parts.3)
