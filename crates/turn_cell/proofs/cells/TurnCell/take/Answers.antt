use Rattle.std.proofs.Common.{rules, []}
use Rattle.turn_cell.specs.SeatViews.{token_at}
use Rattle.turn_cell.specs.Turning.{of_boxed}
use Rattle.turn_cell.proofs.Keeps.{takes_seat}
use Rattle.turn_cell.proofs.cells.TurnCell.take.Goals as goal

pub compare_exchange-requires : goal.compare_exchange-requires
compare_exchange-requires g c =
    let seat = c.args.seat.now in
    let out = c.requires.outside in
    (search rules, search rules, takes_seat (of_boxed g.T.Chronicled.world) (of_boxed g.T.Chronicled.history) _ _ _ (token_at seat.table_id seat.me.0) [] out.0 out.1)
