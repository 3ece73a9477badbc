use Rattle.std.proofs.Common.{rules, ap}
use Rattle.turn_cell.specs.SeatViews.{token_at}
use Rattle.turn_cell.specs.Turning.{of_boxed}
use Rattle.turn_cell.proofs.Shares.{joins_seat}
use Rattle.turn_cell.proofs.cells.TurnCell.lay_beside.Goals as goal

pub join_seat-requires : goal.join_seat-requires
join_seat-requires g c =
    let a = c.args.seat.now in
    let b = c.args.other in
    let left = c.requires.left in
    let right = c.requires.right in (
      search rules,
      search rules,
      ap (λ m. m.1) right.0,
      search rules,
      joins_seat (of_boxed g.T.Chronicled.world) (of_boxed g.T.Chronicled.history) _ _ (token_at a.table_id a.me.0) _ _ (token_at b.table_id b.me.0) (ap (λ m. m.0) left.0) (ap (λ m. m.0) right.0) left.1 right.1,
    )
