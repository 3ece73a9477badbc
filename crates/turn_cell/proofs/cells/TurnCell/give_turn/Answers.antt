use Rattle.std.proofs.Common.{rules, [], ◌∷◌, ◌∙◌}
use Rattle.atomic_table.specs.Table.{rest}
use Rattle.turn_cell.specs.SeatViews.{token_at}
use Rattle.turn_cell.specs.Turning.{of_boxed}
use Rattle.turn_cell.proofs.Keeps.{gives_seat}
use Rattle.turn_cell.proofs.Seats.{held_value}
use Rattle.turn_cell.proofs.cells.TurnCell.give_turn.Goals as goal

pub store-requires : goal.store-requires
store-requires g c =
    let seat = c.args.seat.now in
    let t = token_at seat.table_id seat.me.0 in
    let value = held_value c.args.home _ c.requires.some c.requires.home in
    let loaded = c.requires.loaded in
    let is = c.exchange-empty.ensures.3 ∙ (λ i. ((loaded i).0, (0, value.1 i) ∷ rest (loaded i).1)) in
    (search rules, search rules, gives_seat (of_boxed g.T.Chronicled.world) (of_boxed g.T.Chronicled.history) _ _ _ t [] value.0 is value.2.0 value.2.1)
