use Rattle.std.proofs.Common.{rules, [], ◌∷◌, Some, ap, sym, ◌∙◌}
use Rattle.atomic_table.specs.Table.{rest}
use Rattle.turn_cell.specs.SeatViews.{token_at}
use Rattle.turn_cell.specs.Turning.{of_boxed}
use Rattle.turn_cell.proofs.Keeps.{loads_seat}
use Rattle.turn_cell.proofs.cells.TurnCell.take_value.Goals as goal

pub load-count-requires : goal.load-count-requires
load-count-requires g c =
    let seat = c.args.seat.now in
    (search rules, search rules, loads_seat (of_boxed g.T.Chronicled.world) (of_boxed g.T.Chronicled.history) _ _ _ (token_at seat.table_id seat.me.0) [] c.requires.held)

pub exchange-requires : goal.exchange-requires
exchange-requires g c =
    let loads = c.load-count.ensures.2 in
    (search rules, (Some loads.value, ap (λ m. m.1) loads.seat ∙ ap (λ l. (0, Some loads.value) ∷ l) (sym (ap (λ m. rest m.1) loads.seat))))
