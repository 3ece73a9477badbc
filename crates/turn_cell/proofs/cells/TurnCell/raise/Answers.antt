use Rattle.std.proofs.Common.{rules, ◌∙◌, sym}
use Rattle.turn_cell.specs.SeatViews.{token_at}
use Rattle.turn_cell.specs.Turning.{of_boxed}
use Rattle.turn_cell.proofs.Histories.{adds_one}
use Rattle.turn_cell.proofs.Keeps.{raises_seat}
use Rattle.turn_cell.proofs.Seats.{held_value}
use Rattle.turn_cell.proofs.cells.TurnCell.raise.Goals as goal

pub compare_exchange_with-count-requires : goal.compare_exchange_with-count-requires
compare_exchange_with-count-requires g c =
    let seat = c.args.seat.now in
    let t = token_at seat.table_id seat.me.0 in
    let value = held_value c.args.home.now _ c.requires.some c.requires.adds in
    let loaded = c.requires.loaded in
    let adds = adds_one t.low t.high t.seen (g.T.Chronicled.history value.0.value) value.2.1 (λ same. c.if-now-count.true (value.2.0 ∙ same ∙ sym loaded.1)) in
    (search rules, search rules, raises_seat (of_boxed g.T.Chronicled.world) (of_boxed g.T.Chronicled.history) _ _ _ t _ _ value.0 _ _ loaded.0 value.1 loaded.1 value.2.0 adds)
