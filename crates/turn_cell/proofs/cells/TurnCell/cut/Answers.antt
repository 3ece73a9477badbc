use Rattle.std.proofs.Common.{rules, ◌<◌, ap, subst, ℕ}
use Rattle.turn_cell.specs.SeatViews.{token_at}
use Rattle.turn_cell.specs.Turning.{of_boxed}
use Rattle.turn_cell.proofs.Shares.{splits_seat}
use Rattle.turn_cell.proofs.cells.TurnCell.cut.Goals as goal

pub split_seat-requires : goal.split_seat-requires
split_seat-requires g c =
    let seat = c.args.seat.now in
    let t = token_at seat.table_id seat.me.0 in
    let out = c.requires.outside in
    let at = c.requires.at in (
      search rules,
      search rules,
      splits_seat (of_boxed g.T.Chronicled.world) (of_boxed g.T.Chronicled.history) _ g.A.At.at _ t (ap (λ m. m.0) out.0) (subst (λ (n : ℕ). t.low < n) at out.1) (subst (λ (n : ℕ). n < t.high) at out.2),
    )
