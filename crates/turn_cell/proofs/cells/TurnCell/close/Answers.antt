use Rattle.std.proofs.Common.{ap, ◌∙◌, subst, sym}
use Rattle.std.specs.Prelude.{is_some}
use Rattle.turn_cell.specs.Cells.{AllBelow}
use Rattle.turn_cell.specs.Turning.{of_boxed}
use Rattle.turn_cell.proofs.Shares.{closes_to, closed_world, closed_history, closed_below}
use Rattle.turn_cell.proofs.cells.TurnCell.close.Goals as goal

pub unwrap-boxed-requires : goal.unwrap-boxed-requires
unwrap-boxed-requires g c =
    let end = closes_to (of_boxed g.T.Chronicled.world) (of_boxed g.T.Chronicled.history) _ _ _ _ _ _ _ _ c.pass.view_is c.into_seat.ensures.2 c.pass.invariant.0 c.pass.invariant.3 c.requires.all c.shut-closed.ensures.last c.take.ensures.value in
    ap is_some end.is

pub returns-clause-world : goal.returns-clause-world
returns-clause-world g c =
    let end = closes_to (of_boxed g.T.Chronicled.world) (of_boxed g.T.Chronicled.history) _ _ _ _ _ _ _ _ c.pass.view_is c.into_seat.ensures.2 c.pass.invariant.0 c.pass.invariant.3 c.requires.all c.shut-closed.ensures.last c.take.ensures.value in
    ap g.T.Chronicled.world c.into_inner.ensures ∙ closed_world (of_boxed g.T.Chronicled.world) (of_boxed g.T.Chronicled.history) _ _ _ end c.unwrap-boxed.ensures

pub returns-clause-history : goal.returns-clause-history
returns-clause-history g c =
    let end = closes_to (of_boxed g.T.Chronicled.world) (of_boxed g.T.Chronicled.history) _ _ _ _ _ _ _ _ c.pass.view_is c.into_seat.ensures.2 c.pass.invariant.0 c.pass.invariant.3 c.requires.all c.shut-closed.ensures.last c.take.ensures.value in
    ap g.T.Chronicled.history c.into_inner.ensures ∙ closed_history (of_boxed g.T.Chronicled.world) (of_boxed g.T.Chronicled.history) _ _ _ end c.unwrap-boxed.ensures

pub returns-clause-below : goal.returns-clause-below
returns-clause-below g c =
    let end = closes_to (of_boxed g.T.Chronicled.world) (of_boxed g.T.Chronicled.history) _ _ _ _ _ _ _ _ c.pass.view_is c.into_seat.ensures.2 c.pass.invariant.0 c.pass.invariant.3 c.requires.all c.shut-closed.ensures.last c.take.ensures.value in
    subst (λ x. AllBelow c.args.pass.cell.actors (g.T.Chronicled.history x)) (sym c.into_inner.ensures) (closed_below (of_boxed g.T.Chronicled.world) (of_boxed g.T.Chronicled.history) _ _ _ end c.unwrap-boxed.ensures)
