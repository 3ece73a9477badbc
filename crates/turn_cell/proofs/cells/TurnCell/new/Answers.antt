use Rattle.std.proofs.Common.{[], ◌∷◌, ◌++◌, Some, length, ap, sym, ◌∙◌, subst}
use Rattle.turn_cell.specs.Cells.{AllBelow}
use Rattle.turn_cell.specs.Turning.{of_boxed}
use Rattle.turn_cell.proofs.Keeps.{starts_at}
use Rattle.turn_cell.proofs.cells.TurnCell.new.Goals as goal

pub new-requires-2 : goal.new-requires-2
new-requires-2 g c =
    let filled = c.push_reserved.ensures.items ∙ ap (λ l. l ++ Some c.in-Ok.boxed ∷ []) c.in-Ok-with_capacity.ensures.items in
    let boxed = c.in-Ok.ensures.ok in
    starts_at (of_boxed g.T.Chronicled.world) (of_boxed g.T.Chronicled.history) c.in-Ok.boxed _ _ c.args.hi _ _ (subst (λ x. AllBelow c.args.hi (g.T.Chronicled.history x)) (sym boxed) c.requires.below)
    (ap g.T.Chronicled.world (c.of.ensures ∙ sym boxed)) (ap g.T.Chronicled.history (c.of.ensures ∙ sym boxed)) (c.length-count.ensures ∙ ap (λ x. length (g.T.Chronicled.history x)) (sym boxed)) filled
