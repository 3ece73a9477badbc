use Rattle.turn_cell.proofs.cells.TurnCell.split.Given as goal

abbrev pub ghosts-cut : goal.ghosts-cut
ghosts-cut g a = record { at = a.at }
