-- The pass that a port holds.
use Rattle.std.specs.Prelude.{Option, Some, None}
use Rattle.turn_cell.specs.Cells.{Token, no_pass}

abbrev pub pass_in : Option Token → Token
pass_in (Some pass) = pass
pass_in None = no_pass
