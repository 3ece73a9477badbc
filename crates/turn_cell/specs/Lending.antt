-- A turn lends its value.
use Rattle.std.specs.Borrow.{Lends, MutBor, Fml}
use denote.RattleType.{RattleType}
use Rattle.turn_cell.specs.Cells.{InTurn}
use Rattle.turn_cell.specs.contracts.turns.Turn.{the_row}

-- the turn ends with what was written as its value, by the same pass
abbrev pub lends_value : (T : RattleType) → MutBor (InTurn T.Denot) → MutBor T.Denot → Fml
lends_value T turn value = Lends (the_row T) T turn value (λ w. record { pass = turn.now.pass; value = w })
