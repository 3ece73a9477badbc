-- One turn of a pass to a shared core.
use Rattle.std.specs.Prelude.{ℕ, List}
use Rattle.history.specs.declared.events.Entry.{Entry}
use Rattle.history.specs.Layout.{Setting}
use Rattle.chronicle.specs.Ports.{OthersFollow}
use Rattle.mem_core.specs.declared.wants.Want.{Want}
use Rattle.mem_core.specs.declared.wants.Answer.{Answer}
use Rattle.mem_core.specs.Cores.{Core}
use Rattle.mem_core.specs.Wants.{HasAnswered, HasAnsweredCopy}
use Rattle.turn_cell.specs.Cells.{Token}

-- the core of a world with this history
abbrev pub core_of : Setting → List Entry → Core
core_of world history = record { world = world; history = history }

-- Others' entries were found, and at that point the core answered what was wanted.
pub record TakesTurn (before after : Token) (want : Want) (answer : Answer) : Type 0 where
  pub found : List Entry
  pub others : OthersFollow before.low before.high before.seen found
  pub answered : HasAnswered (core_of before.cell.world found) (core_of before.cell.world after.seen) before.low want answer

-- the same for a copy into a buffer
pub record TakesCopy (before after : Token) (block : ℕ) (old new : List ℕ) (answer : Answer) : Type 0 where
  pub found : List Entry
  pub others : OthersFollow before.low before.high before.seen found
  pub answered : HasAnsweredCopy (core_of before.cell.world found) (core_of before.cell.world after.seen) block old new answer
