-- What a world shows of itself, and what a chronicle keeps.
use Rattle.std.specs.Prelude.{List}
use Rattle.history.specs.declared.events.Entry.{Entry}
use Rattle.history.specs.Layout.{Setting}
use Rattle.chronicle.specs.declared.worlds.Shape.{Shape}

-- where the attested blocks lie
abbrev pub shape_of : Setting → Shape
shape_of w = record { base = w.layout.base; size = w.layout.size; ranges = w.ranges }

-- a world with a list of entries, the oldest first; the list needn't be legal
pub record Recorded : Type 0 where
  pub world : Setting
  pub entries : List Entry
