-- A core as contracts see it.
use Rattle.std.specs.Prelude.{List}
use Rattle.history.specs.declared.events.Entry.{Entry}
use Rattle.history.specs.Layout.{Setting}

-- a world with the history that was made of it, the oldest entry first
pub record Core : Type 0 where
  pub world : Setting
  pub history : List Entry
