-- The entries that the text of a trace has room for.
use Rattle.std.specs.Prelude.{◌^◌, ◌<◌, ◌≤◌}
use Rattle.history.specs.declared.events.Act.{Act}
use Rattle.history.specs.declared.events.Act.TheVariants.{Fetch, Load, Store, Start, Copy}
use Rattle.history.specs.declared.events.Entry.{Entry}
use Rattle.history.specs.Layout.{width_bytes}

-- the numbers of the act are in their ranges
abbrev pub ActIsPrintable : Act → Type 0
ActIsPrintable (Fetch addr value) = (addr < 2 ^ 32) × (value < 2 ^ 32)
ActIsPrintable (Load addr width value) = (addr < 2 ^ 32) × (value < 256 ^ width_bytes width)
ActIsPrintable (Store addr width value) = (addr < 2 ^ 32) × (value < 256 ^ width_bytes width)
ActIsPrintable (Start discipline counter) = counter < 2 ^ 64
ActIsPrintable (Copy block) = block < 4096
ActIsPrintable _ = Unit {0}

-- the actor is 0 to 8, and the numbers of the act are in their ranges
pub record IsPrintable (entry : Entry) : Type 0 where
  pub actor : entry.actor ≤ 8
  pub act : ActIsPrintable entry.act

-- what the fields of an entry in memory have room for: a stored value fits its width, a counter 64 bits
abbrev pub ActFitsFields : Act → Type 0
ActFitsFields (Store addr width value) = value < 256 ^ width_bytes width
ActFitsFields (Start discipline counter) = counter < 2 ^ 64
ActFitsFields _ = Unit {0}

pub record FitsFields (entry : Entry) : Type 0 where
  pub act : ActFitsFields entry.act
