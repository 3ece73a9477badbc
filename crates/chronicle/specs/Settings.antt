-- A world by its parts.
use Rattle.std.specs.Prelude.{ℕ, List}
use Rattle.history.specs.declared.ranges.Range.{Range}
use Rattle.history.specs.Layout.{Layout, Setting}

abbrev pub setting_of : Layout → List Range → List ℕ → ℕ → Setting
setting_of layout ranges image cap = record { layout = layout; ranges = ranges; image = image; cap = cap }
