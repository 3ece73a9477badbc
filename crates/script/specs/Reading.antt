-- What a script that is being read keeps.
use Rattle.std.specs.Prelude.{◌≡◌, [], All}
use Rattle.history.specs.Layout.{IsSetting}
use Rattle.lock_plan.specs.Plans.{plan_after}
use Rattle.script.specs.Programs.{Program}
use Rattle.script.specs.Attested.{MayComeAll, FitsWidth}
use Rattle.script.specs.Measuring.{measured_after}
use Rattle.script.specs.declared.script.Script.TheInside.{Inside}

-- its fields as a program
abbrev pub program_in : Inside → Program
program_in s = record {
  setting = record { layout = s.geometry; ranges = s.ranges; image = s.image.items; cap = s.cap };
  key = s.key.items;
  steps = s.steps.items;
}

-- its setting is one that a device may have, each step may come after those before it, each stored value fits
-- its width, and its plan is that of its measuring steps
pub record IsBuilt (s : Inside) : Type 0 where
  pub setting : IsSetting (program_in s).setting
  pub ordered : MayComeAll (program_in s).setting [] s.steps.items
  pub within : All FitsWidth s.steps.items
  pub plan : s.plan ≡ plan_after s.ranges (measured_after (program_in s).setting [] s.steps.items)
