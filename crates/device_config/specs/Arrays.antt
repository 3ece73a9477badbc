-- The arrays of a device file: tables, each read by its own keys, and names of files.
use Rattle.std.specs.Prelude.{ℕ, List, [], codes, Option, Some, None, option_and_then}
use Rattle.toml.specs.Data.{Data, Members, get_member, as_table}
use Rattle.config_rules.specs.Values.{array_in, name_at, names_in, number_at}
use Rattle.device_config.specs.declared.plans.AppPlan.{AppPlan}
use Rattle.device_config.specs.declared.plans.ChallengePlan.{ChallengePlan}
use Rattle.sequencing.specs.Options.{◌>>=◌}

-- an array that may be absent, which is then empty
abbrev pub if_present : {A : Type 0} → (Data → Option (List A)) → Option Data → Option (List A)
if_present read None = Some []
if_present read (Some value) = read value

-- what the table of an application says
unfoldable pub app_plan_in : Members → Option AppPlan
app_plan_in members = do
  file ← name_at (codes "file") members
  console ← name_at (codes "console") members
  stack ← number_at (codes "stack") members 0 4294967295
  fuel ← number_at (codes "fuel") members 1 1000000
  Some (record { file = file; console = console; stack = stack; fuel = fuel })

-- what the table of a challenge says
unfoldable pub challenge_plan_in : Members → Option ChallengePlan
challenge_plan_in members = do
  file ← name_at (codes "file") members
  report ← name_at (codes "report") members
  note ← name_at (codes "note") members
  Some (record { file = file; report = report; note = note })

-- the value is a table that says this
abbrev pub app_plan_of : Data → Option AppPlan
app_plan_of value = option_and_then app_plan_in (as_table value)

abbrev pub challenge_plan_of : Data → Option ChallengePlan
challenge_plan_of value = option_and_then challenge_plan_in (as_table value)

-- at most 64 names of images, or none at all
unfoldable pub images_at : Members → Option (List (List ℕ))
images_at members = if_present (names_in 0 64) (get_member (codes "images") members)

-- 1 to 8 applications
unfoldable pub apps_at : Members → Option (List AppPlan)
apps_at members = option_and_then (array_in app_plan_of 1 8) (get_member (codes "app") members)

-- at most 64 challenges, or none at all
unfoldable pub challenges_at : Members → Option (List ChallengePlan)
challenges_at members = if_present (array_in challenge_plan_of 0 64) (get_member (codes "challenge") members)
