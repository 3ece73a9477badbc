-- What holds of every plan that a device file gives.
use Rattle.std.specs.Prelude.{◌≡◌, ◌^◌, ◌<◌, ◌≤◌, true, length, All}
use Rattle.att_base.specs.Files.{IsName}
use Rattle.history.specs.Attested.{IsRanges, last_end}
use Rattle.history.specs.Layout.{IsLayout}
use Rattle.device_config.specs.Names.{all_different, output_names}
use Rattle.device_config.specs.declared.plans.AppPlan.{AppPlan}
use Rattle.device_config.specs.declared.plans.ChallengePlan.{ChallengePlan}
use Rattle.device_config.specs.declared.plans.DevicePlan.{DevicePlan}

pub record IsAppPlan (app : AppPlan) : Type 0 where
  pub file : IsName app.file
  pub console : IsName app.console
  pub stack : app.stack < 2 ^ 32
  pub some_fuel : 1 ≤ app.fuel
  pub most_fuel : app.fuel ≤ 1000000

pub record IsChallengePlan (challenge : ChallengePlan) : Type 0 where
  pub file : IsName challenge.file
  pub report : IsName challenge.report
  pub note : IsName challenge.note

-- memory, its attested blocks and the cap are such as a device may have; there are 1 to 8 applications, and
-- at most 64 images and 64 challenges; every name is one that a file may have, and those of the files that
-- are written differ
pub record IsDevicePlan (plan : DevicePlan) : Type 0 where
  pub layout : IsLayout plan.geometry
  pub ranges : IsRanges plan.ranges
  pub ranges_inside : last_end plan.ranges ≤ plan.geometry.blocks
  pub key : IsName plan.key
  pub last : plan.last < 2 ^ 63
  pub some_entries : 16 ≤ plan.cap
  pub most_entries : plan.cap ≤ 4000000
  pub trace : IsName plan.trace
  pub images : All IsName plan.images
  pub few_images : length plan.images ≤ 64
  pub apps : All IsAppPlan plan.apps
  pub some_app : 1 ≤ length plan.apps
  pub few_apps : length plan.apps ≤ 8
  pub challenges : All IsChallengePlan plan.challenges
  pub few_challenges : length plan.challenges ≤ 64
  pub outputs : all_different (output_names plan.trace plan.apps plan.challenges) ≡ true
