-- What the files say that a run of a device reads.
use Rattle.std.specs.Prelude.{◌≡◌, ℕ, ◌≤◌, true, List, ◌∷◌, All, length, Option, Ok}
use Rattle.std.specs.List.Sorted.{IsStrictlyIncreasing}
use Rattle.att_base.specs.Files.{Contents}
use Rattle.history.specs.Layout.{Setting, byte_count}
use Rattle.chronicle.specs.Settings.{setting_of}
use Rattle.challenge.specs.Challenges.{IsChallenge}
use Rattle.loader.specs.Placing.{is_entry}
use Rattle.image_set.specs.Match.{no_images}
use Rattle.device_config.specs.declared.plans.ChallengePlan.{ChallengePlan}
use Rattle.device_config.specs.declared.plans.DevicePlan.{DevicePlan}
use Rattle.device_config.specs.Plans.{IsDevicePlan}
use Rattle.schedule_text.specs.Schedules.{IsSchedule}
use Rattle.command_plans.specs.Steps.{CommandStep, exactly, ◌>>=◌}
use Rattle.input_files.specs.InputFiles.{KeyIn, ReadImages, image_shape}
use Rattle.device_inputs.specs.declared.admitting.Admission.{Admission}
use Rattle.device_inputs.specs.declared.setup.SetupFiles.{SetupFiles}
use Rattle.device_inputs.specs.declared.setup.ScheduledFiles.{ScheduledFiles}
use Rattle.device_inputs.specs.Admissions.{admissions, served, counters}
use Rattle.device_inputs.specs.Inputs.{DeviceIn, ScheduleIn, PlacedIn, ChallengeFilesIn}

-- the memory that such a device begins with, where this is its image
abbrev pub device_setting : DevicePlan → List ℕ → Setting
device_setting plan image = setting_of plan.geometry plan.ranges image plan.cap

-- what becomes of the challenges in these files, under the key and above the greatest counter before
unfoldable pub AdmissionsIn : List ℕ → ℕ → List ChallengePlan → Option Contents → CommandStep (List Admission)
AdmissionsIn key last challenges files = do
  sent ← ChallengeFilesIn challenges files
  exactly (Ok (admissions key last sent))

-- what the files say that a device file of this name names: the key, the applications with their placing, the
-- challenges, the images
unfoldable pub NamedIn : List ℕ → DevicePlan → Option Contents → CommandStep SetupFiles
NamedIn device plan files = do
  key ← KeyIn plan.key files
  image ← PlacedIn device plan files
  answers ← AdmissionsIn key plan.last plan.challenges files
  known ← ReadImages plan.images (no_images (image_shape plan.geometry plan.ranges)) files
  exactly (Ok (record { plan = plan; key = key; placed = image; admissions = answers; images = known }))

-- a device file, and then the files that it names
unfoldable pub SetupIn : List ℕ → Option Contents → CommandStep SetupFiles
SetupIn device files = do
  plan ← DeviceIn device files
  NamedIn device plan files

-- the same, with a schedule for its applications right behind the device file
unfoldable pub ScheduledIn : List ℕ → List ℕ → Option Contents → CommandStep ScheduledFiles
ScheduledIn device schedule files = do
  plan ← DeviceIn device files
  runs ← ScheduleIn schedule (length plan.apps) files
  setup ← NamedIn device plan files
  exactly (Ok (record { setup = setup; schedule = runs }))

-- What holds of what was read: the plan is one that a device may have; memory's image has memory's length, and there is
-- an entry in it for each application; the challenges that are served are valid, and their counters rise from above the
-- greatest before; the images are of the device's attested blocks.
pub record IsSetupFiles (files : SetupFiles) : Type 0 where
  pub plan : IsDevicePlan files.plan
  pub image : length files.placed.image ≡ byte_count files.plan.geometry
  pub entries : length files.placed.entries ≡ length files.plan.apps
  pub each_entry : All (λ entry. is_entry files.plan.geometry entry ≡ true) files.placed.entries
  pub few : length files.admissions ≤ 64
  pub valid : All IsChallenge (served files.admissions)
  pub rising : IsStrictlyIncreasing (files.plan.last ∷ counters (served files.admissions))
  pub shape : files.images.shape ≡ image_shape files.plan.geometry files.plan.ranges

-- and the schedule is one for its applications
pub record IsScheduledFiles (files : ScheduledFiles) : Type 0 where
  pub setup : IsSetupFiles files.setup
  pub schedule : IsSchedule (length files.setup.plan.apps) files.schedule
