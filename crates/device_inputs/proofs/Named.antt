-- The files that a device file names, one after the other.
use Rattle.std.proofs.Common.{ℕ, List, length, Option, Result, Ok, refl}
use Rattle.att_base.specs.Files.{Contents, FilesView}
use Rattle.image_set.specs.Match.{Known, no_images}
use Rattle.loader.specs.declared.placed.Placed.{Placed}
use Rattle.schedule_text.specs.declared.reading.Run.{Run}
use Rattle.device_config.specs.declared.plans.DevicePlan.{DevicePlan}
use Rattle.command_plans.specs.Steps.{Reason, CommandStep, exactly, Then}
use Rattle.command_plans.specs.Answered.{ReadsBy}
use Rattle.command_plans.proofs.Binds.{goes_on, then_known}
use Rattle.input_files.specs.InputFiles.{KeyIn, ReadImages, image_shape}
use Rattle.device_inputs.specs.declared.admitting.Admission.{Admission}
use Rattle.device_inputs.specs.declared.setup.SetupFiles.{SetupFiles}
use Rattle.device_inputs.specs.declared.setup.ScheduledFiles.{ScheduledFiles}
use Rattle.device_inputs.specs.Inputs.{DeviceIn, ScheduleIn, PlacedIn}
use Rattle.device_inputs.specs.Setups.{AdmissionsIn, NamedIn, ScheduledIn}

abbrev pub setup_of : DevicePlan → List ℕ → Placed → List Admission → Known → SetupFiles
setup_of plan key image answers known = record { plan = plan; key = key; placed = image; admissions = answers; images = known }

-- after each read the others
abbrev pub images_then : DevicePlan → List ℕ → Placed → List Admission → Option Contents → CommandStep SetupFiles
images_then plan key image answers files = Then (ReadImages plan.images (no_images (image_shape plan.geometry plan.ranges)) files) (λ known. exactly (Ok (setup_of plan key image answers known)))

abbrev pub admissions_then : DevicePlan → List ℕ → Placed → Option Contents → CommandStep SetupFiles
admissions_then plan key image files = Then (AdmissionsIn key plan.last plan.challenges files) (λ answers. images_then plan key image answers files)

abbrev pub placed_then : List ℕ → DevicePlan → List ℕ → Option Contents → CommandStep SetupFiles
placed_then device plan key files = Then (PlacedIn device plan files) (λ image. admissions_then plan key image files)

-- what comes of the reads behind comes of all
pub behind_key : (device : List ℕ) (plan : DevicePlan) (key : List ℕ) (came : Result SetupFiles Reason) (old mid new : FilesView) → ReadsBy (KeyIn plan.key) (Ok key) old mid
    → ReadsBy (placed_then device plan key) came mid new → ReadsBy (NamedIn device plan) came old new
unfolding NamedIn
behind_key device plan key came old mid new read then = goes_on (KeyIn plan.key) (placed_then device plan) key came old mid new read then

pub behind_placed : (device : List ℕ) (plan : DevicePlan) (key : List ℕ) (image : Placed) (came : Result SetupFiles Reason) (old mid new : FilesView) → ReadsBy (PlacedIn device plan) (Ok image) old mid
    → ReadsBy (admissions_then plan key image) came mid new → ReadsBy (placed_then device plan key) came old new
behind_placed device plan key image came old mid new read then = goes_on (PlacedIn device plan) (admissions_then plan key) image came old mid new read then

pub behind_admissions : (plan : DevicePlan) (key : List ℕ) (image : Placed) (answers : List Admission) (came : Result SetupFiles Reason) (old mid new : FilesView)
    → ReadsBy (AdmissionsIn key plan.last plan.challenges) (Ok answers) old mid → ReadsBy (images_then plan key image answers) came mid new → ReadsBy (admissions_then plan key image) came old new
behind_admissions plan key image answers came old mid new read then = goes_on (AdmissionsIn key plan.last plan.challenges) (images_then plan key image) answers came old mid new read then

pub with_images : (plan : DevicePlan) (key : List ℕ) (image : Placed) (answers : List Admission) (known : Known) (old new : FilesView) → ReadsBy (ReadImages plan.images (no_images (image_shape plan.geometry plan.ranges))) (Ok known) old new
    → ReadsBy (images_then plan key image answers) (Ok (setup_of plan key image answers known)) old new
with_images plan key image answers known old new read =
    then_known {V = SetupFiles} (ReadImages plan.images (no_images (image_shape plan.geometry plan.ranges))) (λ (set : Known). Ok (setup_of plan key image answers set)) known (λ s. s) (Ok (setup_of plan key image answers known)) old new read refl

-- ---- with a schedule

abbrev pub scheduled_of : SetupFiles → List Run → ScheduledFiles
scheduled_of setup runs = record { setup = setup; schedule = runs }

abbrev pub named_then : List ℕ → DevicePlan → List Run → Option Contents → CommandStep ScheduledFiles
named_then device plan runs files = Then (NamedIn device plan files) (λ setup. exactly (Ok (scheduled_of setup runs)))

abbrev pub schedule_then : List ℕ → List ℕ → DevicePlan → Option Contents → CommandStep ScheduledFiles
schedule_then device schedule plan files = Then (ScheduleIn schedule (length plan.apps) files) (λ runs. named_then device plan runs files)

pub behind_device : (device schedule : List ℕ) (plan : DevicePlan) (came : Result ScheduledFiles Reason) (old mid new : FilesView) → ReadsBy (DeviceIn device) (Ok plan) old mid
    → ReadsBy (schedule_then device schedule plan) came mid new → ReadsBy (ScheduledIn device schedule) came old new
unfolding ScheduledIn
behind_device device schedule plan came old mid new read then = goes_on (DeviceIn device) (schedule_then device schedule) plan came old mid new read then

pub behind_schedule : (device schedule : List ℕ) (plan : DevicePlan) (runs : List Run) (came : Result ScheduledFiles Reason) (old mid new : FilesView) → ReadsBy (ScheduleIn schedule (length plan.apps)) (Ok runs) old mid
    → ReadsBy (named_then device plan runs) came mid new → ReadsBy (schedule_then device schedule plan) came old new
behind_schedule device schedule plan runs came old mid new read then = goes_on (ScheduleIn schedule (length plan.apps)) (named_then device plan) runs came old mid new read then

pub with_setup : (device : List ℕ) (plan : DevicePlan) (runs : List Run) (setup : SetupFiles) (old new : FilesView) → ReadsBy (NamedIn device plan) (Ok setup) old new
    → ReadsBy (named_then device plan runs) (Ok (scheduled_of setup runs)) old new
with_setup device plan runs setup old new read = then_known {V = ScheduledFiles} (NamedIn device plan) (λ (s : SetupFiles). Ok (scheduled_of s runs)) setup (λ s. s) (Ok (scheduled_of setup runs)) old new read refl
