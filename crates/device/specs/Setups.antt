-- What a run begins with.
use Rattle.std.specs.Prelude.{◌≡◌, ℕ, ◌+◌, ◌%◌, ◌^◌, ◌<◌, ◌≤◌, List, [], ◌∷◌, length, All}
use Rattle.history.specs.Layout.{Layout, Setting, IsSetting}
use Rattle.challenge.specs.declared.Challenge.{Challenge}
use Rattle.challenge.specs.Challenges.{IsChallenge}
use Rattle.rv_core.specs.Runs.{AppProgram, app_program, started}
use Rattle.loader.specs.declared.placed.Placed.{Placed}
use Rattle.device_config.specs.declared.plans.AppPlan.{AppPlan}
use Rattle.device_config.specs.declared.plans.DevicePlan.{DevicePlan}
use Rattle.chronicle.specs.Settings.{setting_of}

-- A device before its first entry: its memory, the program of each application, counted from 1, the key, and the
-- challenges that the measurer answers, in order.
pub record Setup : Type 0 where
  pub world : Setting
  pub programs : List AppProgram
  pub key : List ℕ
  pub challenges : List Challenge

-- each counter is greater than those before it, and than this one
abbrev pub Rise : ℕ → List Challenge → Type 0
Rise last [] = Unit {0}
Rise last (c ∷ more) = (last < c.counter) × Rise c.counter more

-- an application begins at this address, with its stack pointer and its fuel
abbrev pub program_of_app : Layout → AppPlan → ℕ → AppProgram
program_of_app layout app entry = app_program (started layout entry app.stack) app.fuel

-- the programs of these applications, which begin at these addresses
abbrev pub programs_at : Layout → List AppPlan → List ℕ → List AppProgram
programs_at layout [] entries = []
programs_at layout (app ∷ apps) [] = []
programs_at layout (app ∷ apps) (entry ∷ entries) = program_of_app layout app entry ∷ programs_at layout apps entries

-- the setup that a device file gives, with its applications placed, its key and its admitted challenges
abbrev pub setup_of : DevicePlan → Placed → List ℕ → List Challenge → Setup
setup_of plan placed key admitted = record {
  world = setting_of plan.geometry plan.ranges placed.image plan.cap;
  programs = programs_at plan.geometry plan.apps placed.entries;
  key = key;
  challenges = admitted;
}

-- the setups that a device may have: 1 to 8 applications, and challenges whose counters rise
pub record IsSetup (s : Setup) : Type 0 where
  pub world : IsSetting s.world
  pub some_program : 1 ≤ length s.programs
  pub few_programs : length s.programs ≤ 8
  pub layouts : All (λ program. program.core.layout ≡ s.world.layout) s.programs
  pub challenges : All IsChallenge s.challenges
  pub rise : Rise 0 s.challenges
