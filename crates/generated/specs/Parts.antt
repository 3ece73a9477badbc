-- For private functions: what a generated device is made of.
use Rattle.std.specs.Prelude.{◌≡◌, [], ◌∷◌, replicate}
use Rattle.device_config.specs.declared.plans.AppPlan.{AppPlan}
use Rattle.device_config.specs.declared.plans.DevicePlan.{DevicePlan}
use Rattle.generated.specs.Generated.{generated_layout}

-- an application with no files
abbrev pub counting_app : AppPlan
counting_app = record { file = []; console = []; stack = 0; fuel = 20000 }

-- all that the device's setup takes of its plan
pub record IsGeneratedPlan (plan : DevicePlan) : Type 0 where
  pub geometry : plan.geometry ≡ generated_layout
  pub ranges : plan.ranges ≡ record { first = 0; attested = 64 } ∷ []
  pub cap : plan.cap ≡ 400000
  pub apps : plan.apps ≡ replicate 8 counting_app
