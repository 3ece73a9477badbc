-- Device files: the rules that verifier files share, and then six of their own.
use Rattle.std.specs.Prelude.{ℕ, List, codes, Result, Ok}
use Rattle.toml.specs.Data.{Members}
use Rattle.config_rules.specs.Rules.{and_then, common, rule}
use Rattle.config_rules.specs.declared.common.Common.{Common}
use Rattle.config_rules.specs.Values.{document, name_at, number_at}
use Rattle.sequencing.specs.Options.{when}
use Rattle.device_config.specs.Arrays.{apps_at, challenges_at, images_at}
use Rattle.device_config.specs.Names.{all_different, output_names}
use Rattle.device_config.specs.declared.plans.AppPlan.{AppPlan}
use Rattle.device_config.specs.declared.plans.ChallengePlan.{ChallengePlan}
use Rattle.device_config.specs.declared.plans.DevicePlan.{DevicePlan}

abbrev pub device_plan : Common → ℕ → List ℕ → List (List ℕ) → List AppPlan → List ChallengePlan → DevicePlan
device_plan common cap trace images apps challenges =
    record { geometry = common.region.geometry; ranges = common.region.ranges; key = common.key; last = common.last; cap = cap; trace = trace; images = images; apps = apps; challenges = challenges }

-- what a device file says beside what a verifier file says too: rules 9 to 14
unfoldable pub device_rules : Common → Members → Result DevicePlan ℕ
device_rules common members =
    rule 9 (number_at (codes "cap") members 16 4000000) (λ cap.
    rule 10 (name_at (codes "trace") members) (λ trace.
    rule 11 (images_at members) (λ images.
    rule 12 (apps_at members) (λ apps.
    rule 13 (challenges_at members) (λ challenges.
    rule 14 (when (all_different (output_names trace apps challenges)) (device_plan common cap trace images apps challenges)) (λ plan.
    Ok plan))))))

-- what the bytes of a device file say, or the number of the first rule that fails
unfoldable pub device_file : List ℕ → Result DevicePlan ℕ
device_file bytes =
    rule 1 (document bytes) (λ members.
    and_then (common members) (λ common.
    device_rules common members))
