-- The status of `run`, where nothing has failed.
use Rattle.std.proofs.Common.{◌≡◌, ℕ, List, false, Some, Result, Ok, Err, ap, subst}
use Rattle.att_base.specs.Files.{Contents}
use Rattle.command_plans.specs.Steps.{Reason, no_memory, CommandStep, MayGive, given, spent, exactly, Follows}
use Rattle.command_plans.specs.Written.{Written}
use Rattle.device.specs.declared.outcomes.Outcome.{Outcome}
use Rattle.device_inputs.specs.declared.setup.SetupFiles.{SetupFiles}
use Rattle.device_inputs.specs.Setups.{SetupIn}
use Rattle.device_commands.specs.Plans.{run_setup, MayCome, found as come, spent as unmet, IsThreadedOutcome, ThreadedRunOfFiles, run_plan}
use Rattle.attest_top.specs.Found.{IsFound}
use Rattle.attest_top.specs.Plans.{run_written}
use Rattle.attest_top.specs.Causes.{status_meant, HasStatusOf}
use Rattle.attest_top.proofs.OnePlan.{lost, found_before}
use Rattle.attest_top.proofs.OneResult.{OneSetupEach}

-- what was written of this outcome, unless there was no memory
written_status : (files : SetupFiles) (outcome : Outcome) (came : Result Written Reason) → IsThreadedOutcome (run_setup files) outcome → MayGive (Ok (run_written files false outcome)) came → IsFound came
    → HasStatusOf (Ok files) (status_meant came)
written_status files outcome came ran (given is) sure = (outcome, ran, ap status_meant is)
written_status files outcome came ran (spent is) sure = absurd (lost no_memory came is sure)

outcome_status : (files : SetupFiles) (between : Result Outcome Reason) (behind : List (List ℕ)) (came : Result Written Reason) → MayCome (IsThreadedOutcome (run_setup files)) between
    → Follows between (λ (outcome : Outcome). exactly (Ok (run_written files false outcome))) behind came → IsFound came → HasStatusOf (Ok files) (status_meant came)
outcome_status files between behind came (come outcome ran is) follows sure =
    let known : exactly (Ok (run_written files false outcome)) behind came = rw is at follows in
    written_status files outcome came ran known.1 sure
outcome_status files between behind came (unmet is) follows sure =
    let none : Follows {A = Outcome} (Err no_memory) (λ (outcome : Outcome). exactly (Ok (run_written files false outcome))) behind came = rw is at follows in
    absurd (lost no_memory came none.1 sure)

setup_status : (read : Result SetupFiles Reason) (behind : List (List ℕ)) (came : Result Written Reason) → Follows read (λ (files : SetupFiles). ThreadedRunOfFiles files) behind came → IsFound came
    → HasStatusOf read (status_meant came)
setup_status (Ok files) behind came follows sure = outcome_status files follows.between follows.behind came follows.is.1 follows.follows sure
setup_status (Err reason) behind came follows sure = ap status_meant follows.1

-- the status that goes with what came of `run` is that of what is found of the device's files
pub run_status : OneSetupEach → (device : List ℕ) (held : Contents) (names asked : List (List ℕ)) (came : Result Written Reason) (read : Result SetupFiles Reason) → run_plan device (Some held) names came → IsFound came
    → SetupIn device (Some held) asked read → IsFound read → HasStatusOf read (status_meant came)
unfolding run_plan
run_status one device held names asked came read plan sure is certain =
    let next : SetupFiles → CommandStep Written = λ files. ThreadedRunOfFiles files in
    let early = found_before next plan.between plan.behind came plan.follows sure in
    let same : plan.between ≡ read = (one device held plan.before asked plan.between read plan.is is early certain).1 in
    subst (λ (r : Result SetupFiles Reason). HasStatusOf r (status_meant came)) same (setup_status plan.between plan.behind came plan.follows sure)
