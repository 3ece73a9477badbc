use Rattle.std.proofs.Common.{List, ℕ}
use Rattle.loader.specs.Placing.{placed}
use Rattle.command_plans.specs.Steps.{exactly}
use Rattle.command_plans.proofs.Binds.{stops, then_known}
use Rattle.device_inputs.specs.Inputs.{AppFilesIn, PlacedIn, checked_placing}
use Rattle.device_inputs.proofs.applications.read_placed.Goals as goal

pub returns-in_err-apps-clause-reads : goal.returns-in_err-apps-clause-reads
unfolding PlacedIn
returns-in_err-apps-clause-reads g c =
    let plan = c.args.plan.now in
    stops (AppFilesIn plan.apps) (λ (apps : List (List ℕ)) files. exactly (checked_placing c.args.device.now (placed plan.geometry apps))) (λ image. image) c.from_residual.result c.in_err-apps.field-0.0
    (g.F.Files.shows c.args.files.now) (g.F.Files.shows c.read_app_files.new.files) c.from_residual.ensures.1 (rw c.as_slice.ensures at c.in_err-apps.ensures.reads)

pub returns-clause-reads : goal.returns-clause-reads
unfolding PlacedIn
returns-clause-reads g c =
    let plan = c.args.plan.now in
    then_known (AppFilesIn plan.apps) (λ (apps : List (List ℕ)). checked_placing c.args.device.now (placed plan.geometry apps)) c.in_ok-apps.apps (λ image. image) c.checked_placing.result (g.F.Files.shows c.args.files.now)
    (g.F.Files.shows c.read_app_files.new.files) (rw c.as_slice.ensures at c.in_ok-apps.ensures.reads) (rw c.as_slice-2.ensures at c.checked_placing.ensures.gives)
