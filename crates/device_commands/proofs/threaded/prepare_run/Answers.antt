use Rattle.command_plans.specs.Answered.{came_of}
use Rattle.command_plans.proofs.Binds.{stops, goes_on, comes_purely}
use Rattle.device_inputs.specs.declared.setup.SetupFiles.{SetupFiles}
use Rattle.device_inputs.specs.Setups.{SetupIn}
use Rattle.device_commands.specs.Plans.{ThreadedRunOfFiles, run_plan}
use Rattle.device_commands.proofs.threaded.prepare_run.Goals as goal

pub returns-in_err-read : goal.returns-in_err-read
unfolding run_plan
returns-in_err-read g c =
    stops (SetupIn c.args.device.now) (λ (read : SetupFiles) files. ThreadedRunOfFiles read) (λ o. o) c.from_residual.result c.in_err-read.field-0.0 (g.F.Files.shows c.args.files.now) (g.F.Files.shows c.read_setup.new.files)
    c.from_residual.ensures.1 c.in_err-read.ensures.reads

pub returns : goal.returns
unfolding run_plan
returns g c =
    let new = g.F.Files.shows c.read_setup.new.files in
    let read = c.in_ok-read.read in
    goes_on (SetupIn c.args.device.now) (λ (r : SetupFiles) files. ThreadedRunOfFiles r) read (came_of (λ o. o) c.run_of_files.result) (g.F.Files.shows c.args.files.now) new new
    c.in_ok-read.ensures.reads (comes_purely (ThreadedRunOfFiles read) (λ o. o) c.run_of_files.result new c.run_of_files.ensures.comes c.run_of_files.ensures.quiet)
