use Rattle.command_plans.specs.Answered.{came_of}
use Rattle.command_plans.proofs.Binds.{stops, goes_on, comes_purely}
use Rattle.device_inputs.specs.declared.setup.ScheduledFiles.{ScheduledFiles}
use Rattle.device_inputs.specs.Setups.{ScheduledIn}
use Rattle.device_commands.specs.Plans.{RunOfFiles, sched_plan}
use Rattle.device_commands.proofs.scheduled.prepare_sched.Goals as goal

pub returns-in_err-read : goal.returns-in_err-read
unfolding sched_plan
returns-in_err-read g c =
    stops (ScheduledIn c.args.device.now c.args.schedule.now) (λ (read : ScheduledFiles) files. RunOfFiles read) (λ o. o) c.from_residual.result c.in_err-read.field-0.0 (g.F.Files.shows c.args.files.now) (g.F.Files.shows c.read_scheduled.new.files)
    c.from_residual.ensures.1 c.in_err-read.ensures.reads

pub returns : goal.returns
unfolding sched_plan
returns g c =
    let new = g.F.Files.shows c.read_scheduled.new.files in
    let read = c.in_ok-read.read in
    goes_on (ScheduledIn c.args.device.now c.args.schedule.now) (λ (r : ScheduledFiles) files. RunOfFiles r) read (came_of (λ o. o) c.run_of_files.result) (g.F.Files.shows c.args.files.now) new new
    c.in_ok-read.ensures.reads (comes_purely (RunOfFiles read) (λ o. o) c.run_of_files.result new c.run_of_files.ensures.comes c.run_of_files.ensures.quiet)
