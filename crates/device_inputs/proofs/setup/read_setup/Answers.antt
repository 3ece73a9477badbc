use Rattle.device_inputs.specs.Inputs.{DeviceIn}
use Rattle.command_plans.specs.Answered.{came_of}
use Rattle.command_plans.proofs.Binds.{stops, goes_on}
use Rattle.device_inputs.specs.Setups.{NamedIn, SetupIn}
use Rattle.device_inputs.proofs.setup.read_setup.Goals as goal

pub returns-in_err-plan-clause-reads : goal.returns-in_err-plan-clause-reads
unfolding SetupIn
returns-in_err-plan-clause-reads g c =
    stops (DeviceIn c.args.device.now) (NamedIn c.args.device.now) (λ s. s) c.from_residual.result c.in_err-plan.field-0.0 (g.F.Files.shows c.args.files.now) (g.F.Files.shows c.read_device.new.files)
    c.from_residual.ensures.1 c.in_err-plan.ensures.reads

pub returns-clause-reads : goal.returns-clause-reads
unfolding SetupIn
returns-clause-reads g c =
    goes_on (DeviceIn c.args.device.now) (NamedIn c.args.device.now) c.in_ok-plan.plan (came_of (λ s. s) c.read_named.result) (g.F.Files.shows c.args.files.now) (g.F.Files.shows c.read_device.new.files) (g.F.Files.shows c.read_named.new.files)
    c.in_ok-plan.ensures.reads c.read_named.ensures.reads
