use Rattle.std.proofs.Common.{List, ℕ, Option, Ok}
use Rattle.att_base.specs.Files.{Contents}
use Rattle.loader.specs.declared.placed.Placed.{Placed}
use Rattle.device_config.specs.declared.plans.DevicePlan.{DevicePlan}
use Rattle.command_plans.specs.Steps.{CommandStep, exactly, Then}
use Rattle.command_plans.specs.Written.{Written}
use Rattle.command_plans.specs.Answered.{came_of}
use Rattle.command_plans.proofs.Binds.{stops, goes_on, then_known}
use Rattle.device_inputs.specs.Inputs.{DeviceIn, PlacedIn}
use Rattle.device_commands.specs.Plans.{attested_image, image_plan, written_image}
use Rattle.device_commands.proofs.image.prepare_image.Goals as goal

-- what follows upon the device file
abbrev memory_then : List ℕ → List ℕ → DevicePlan → Option Contents → CommandStep Written
memory_then device out plan files = Then (PlacedIn device plan files) (λ (memory : Placed). exactly (Ok (written_image out (attested_image plan memory.image))))

pub returns-in_err-plan : goal.returns-in_err-plan
unfolding image_plan
returns-in_err-plan g c =
    stops (DeviceIn c.args.device.now) (memory_then c.args.device.now c.args.out.now) (λ o. o) c.from_residual.result c.in_err-plan.field-0.0 (g.F.Files.shows c.args.files.now) (g.F.Files.shows c.read_device.new.files)
    c.from_residual.ensures.1 c.in_err-plan.ensures.reads

pub returns-in_err-placed : goal.returns-in_err-placed
unfolding image_plan
returns-in_err-placed g c =
    let device = c.args.device.now in
    let out = c.args.out.now in
    let plan = c.in_ok-plan.plan in
    let old = g.F.Files.shows c.args.files.now in
    let one = g.F.Files.shows c.read_device.new.files in
    let two = g.F.Files.shows c.read_placed.new.files in
    goes_on (DeviceIn device) (memory_then device out) plan (came_of (λ o. o) c.from_residual-in_err-placed.result) old one two c.in_ok-plan.ensures.reads
    (stops (PlacedIn device plan) (λ (memory : Placed) files. exactly (Ok (written_image out (attested_image plan memory.image)))) (λ o. o) c.from_residual-in_err-placed.result c.in_err-placed.field-0.0 one two
    c.from_residual-in_err-placed.ensures.1 c.in_err-placed.ensures.reads)

pub returns : goal.returns
unfolding image_plan
returns g c =
    let device = c.args.device.now in
    let out = c.args.out.now in
    let plan = c.in_ok-plan.plan in
    let old = g.F.Files.shows c.args.files.now in
    let one = g.F.Files.shows c.read_device.new.files in
    let two = g.F.Files.shows c.read_placed.new.files in
    goes_on (DeviceIn device) (memory_then device out) plan (came_of (λ o. o) c.image_output.result) old one two c.in_ok-plan.ensures.reads
    (then_known (PlacedIn device plan) (λ (memory : Placed). Ok (written_image out (attested_image plan memory.image))) c.in_ok-placed.placed (λ o. o) c.image_output.result one two c.in_ok-placed.ensures.reads
    (rw c.as_slice.ensures at c.image_output.ensures))
