use Rattle.std.proofs.Common.{Ok, length}
use Rattle.schedule_text.specs.Schedules.{IsSchedule}
use Rattle.command_plans.specs.Answered.{came_of}
use Rattle.command_plans.specs.Steps.{exactly}
use Rattle.command_plans.proofs.Binds.{stops}
use Rattle.device_inputs.specs.Inputs.{DeviceIn, ScheduleIn}
use Rattle.device_inputs.specs.Setups.{NamedIn, ScheduledIn}
use Rattle.device_inputs.proofs.Named.{scheduled_of, schedule_then, named_then, behind_device, behind_schedule, with_setup}
use Rattle.device_inputs.proofs.setup.read_scheduled.Goals as goal

pub returns-in_err-plan-clause-reads : goal.returns-in_err-plan-clause-reads
unfolding ScheduledIn
returns-in_err-plan-clause-reads g c =
    stops (DeviceIn c.args.device.now) (schedule_then c.args.device.now c.args.schedule.now) (λ s. s) c.from_residual.result c.in_err-plan.field-0.0 (g.F.Files.shows c.args.files.now) (g.F.Files.shows c.read_device.new.files)
    c.from_residual.ensures.1 c.in_err-plan.ensures.reads

pub returns-in_err-schedule-clause-reads : goal.returns-in_err-schedule-clause-reads
returns-in_err-schedule-clause-reads g c =
    let device = c.args.device.now in
    let schedule = c.args.schedule.now in
    let plan = c.in_ok-plan.plan in
    let old = g.F.Files.shows c.args.files.now in
    let one = g.F.Files.shows c.read_device.new.files in
    let two = g.F.Files.shows c.read_schedule.new.files in
    behind_device device schedule plan (came_of (λ s. s) c.from_residual-in_err-schedule.result) old one two c.in_ok-plan.ensures.reads
    (stops (ScheduleIn schedule (length plan.apps)) (named_then device plan) (λ s. s) c.from_residual-in_err-schedule.result c.in_err-schedule.field-0.0 one two c.from_residual-in_err-schedule.ensures.1
    (rw c.len-apps.ensures at c.in_err-schedule.ensures.reads))

pub returns-in_err-setup-clause-reads : goal.returns-in_err-setup-clause-reads
returns-in_err-setup-clause-reads g c =
    let device = c.args.device.now in
    let schedule = c.args.schedule.now in
    let plan = c.in_ok-plan.plan in
    let runs = c.in_ok-schedule.schedule in
    let old = g.F.Files.shows c.args.files.now in
    let one = g.F.Files.shows c.read_device.new.files in
    let two = g.F.Files.shows c.read_schedule.new.files in
    let three = g.F.Files.shows c.read_named.new.files in
    let came = came_of (λ s. s) c.from_residual-in_err-setup.result in
    behind_device device schedule plan came old one three c.in_ok-plan.ensures.reads
    (behind_schedule device schedule plan runs came one two three (rw c.len-apps.ensures at c.in_ok-schedule.ensures.reads)
    (stops (NamedIn device plan) (λ setup files. exactly (Ok (scheduled_of setup runs))) (λ s. s) c.from_residual-in_err-setup.result c.in_err-setup.field-0.0 two three c.from_residual-in_err-setup.ensures.1
    c.in_err-setup.ensures.reads))

pub returns-clause-reads : goal.returns-clause-reads
returns-clause-reads g c =
    let device = c.args.device.now in
    let schedule = c.args.schedule.now in
    let plan = c.in_ok-plan.plan in
    let runs = c.in_ok-schedule.schedule in
    let setup = c.in_ok-setup.setup in
    let old = g.F.Files.shows c.args.files.now in
    let one = g.F.Files.shows c.read_device.new.files in
    let two = g.F.Files.shows c.read_schedule.new.files in
    let three = g.F.Files.shows c.read_named.new.files in
    behind_device device schedule plan (Ok (scheduled_of setup runs)) old one three c.in_ok-plan.ensures.reads
    (behind_schedule device schedule plan runs (Ok (scheduled_of setup runs)) one two three (rw c.len-apps.ensures at c.in_ok-schedule.ensures.reads)
    (with_setup device plan runs setup two three c.in_ok-setup.ensures.reads))

pub returns-clause-setup : goal.returns-clause-setup
returns-clause-setup g c =
    let plan = c.in_ok-plan.plan in
    let of_plan : IsSchedule (length plan.apps) c.in_ok-schedule.schedule = rw c.len-apps.ensures at c.in_ok-schedule.ensures.schedule in
    record { setup = c.in_ok-setup.ensures.setup; schedule = rw c.in_ok-setup.ensures.plan of_plan }
