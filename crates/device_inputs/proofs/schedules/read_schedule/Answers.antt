use Rattle.std.proofs.Common.{List, ℕ}
use Rattle.schedule_text.specs.Schedules.{schedule_of}
use Rattle.command_plans.specs.Reading.{input_limit, ReadFile}
use Rattle.command_plans.specs.Steps.{exactly}
use Rattle.command_plans.proofs.Binds.{stops, then_known}
use Rattle.device_inputs.specs.Inputs.{ScheduleIn, checked_schedule}
use Rattle.device_inputs.proofs.schedules.read_schedule.Goals as goal

pub returns-in_err-text-clause-reads : goal.returns-in_err-text-clause-reads
unfolding ScheduleIn
returns-in_err-text-clause-reads g c =
    stops (ReadFile input_limit c.args.name.now) (λ (text : List ℕ) files. exactly (checked_schedule c.args.name.now (schedule_of c.args.apps text))) (λ runs. runs) c.from_residual.result c.in_err-text.field-0.0
    (g.F.Files.shows c.args.files.now) (g.F.Files.shows c.read_file.new.files) c.from_residual.ensures.1 c.in_err-text.ensures.reads

pub returns-clause-reads : goal.returns-clause-reads
unfolding ScheduleIn
returns-clause-reads g c =
    then_known (ReadFile input_limit c.args.name.now) (λ (text : List ℕ). checked_schedule c.args.name.now (schedule_of c.args.apps text)) c.in_ok-text.text.items (λ runs. runs) c.checked_schedule.result (g.F.Files.shows c.args.files.now)
    (g.F.Files.shows c.read_file.new.files) c.in_ok-text.ensures.reads (rw c.deref.ensures.value at c.checked_schedule.ensures.gives)
