use Rattle.std.proofs.Common.{List, ℕ}
use Rattle.command_plans.specs.Steps.{exactly}
use Rattle.command_plans.specs.Reading.{input_limit, ReadFile}
use Rattle.command_plans.proofs.Binds.{stops, then_known}
use Rattle.rv_asm.specs.Assembled.{assembled}
use Rattle.executable_commands.specs.Plans.{asm_plan, checked_assembly}
use Rattle.executable_commands.proofs.asm.prepare_asm.Goals as goal

pub returns-in_err-source : goal.returns-in_err-source
unfolding asm_plan
returns-in_err-source g c =
    stops (ReadFile input_limit c.args.text.now) (λ (source : List ℕ) files. exactly (checked_assembly c.args.text.now c.args.elf.now (assembled source))) (λ o. o) c.from_residual.result c.in_err-source.field-0.0
    (g.F.Files.shows c.args.files.now) (g.F.Files.shows c.read_file.new.files) c.from_residual.ensures.1 c.in_err-source.ensures.reads

pub returns : goal.returns
unfolding asm_plan
returns g c =
    then_known (ReadFile input_limit c.args.text.now) (λ (source : List ℕ). checked_assembly c.args.text.now c.args.elf.now (assembled source)) c.in_ok-source.source.items (λ o. o) c.asm_output.result (g.F.Files.shows c.args.files.now)
    (g.F.Files.shows c.read_file.new.files) c.in_ok-source.ensures.reads (rw c.deref.ensures.value at c.asm_output.ensures)
