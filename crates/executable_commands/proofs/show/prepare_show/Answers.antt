use Rattle.std.proofs.Common.{List, ℕ}
use Rattle.command_plans.specs.Steps.{exactly}
use Rattle.command_plans.specs.Reading.{input_limit, ReadFile}
use Rattle.command_plans.proofs.Binds.{stops, then_known}
use Rattle.elf32.specs.Files.{elf_of}
use Rattle.executable_commands.specs.Plans.{checked_listing, show_plan}
use Rattle.executable_commands.proofs.show.prepare_show.Goals as goal

pub returns-in_err-bytes : goal.returns-in_err-bytes
unfolding show_plan
returns-in_err-bytes g c =
    stops (ReadFile input_limit c.args.elf.now) (λ (bytes : List ℕ) files. exactly (checked_listing c.args.elf.now (elf_of bytes))) (λ o. o) c.from_residual.result c.in_err-bytes.field-0.0 (g.F.Files.shows c.args.files.now)
    (g.F.Files.shows c.read_file.new.files) c.from_residual.ensures.1 c.in_err-bytes.ensures.reads

pub returns : goal.returns
unfolding show_plan
returns g c =
    then_known (ReadFile input_limit c.args.elf.now) (λ (bytes : List ℕ). checked_listing c.args.elf.now (elf_of bytes)) c.in_ok-bytes.bytes.items (λ o. o) c.show_output.result (g.F.Files.shows c.args.files.now)
    (g.F.Files.shows c.read_file.new.files) c.in_ok-bytes.ensures.reads c.show_output.ensures
