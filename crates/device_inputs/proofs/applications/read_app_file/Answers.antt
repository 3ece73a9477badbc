use Rattle.std.proofs.Common.{List, ℕ}
use Rattle.elf32.specs.Files.{elf_of}
use Rattle.command_plans.specs.Reading.{input_limit, ReadFile}
use Rattle.command_plans.specs.Steps.{exactly}
use Rattle.command_plans.proofs.Binds.{stops, then_known}
use Rattle.device_inputs.specs.Inputs.{AppFileIn, if_sound}
use Rattle.device_inputs.proofs.applications.read_app_file.Goals as goal

pub returns-in_err-bytes-clause-reads : goal.returns-in_err-bytes-clause-reads
unfolding AppFileIn
returns-in_err-bytes-clause-reads g c =
    let name = c.args.app.now.file in
    stops (ReadFile input_limit name) (λ (bytes : List ℕ) files. exactly (if_sound name bytes (elf_of bytes))) (λ file. file) c.from_residual.result c.in_err-bytes.field-0.0
    (g.F.Files.shows c.args.files.now) (g.F.Files.shows c.read_file.new.files) c.from_residual.ensures.1 (rw c.as_str.ensures at c.in_err-bytes.ensures.reads)

pub returns-clause-reads : goal.returns-clause-reads
unfolding AppFileIn
returns-clause-reads g c =
    let name = c.args.app.now.file in
    then_known (ReadFile input_limit name) (λ (bytes : List ℕ). if_sound name bytes (elf_of bytes)) c.in_ok-bytes.bytes.items (λ file. file) c.if_sound.result (g.F.Files.shows c.args.files.now)
    (g.F.Files.shows c.read_file.new.files) (rw c.as_str.ensures at c.in_ok-bytes.ensures.reads) (rw c.as_str-2.ensures at c.if_sound.ensures.gives)
