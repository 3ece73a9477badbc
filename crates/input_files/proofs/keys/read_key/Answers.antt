use Rattle.command_plans.specs.Reading.{input_limit, ReadFile}
use Rattle.command_plans.specs.Steps.{exactly}
use Rattle.command_plans.proofs.Binds.{stops, then_known}
use Rattle.input_files.specs.InputFiles.{KeyIn, checked_key}
use Rattle.input_files.proofs.keys.read_key.Goals as goal

pub returns-in_err-bytes : goal.returns-in_err-bytes
unfolding KeyIn
returns-in_err-bytes g c =
    stops (ReadFile input_limit c.args.name.now) (λ bytes files. exactly (checked_key c.args.name.now bytes)) (λ v. v.items) c.from_residual.result c.in_err-bytes.field-0.0 (g.F.Files.shows c.args.files.now)
    (g.F.Files.shows c.read_file.new.files) c.from_residual.ensures.1 c.in_err-bytes.ensures.reads

pub returns : goal.returns
unfolding KeyIn
returns g c =
    then_known (ReadFile input_limit c.args.name.now) (checked_key c.args.name.now) c.in_ok-bytes.bytes.items (λ v. v.items) c.checked_key.result (g.F.Files.shows c.args.files.now) (g.F.Files.shows c.read_file.new.files)
    c.in_ok-bytes.ensures.reads c.checked_key.ensures
