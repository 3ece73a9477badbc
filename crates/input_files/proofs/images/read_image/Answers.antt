use Rattle.std.proofs.Common.{List, ℕ, Ok, Err}
use Rattle.image_set.specs.Match.{Known}
use Rattle.command_plans.specs.Reading.{input_limit, ReadFile}
use Rattle.command_plans.specs.Steps.{exactly}
use Rattle.command_plans.proofs.Binds.{stops, then_known}
use Rattle.input_files.specs.InputFiles.{ImageIn, checked_image}
use Rattle.input_files.proofs.images.read_image.Goals as goal

pub returns-in_err-bytes-clause-reads : goal.returns-in_err-bytes-clause-reads
unfolding ImageIn
returns-in_err-bytes-clause-reads g c =
    stops (ReadFile input_limit c.args.name.now) (λ (bytes : List ℕ) files. exactly (checked_image c.args.set.now c.args.name.now bytes)) (λ _. c.args.set.now) c.from_residual.result c.in_err-bytes.field-0.0
    (g.F.Files.shows c.args.files.now) (g.F.Files.shows c.read_file.new.files) c.from_residual.ensures.1 c.in_err-bytes.ensures.reads

pub returns-in-Ok-clause-reads : goal.returns-in-Ok-clause-reads
unfolding ImageIn
returns-in-Ok-clause-reads g c =
    then_known {V = Known} (ReadFile input_limit c.args.name.now) (checked_image c.args.set.now c.args.name.now) c.in_ok-bytes.bytes.items (λ set. set) (Ok c.add_image.new.set) (g.F.Files.shows c.args.files.now) (g.F.Files.shows c.read_file.new.files)
    c.in_ok-bytes.ensures.reads c.in-Ok.ensures.gives

pub returns-in-Err-clause-reads : goal.returns-in-Err-clause-reads
unfolding ImageIn
returns-in-Err-clause-reads g c =
    then_known {V = Known} (ReadFile input_limit c.args.name.now) (checked_image c.args.set.now c.args.name.now) c.in_ok-bytes.bytes.items (λ set. set) (Err c.in-Err.stop) (g.F.Files.shows c.args.files.now) (g.F.Files.shows c.read_file.new.files)
    c.in_ok-bytes.ensures.reads c.in-Err.ensures.gives
