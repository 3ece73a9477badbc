use Rattle.std.proofs.Common.{List, ℕ, Option, Some, Ok, refl}
use Rattle.command_plans.specs.Reading.{input_limit, ReadFile}
use Rattle.command_plans.specs.Steps.{exactly}
use Rattle.command_plans.specs.Answered.{reason_of}
use Rattle.command_plans.proofs.Binds.{stopped, then_known}
use Rattle.message_commands.proofs.reading.read_note.Goals as goal

pub returns-in-Ok : goal.returns-in-Ok
returns-in-Ok g c =
    rw c.in-Some.is (then_known {V = Option (List ℕ)} (ReadFile input_limit c.in-Some.name.now) (λ (bytes : List ℕ). Ok (Some bytes)) c.in-Ok.bytes.items (λ o. o) (Ok (Some c.in-Ok.bytes.items)) (g.F.Files.shows c.args.files.now)
    (g.F.Files.shows c.read_file.new.files) c.in-Ok.ensures.reads refl)

pub returns-in-Err : goal.returns-in-Err
returns-in-Err g c =
    rw c.in-Some.is (stopped (ReadFile input_limit c.in-Some.name.now) (λ (bytes : List ℕ) files. exactly (Ok (Some bytes))) (reason_of c.in-Err.stop) (g.F.Files.shows c.args.files.now) (g.F.Files.shows c.read_file.new.files)
    c.in-Err.ensures.reads)
