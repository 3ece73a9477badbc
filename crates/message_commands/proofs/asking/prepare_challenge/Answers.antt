use Rattle.std.proofs.Common.{List, ℕ, Ok}
use Rattle.command_plans.specs.Steps.{exactly}
use Rattle.command_plans.proofs.Binds.{stops, then_known}
use Rattle.input_files.specs.InputFiles.{KeyIn}
use Rattle.message_commands.specs.Plans.{challenge_plan, written_challenge}
use Rattle.message_commands.proofs.asking.prepare_challenge.Goals as goal

pub returns-in_err-bytes : goal.returns-in_err-bytes
unfolding challenge_plan
returns-in_err-bytes g c =
    stops (KeyIn c.args.key.now) (λ (bytes : List ℕ) files. exactly (Ok (written_challenge bytes c.args.challenge.now c.args.out.now))) (λ o. o) c.from_residual.result c.in_err-bytes.field-0.0 (g.F.Files.shows c.args.files.now)
    (g.F.Files.shows c.read_key.new.files) c.from_residual.ensures.1 c.in_err-bytes.ensures

pub returns : goal.returns
unfolding challenge_plan
returns g c =
    then_known (KeyIn c.args.key.now) (λ (bytes : List ℕ). Ok (written_challenge bytes c.args.challenge.now c.args.out.now)) c.in_ok-bytes.bytes.items (λ o. o) c.challenge_output.result (g.F.Files.shows c.args.files.now)
    (g.F.Files.shows c.read_key.new.files) c.in_ok-bytes.ensures (rw c.deref.ensures.value at c.challenge_output.ensures)
