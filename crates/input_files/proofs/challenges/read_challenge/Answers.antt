use Rattle.std.proofs.Common.{List, ℕ}
use Rattle.challenge.specs.Bytes.{challenge_in}
use Rattle.command_plans.specs.Reading.{input_limit, ReadFile}
use Rattle.command_plans.specs.Steps.{exactly}
use Rattle.command_plans.proofs.Binds.{stops, then_known}
use Rattle.input_files.specs.InputFiles.{ChallengeIn, checked_challenge}
use Rattle.input_files.proofs.challenges.read_challenge.Goals as goal

pub returns-in_err-bytes : goal.returns-in_err-bytes
unfolding ChallengeIn
returns-in_err-bytes g c =
    stops (ReadFile input_limit c.args.name.now) (λ (bytes : List ℕ) files. exactly (checked_challenge c.args.name.now (challenge_in c.args.key.now bytes))) (λ sent. sent) c.from_residual.result c.in_err-bytes.field-0.0
    (g.F.Files.shows c.args.files.now) (g.F.Files.shows c.read_file.new.files) c.from_residual.ensures.1 c.in_err-bytes.ensures.reads

pub returns : goal.returns
unfolding ChallengeIn
returns g c =
    then_known (ReadFile input_limit c.args.name.now) (λ (bytes : List ℕ). checked_challenge c.args.name.now (challenge_in c.args.key.now bytes)) c.in_ok-bytes.bytes.items (λ sent. sent) c.checked_challenge.result
    (g.F.Files.shows c.args.files.now) (g.F.Files.shows c.read_file.new.files) c.in_ok-bytes.ensures.reads (rw c.deref.ensures.value at c.checked_challenge.ensures)
