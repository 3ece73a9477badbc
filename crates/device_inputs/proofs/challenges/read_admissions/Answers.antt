use Rattle.std.proofs.Common.{List, ℕ, Ok}
use Rattle.command_plans.specs.Steps.{exactly}
use Rattle.command_plans.proofs.Binds.{stops, then_known}
use Rattle.device_inputs.specs.Admissions.{admissions}
use Rattle.device_inputs.specs.Inputs.{ChallengeFilesIn}
use Rattle.device_inputs.specs.Setups.{AdmissionsIn}
use Rattle.device_inputs.proofs.challenges.read_admissions.Goals as goal

pub returns-in_err-sent-clause-reads : goal.returns-in_err-sent-clause-reads
unfolding AdmissionsIn
returns-in_err-sent-clause-reads g c =
    stops (ChallengeFilesIn c.args.challenges.now) (λ (sent : List (List ℕ)) files. exactly (Ok (admissions c.args.key.now c.args.last sent))) (λ all. all) c.from_residual.result c.in_err-sent.field-0.0
    (g.F.Files.shows c.args.files.now) (g.F.Files.shows c.read_challenge_files.new.files) c.from_residual.ensures.1 c.in_err-sent.ensures.reads

pub returns-clause-reads : goal.returns-clause-reads
unfolding AdmissionsIn
returns-clause-reads g c =
    then_known (ChallengeFilesIn c.args.challenges.now) (λ (sent : List (List ℕ)). Ok (admissions c.args.key.now c.args.last sent)) c.in_ok-sent.sent (λ all. all) c.admitted.result (g.F.Files.shows c.args.files.now)
    (g.F.Files.shows c.read_challenge_files.new.files) c.in_ok-sent.ensures.reads (rw c.as_slice.ensures at c.admitted.ensures.gives)
