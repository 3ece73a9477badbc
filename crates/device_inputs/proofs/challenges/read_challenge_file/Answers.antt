use Rattle.device_inputs.specs.Inputs.{ChallengeFileIn}
use Rattle.device_inputs.proofs.challenges.read_challenge_file.Goals as goal

pub returns-in-Ok : goal.returns-in-Ok
unfolding ChallengeFileIn
returns-in-Ok g c = rw (c.as_str.ensures, ← c.from_vec.ensures) at c.in-Ok.ensures.reads

pub returns-in-Err : goal.returns-in-Err
unfolding ChallengeFileIn
returns-in-Err g c = rw c.as_str.ensures at c.in-Err.ensures.reads
