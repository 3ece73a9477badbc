use Rattle.std.proofs.Common.{◌≡◌, length, drop}
use Rattle.device_inputs.specs.Inputs.{ChallengeFileIn}
use Rattle.device_inputs.proofs.EachRead.{SoFar}
use Rattle.device_inputs.proofs.challenges.read_challenge_files.Given as goal

-- what comes of the files that are left comes of all
abbrev pub invariant-loop-challenge : goal.invariant-loop-challenge
invariant-loop-challenge g l = record {
  goes : SoFar ChallengeFileIn l.list (drop l.challenge-index l.challenges) l.challenges (g.F.Files.shows l.fn.files) (g.F.Files.shows l.files);
  count : length l.list ≡ l.challenge-index;
}
