use Rattle.std.proofs.Common.{◌≡◌, ◌++◌, All, drop}
use Rattle.device_commands.specs.ChallengeEnds.{IsSoundEnd, IsSoundPass, challenge_ends}
use Rattle.device_commands.proofs.ends.challenge_ends.Given as goal

-- what those so far have come to, and what the others have come to by the measurements that are left
abbrev pub invariant-loop-admission : goal.invariant-loop-admission
invariant-loop-admission l = record {
  ends : l.ends ++ challenge_ends l.judge (drop l.admission-index l.admissions) l.left ≡ challenge_ends l.judge l.admissions l.passes;
  left : All IsSoundPass l.left;
  sound : All IsSoundEnd l.ends;
}
