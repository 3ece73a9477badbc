use Rattle.std.proofs.Common.{◌≡◌, ◌≤◌, length, reverse, option_map}
use Rattle.history.specs.Memory.{back}
use Rattle.history.specs.Pass.{pass_after}
use Rattle.trace.specs.Confirm.{opening_of}
use Rattle.trace.proofs.confirm.last_opening.Given as goal

abbrev pub invariant-loop-place : goal.invariant-loop-place
invariant-loop-place l = record {
  within : l.place ≤ length l.entries;
  same : option_map opening_of (pass_after (reverse l.entries)) ≡ option_map opening_of (pass_after (back l.entries l.place));
}

abbrev pub decreases-loop-place : goal.decreases-loop-place
decreases-loop-place l = l.place
