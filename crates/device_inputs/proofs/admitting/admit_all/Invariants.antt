use Rattle.std.proofs.Common.{◌≡◌, ◌++◌, drop}
use Rattle.device_inputs.specs.Admissions.{admissions}
use Rattle.device_inputs.proofs.admitting.admit_all.Given as goal

-- what became of those so far, and what becomes of the others from this counter on
abbrev pub invariant-loop-bytes : goal.invariant-loop-bytes
invariant-loop-bytes l = l.all ++ admissions l.key l.greatest (drop l.bytes-index l.sent) ≡ admissions l.key l.fn.last l.sent
