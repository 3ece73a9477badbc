-- The order rule allows one End and one Release in a pass, and no Start before the Release that an extended one owes.
use Rattle.device.proofs.OnePass.{one_end, one_release}
use Rattle.device.proofs.Releases.{released}
use Rattle.device.proofs.outcome_laws.passes_end_once.Goals as goal

pub returns : goal.returns
returns c = record { ends = one_end; releases = one_release; released = released }
