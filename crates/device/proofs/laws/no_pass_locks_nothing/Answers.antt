-- By cases on the act, and for a store on the pass and its discipline.
use Rattle.device.proofs.Told.{allowed_without_pass}
use Rattle.device.proofs.laws.no_pass_locks_nothing.Goals as goal

pub returns : goal.returns
returns c = allowed_without_pass
