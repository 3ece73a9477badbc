-- The measurer has made all of its programs, after which no pass is open.
use Rattle.device.proofs.Told.{nobody_waits}
use Rattle.device.proofs.laws.nobody_waits_at_last.Goals as goal

pub returns : goal.returns
returns c = nobody_waits c.programs_stay_in_order.ensures.over c.no_pass_locks_nothing.ensures
