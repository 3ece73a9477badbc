-- All Starts are the measurer's, whose program starts each counter once.
use Rattle.device.proofs.Starts.{starts_once}
use Rattle.device.proofs.outcome_laws.counters_start_once.Goals as goal

pub returns : goal.returns
returns c = starts_once
