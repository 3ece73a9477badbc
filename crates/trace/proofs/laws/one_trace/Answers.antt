-- Line by line.
use Rattle.trace.proofs.OneTrace.{one_trace}
use Rattle.trace.proofs.laws.one_trace.Goals as goal

pub returns : goal.returns
returns c = one_trace
