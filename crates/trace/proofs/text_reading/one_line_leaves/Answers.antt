use Rattle.trace.proofs.Begun.{one_line}
use Rattle.trace.proofs.text_reading.one_line_leaves.Goals as goal

pub returns : goal.returns
returns c = one_line
