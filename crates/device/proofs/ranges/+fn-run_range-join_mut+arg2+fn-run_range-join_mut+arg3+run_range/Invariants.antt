use Rattle.std.proofs.Common.{length}
use Rattle.device.proofs.ranges.+fn-run_range-join_mut+arg2+fn-run_range-join_mut+arg3+run_range.Given as goal

abbrev pub decreases-join_mut+arg2 : goal.decreases-join_mut+arg2
decreases-join_mut+arg2 g l = length l.front.now

abbrev pub decreases-join_mut+arg3 : goal.decreases-join_mut+arg3
decreases-join_mut+arg3 g l = length l.back.now

abbrev pub decreases-run_range : goal.decreases-run_range
decreases-run_range g l = length l.slots.now
