use Rattle.std.proofs.Common.{◌-◌}
use Rattle.turn_bench.proofs.+fn-run_all-lower+fn-run_all-upper+run_all.Given as goal

abbrev pub decreases-lower : goal.decreases-lower
decreases-lower g l = l.first.high - l.first.low

abbrev pub decreases-upper : goal.decreases-upper
decreases-upper g l = l.second.high - l.second.low

abbrev pub decreases-run_all : goal.decreases-run_all
decreases-run_all g l = l.pass.high - l.pass.low
