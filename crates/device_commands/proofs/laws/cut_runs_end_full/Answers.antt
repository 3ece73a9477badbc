use Rattle.device_commands.proofs.WholeRuns.{full_where_cut}
use Rattle.device_commands.proofs.laws.cut_runs_end_full.Goals as goal

pub returns : goal.returns
returns c = full_where_cut
