use Rattle.trace_commands.proofs.Runs.{spent_run}
use Rattle.trace_commands.proofs.generating.prepare_gen.Goals as goal

pub returns-in_default-clause-comes : goal.returns-in_default-clause-comes
returns-in_default-clause-comes g c = spent_run c.args.seed
