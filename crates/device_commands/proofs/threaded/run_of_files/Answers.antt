use Rattle.std.proofs.Common.{[], Err, refl}
use Rattle.command_plans.specs.Steps.{no_memory}
use Rattle.device_commands.specs.Plans.{spent}
use Rattle.device_commands.proofs.threaded.run_of_files.Goals as goal

pub returns-in_default-clause-comes : goal.returns-in_default-clause-comes
returns-in_default-clause-comes g c = record { before = []; between = Err no_memory; is = (refl, spent refl); behind = []; follows = (refl, refl); all = refl }
