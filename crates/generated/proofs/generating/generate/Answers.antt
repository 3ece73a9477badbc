-- There are eight applications.
use Rattle.std.proofs.Common.{ap, arith, length}
use Rattle.device.specs.Setups.{Setup}
use Rattle.generated.proofs.Setups.{program_count}
use Rattle.generated.proofs.generating.generate.Goals as goal

pub returns-clause-actors : goal.returns-clause-actors
returns-clause-actors c = λ k d within.
    omega (arith, c.in_ok-schedule.ensures.actors k d within, program_count c.new-draws.result.seed, ap (λ (s : Setup). length s.programs) c.in_ok-device.ensures.setup)
