-- By what the tallies have counted.
use Rattle.device.proofs.Ran.{waits_told}
use Rattle.device.proofs.shared.SharedDevice.run_threads.Goals as goal

pub returns-clause-waits : goal.returns-clause-waits
returns-clause-waits g c =
    waits_told c.run.result.setup c.args.self c.run.result.state c.finish.result.chronicle.entries c.finish.result.apps c.run.ensures.setup c.finish.ensures.entries c.run.ensures.waits c.finish.ensures.waits
