-- By what is kept of each actor.
use Rattle.std.proofs.Common.{subst}
use Rattle.device.specs.Runs.{IsRunSoFar}
use Rattle.device.proofs.Devices.{run_so_far}
use Rattle.device.proofs.device.Device.so_far.Goals as goal

pub returns-clause-run : goal.returns-clause-run
returns-clause-run c =
    let d = c.self.inside in
    subst (λ x. IsRunSoFar x.setup x.state.history) c.self.view_is (run_so_far c.own_entries.ensures.append d.core.world d.key.items d.core.history d.slots.items d.passes c.length-length.ensures.legal c.self.invariant.0)
