use Rattle.generated.proofs.Setups.{layout_fits}
use Rattle.generated.proofs.devices.geometry.Goals as goal

pub unreachable-requires : goal.unreachable-requires
unreachable-requires c = c.in-None.ensures layout_fits
