use Rattle.std.proofs.Common.{sym, arith}
use Rattle.rv_asm.specs.Labels.{addresses_in}
use Rattle.rv_asm.proofs.Far.{jump_too_far}
use Rattle.rv_asm.proofs.coding.jump_to.Goals as goal

pub returns-in-None : goal.returns-in-None
returns-in-None c = jump_too_far (addresses_in c.args.labels.now) c.args.here c.args.rd c.args.label.now c.in-Ok.address (sym c.in-Ok.ensures) (omega arith) c.in-None.ensures
