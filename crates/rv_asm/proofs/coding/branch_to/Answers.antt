use Rattle.std.proofs.Common.{sym, arith}
use Rattle.rv_asm.specs.Labels.{addresses_in}
use Rattle.rv_asm.proofs.Far.{branch_too_far}
use Rattle.rv_asm.proofs.coding.branch_to.Goals as goal

pub returns-in-None : goal.returns-in-None
returns-in-None c =
    branch_too_far (addresses_in c.args.labels.now) c.args.here c.args.op c.args.rs1 c.args.rs2 c.args.label.now c.in-Ok.address (sym c.in-Ok.ensures) (omega arith) c.in-None.ensures
