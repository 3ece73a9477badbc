use Rattle.std.proofs.Common.{◌≡◌, drop}
use Rattle.rv_asm.specs.Second.{nothing, output_of}
use Rattle.rv_asm.specs.Labels.{addresses_in}
use Rattle.rv_asm.specs.Kept.{kept_orders, second_kept}
use Rattle.rv_asm.proofs.second.second_pass.Given as goal

abbrev pub invariant-loop-item : goal.invariant-loop-item
invariant-loop-item l = second_kept (addresses_in l.labels) (output_of l.output) (kept_orders (drop l.item-index l.kept)) ≡ second_kept (addresses_in l.labels) nothing (kept_orders l.kept)
