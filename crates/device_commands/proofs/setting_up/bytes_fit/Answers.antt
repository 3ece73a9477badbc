use Rattle.std.proofs.Common.{arith}
use Rattle.std.proofs.lemmas.List.{get_or_default}
use Rattle.device_commands.proofs.setting_up.bytes_fit.Goals as goal

pub returns : goal.returns
returns c = λ k d below. omega (arith, c.type_inv.bytes k, get_or_default c.args.bytes.now k d 0 below)
