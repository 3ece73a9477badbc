use Rattle.std.proofs.Common.{◌≡◌, ◌^◌, ◌≤◌, arith}
use Rattle.std.proofs.Math.Nat.{pow-le-pow_right}
use Rattle.block_memory.proofs.geometry.Geometry.size.Goals as goal

pub returns-clause-least : goal.returns-clause-least
returns-clause-least c =
    let size = c.self.invariant.block_size in
    let power : 2 ^ 4 ≤ 2 ^ size.0 = pow-le-pow_right {n = 2} (omega arith) size.1 in
    let is : c.self.inside.size ≡ 2 ^ size.0 = size.3 in
    omega (arith, power, is)
