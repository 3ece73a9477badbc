use Rattle.std.proofs.Common.{◌≡◌, ℕ, ◌+◌, ◌-◌, ◌*◌, drop, take, ap, ap₂, ◌∙◌, arith}
use Rattle.history.specs.Layout.{Layout}
use Rattle.trace.proofs.Hashed.{block_piece}
use Rattle.trace.proofs.confirm.block_of.Goals as goal

pub returns : goal.returns
returns c = λ m is.
    let w = c.args.world.now in
    let size : c.size-size.result ≡ w.layout.size = c.size-size.ensures.value ∙ ap (λ (l : Layout). l.size) c.geometry.ensures.value in
    let from : c.size-size.result * c.args.block ≡ w.layout.size * c.args.block = ap (λ s. s * c.args.block) size in
    let long : c.size-size.result * c.args.block + c.size-size.result - c.size-size.result * c.args.block ≡ w.layout.size = omega (arith, size) in
    ap₂ (λ (n at : ℕ). take n (drop at c.args.memory.now)) long from ∙ block_piece w m c.args.memory.now c.args.block is c.requires.block
