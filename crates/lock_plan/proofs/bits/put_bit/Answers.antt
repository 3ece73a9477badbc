use Rattle.std.proofs.Common.{◌==◌, Bool, if◌then◌else◌, sym, ap, ◌∙◌, arith}
use Rattle.lock_plan.specs.Tables.{has_bit}
use Rattle.lock_plan.proofs.WordBits.{bit_put, bit_cleared}
use Rattle.lock_plan.proofs.bits.put_bit.Goals as goal

pub returns-then-on-clause-bits : goal.returns-then-on-clause-bits
returns-then-on-clause-bits c = λ k.
    let asked = c.requires in
    bit_put c.args.words.now c.args.index k (omega arith) ∙ ap (λ (on : Bool). if k == c.args.index then on else has_bit c.args.words.now k) (sym c.if-on.true)

pub returns-else-on-clause-bits : goal.returns-else-on-clause-bits
returns-else-on-clause-bits c = λ k.
    let asked = c.requires in
    bit_cleared c.args.words.now c.args.index k (omega arith) ∙ ap (λ (on : Bool). if k == c.args.index then on else has_bit c.args.words.now k) (sym c.if-on.false)
