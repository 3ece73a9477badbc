use Rattle.std.proofs.Common.{◌≡◌, ◌+◌, ◌*◌, sym, ap, ◌∙◌, arith}
use Rattle.history.specs.declared.events.Width.{Width}
use Rattle.history.specs.Memory.{memory_at, value_in}
use Rattle.trace.proofs.Windows.{window_byte}
use Rattle.trace.proofs.index.Index.value_at.Goals as goal

pub returns-in-Byte : goal.returns-in-Byte
returns-in-Byte c =
    let m = memory_at c.args.self.now.world c.args.self.now.entries c.args.place in
    let first = window_byte m c.args.addr c.window_at.new.window 0 c.args.addr c.window_at.ensures (omega (arith, c.window_at.auto.window)) (omega arith) in
    c.from.ensures ∙ first ∙ ap (λ (width : Width). value_in m c.args.addr width) (sym c.in-Byte.is)

pub returns-in-Half : goal.returns-in-Half
returns-in-Half c =
    let m = memory_at c.args.self.now.world c.args.self.now.entries c.args.place in
    let bytes = c.window_at-in-Half.new.window in
    let first = window_byte m c.args.addr bytes 0 c.args.addr c.window_at-in-Half.ensures (omega (arith, c.window_at-in-Half.auto.window)) (omega arith) in
    let second = window_byte m c.args.addr bytes 1 (c.args.addr + 1) c.window_at-in-Half.ensures (omega (arith, c.window_at-in-Half.auto.window)) (omega arith) in
    let value : c.from-in-Half.result ≡ m c.args.addr + 256 * m (c.args.addr + 1) = omega (arith, first, second, c.from-in-Half.ensures, c.from_le_bytes.ensures) in
    value ∙ ap (λ (width : Width). value_in m c.args.addr width) (sym c.in-Half.is)

pub returns-in-Word : goal.returns-in-Word
returns-in-Word c =
    let m = memory_at c.args.self.now.world c.args.self.now.entries c.args.place in
    let bytes = c.window_at-in-Word.new.window in
    let first = window_byte m c.args.addr bytes 0 c.args.addr c.window_at-in-Word.ensures (omega (arith, c.window_at-in-Word.auto.window)) (omega arith) in
    let second = window_byte m c.args.addr bytes 1 (c.args.addr + 1) c.window_at-in-Word.ensures (omega (arith, c.window_at-in-Word.auto.window)) (omega arith) in
    let third = window_byte m c.args.addr bytes 2 (c.args.addr + 2) c.window_at-in-Word.ensures (omega (arith, c.window_at-in-Word.auto.window)) (omega arith) in
    let fourth = window_byte m c.args.addr bytes 3 (c.args.addr + 3) c.window_at-in-Word.ensures (omega (arith, c.window_at-in-Word.auto.window)) (omega arith) in
    let value : c.from_le_bytes-in-Word.result ≡ m c.args.addr + 256 * m (c.args.addr + 1) + 65536 * m (c.args.addr + 2) + 16777216 * m (c.args.addr + 3) = omega (arith, first, second, third, fourth, c.from_le_bytes-in-Word.ensures) in
    value ∙ ap (λ (width : Width). value_in m c.args.addr width) (sym c.in-Word.is)
