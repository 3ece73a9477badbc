use Rattle.std.proofs.Common.{◌≡◌, ℕ, ◌+◌, ◌-◌, ◌/◌, ◌%◌, ◌^◌, ◌&&◌, nat_le, nat_lt, if◌then◌else◌, slice_index, sym, subst}
use Rattle.history.specs.declared.events.Width.{Width}
use Rattle.history.specs.Layout.{width_bytes}
use Rattle.block_memory.proofs.LowBytes.{word_byte}
use Rattle.block_memory.proofs.memory.put.Goals as goal

pub returns-in-Word-clause-each : goal.returns-in-Word-clause-each
returns-in-Word-clause-each c = λ k.
    let new : ℕ = slice_index c.write_at-in-Word.new.bytes k in
    let old : ℕ = slice_index c.args.bytes.now k in
    let at = c.args.at in
    let P : Width → Type 0 = λ w. new ≡ (if nat_le at k && nat_lt k (at + width_bytes w) then c.args.value / 256 ^ (k - at) % 256 else old) in
    subst P (sym c.in-Word.is) (word_byte at c.args.value k new old c.to_le_bytes-in-Word.result c.to_le_bytes-in-Word.ensures (c.write_at-in-Word.ensures.each k))
