use Rattle.std.proofs.Common.{◌≡◌, ℕ, ◌+◌, ◌-◌, ◌*◌, ◌/◌, ◌%◌, ◌^◌, ◌<◌, ◌≤◌, ◌&&◌, nat_le, nat_lt, if◌then◌else◌, List, Vec, Global, length, get_or, slice_index, unwrap_or, sym, ap, subst, ◌∙◌, arith}
use Rattle.std.specs.Vec.{with_items}
use Rattle.std.proofs.lemmas.List.{with_items_is}
use Rattle.std.proofs.lemmas.List.Elements.{All-set}
use Rattle.std.proofs.Math.ListN.{set, length-set}
use Rattle.history.specs.Layout.{width_bytes, past_end}
use Rattle.history.specs.Memory.{put_at}
use Rattle.history.specs.declared.events.Act.TheVariants.{Store}
use Rattle.block_memory.specs.Bytes.{Held, memory_of}
use Rattle.block_memory.proofs.Buffers.{joined_length}
use Rattle.block_memory.proofs.LowBytes.{stored_is_memory}
use Rattle.block_memory.proofs.Places.{Uses, uses, buffer_size, stored_byte}
use Rattle.block_memory.proofs.memory.BlockMemory.store.Goals as goal

used : (c : goal.After-deref_mut) → Uses c.self.inside.geometry c.args.addr c.args.width c.self.inside.blocks.items ((c.args.addr - c.base.result) / 2 ^ c.self.inside.shift) c.low_bits-offset.result
used c = uses c.args.self.now c.self.inside.geometry c.args.addr c.self.inside.shift c.base.result c.low_bits-offset.result c.args.width c.self.inside.blocks.items (ap (λ (held : Held). held.layout) c.self.view_is) c.base.ensures.layout c.self.invariant.0 c.self.invariant.2 c.requires.fits c.requires.aligned c.base.ensures.value c.low_bits-offset.ensures

size : (c : goal.After-deref_mut) → length c.deref_mut.result.now ≡ c.self.inside.geometry.size
size c = buffer_size c.self.inside.geometry.size ((c.args.addr - c.base.result) / 2 ^ c.self.inside.shift) c.self.inside.blocks.items c.index_mut-block.result.now c.deref_mut.result.now c.self.invariant.3 (used c).block c.index_mut-block.ensures.value c.deref_mut.ensures.value

pub put-requires-clause-room : goal.put-requires-clause-room
put-requires-clause-room c =
    let inside = (used c).room in
    let whole : length c.deref_mut.result.now ≡ c.self.inside.geometry.size = size c in
    omega arith

-- the buffer's bytes once the value was put there
items : (c : goal.After-self-1) → (with_items c.index_mut-block.result.now c.put.new.bytes).items ≡ c.put.new.bytes
items c = with_items_is c.index_mut-block.result.now c.put.new.bytes (c.put.ensures.count ∙ c.deref_mut.ensures.len)

used_then : (c : goal.After-self-1) → Uses c.self.inside.geometry c.args.addr c.args.width c.self.inside.blocks.items ((c.args.addr - c.base.result) / 2 ^ c.self.inside.shift) c.low_bits-offset.result
used_then c = uses c.args.self.now c.self.inside.geometry c.args.addr c.self.inside.shift c.base.result c.low_bits-offset.result c.args.width c.self.inside.blocks.items (ap (λ (held : Held). held.layout) c.self.view_is) c.base.ensures.layout c.self.invariant.0 c.self.invariant.2 c.requires.fits c.requires.aligned c.base.ensures.value c.low_bits-offset.ensures

whole_buffer : (c : goal.After-self-1) → length (with_items c.index_mut-block.result.now c.put.new.bytes).items ≡ c.self.inside.geometry.size
whole_buffer c = ap length (items c) ∙ c.put.ensures.count ∙ buffer_size c.self.inside.geometry.size ((c.args.addr - c.base.result) / 2 ^ c.self.inside.shift) c.self.inside.blocks.items c.index_mut-block.result.now c.deref_mut.result.now c.self.invariant.3 (used_then c).block c.index_mut-block.ensures.value c.deref_mut.ensures.value

pub returns-clause-count : goal.returns-clause-count
returns-clause-count c =
    let l = c.self.inside.geometry in
    let Whole : Vec ℕ Global → Type 0 = λ v. length v.items ≡ l.size in
    let buffers : List (Vec ℕ Global) = c.self.inside.blocks.items in
    let at : ℕ = (c.args.addr - c.base.result) / 2 ^ c.self.inside.shift in
    let v : Vec ℕ Global = with_items c.index_mut-block.result.now c.put.new.bytes in
    joined_length (λ (u : Vec ℕ Global). u.items) l.size (set buffers at v) (All-set Whole buffers at v (whole_buffer c) c.self.invariant.3)
    ∙ ap (λ n. l.size * n) (length-set buffers at v)
    ∙ sym (joined_length (λ (u : Vec ℕ Global). u.items) l.size buffers c.self.invariant.3)
    ∙ ap (λ (held : Held). length held.bytes) c.self.view_is

pub returns-clause-bytes : goal.returns-clause-bytes
returns-clause-bytes c = λ x low high.
    let l = c.self.inside.geometry in
    let buffers : List (Vec ℕ Global) = c.self.inside.blocks.items in
    let at : ℕ = (c.args.addr - c.base.result) / 2 ^ c.self.inside.shift in
    let offset : ℕ = c.low_bits-offset.result in
    let e = c.index_mut-block.result.now in
    let v : Vec ℕ Global = with_items e c.put.new.bytes in
    let width = c.args.width in
    let old : slice_index c.deref_mut.result.now ≡ slice_index (get_or buffers at e).items = ap slice_index (c.deref_mut.ensures.value ∙ ap (λ (u : Vec ℕ Global). u.items) c.index_mut-block.ensures.value) in
    let each : (k : ℕ) → slice_index v.items k ≡ (if nat_le offset k && nat_lt k (offset + width_bytes width) then c.args.value / 256 ^ (k - offset) % 256 else slice_index (get_or buffers at e).items k)
    = λ k. ap (λ (bytes : List ℕ). slice_index bytes k) (items c) ∙ c.put.ensures.each k ∙ ap (λ (was : ℕ → ℕ). if nat_le offset k && nat_lt k (offset + width_bytes width) then c.args.value / 256 ^ (k - offset) % 256 else was k) old in
    let here : l.base ≤ x = subst (λ (held : Held). held.layout.base ≤ x) (sym c.self.view_is) low in
    let there : x < past_end l = subst (λ (held : Held). x < past_end held.layout) (sym c.self.view_is) high in
    stored_byte l c.args.addr at offset c.args.value x width buffers v e (used_then c) c.self.invariant.3 c.self.invariant.2 (whole_buffer c) each here there
    ∙ ap (λ (held : Held). unwrap_or (put_at (Store c.args.addr width c.args.value) x) (memory_of held x)) c.self.view_is

pub returns-clause-history : goal.returns-clause-history
returns-clause-history c = λ w past actor was.
    stored_is_memory w past actor c.args.addr c.args.value c.args.width c.args.self.now _ was (ap (λ (held : Held). held.layout) c.self.view_is) (returns-clause-count c) (returns-clause-bytes c)
