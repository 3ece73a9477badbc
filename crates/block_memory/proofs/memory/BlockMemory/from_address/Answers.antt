use Rattle.std.proofs.Common.{◌≡◌, ℕ, ◌+◌, ◌-◌, ◌/◌, ◌^◌, ◌<◌, List, Vec, Global, length, slice_index, take, drop, sym, ap, ◌∙◌, arith}
use Rattle.std.proofs.lemmas.List.{get_or-take, get_or-drop, length-take-le, length-drop}
use Rattle.block_memory.specs.Bytes.{Held, memory_of}
use Rattle.block_memory.proofs.Places.{Uses, uses, used_byte, buffer_size}
use Rattle.block_memory.proofs.memory.BlockMemory.from_address.Goals as goal

used : (c : goal.After-result-1) → Uses c.self.inside.geometry c.args.addr c.args.width c.self.inside.blocks.items ((c.args.addr - c.base.result) / 2 ^ c.self.inside.shift) c.low_bits-offset.result
used c = uses c.args.self.now c.self.inside.geometry c.args.addr c.self.inside.shift c.base.result c.low_bits-offset.result c.args.width c.self.inside.blocks.items (ap (λ (held : Held). held.layout) c.self.view_is) c.base.ensures.layout c.self.invariant.0 c.self.invariant.2 c.requires.fits c.requires.aligned c.base.ensures.value c.low_bits-offset.ensures

size : (c : goal.After-result-1) → length c.deref.result.now ≡ c.self.inside.geometry.size
size c = buffer_size c.self.inside.geometry.size ((c.args.addr - c.base.result) / 2 ^ c.self.inside.shift) c.self.inside.blocks.items c.index-block.result.now c.deref.result.now c.self.invariant.3 (used c).block c.index-block.ensures c.deref.ensures.value

pub returns-clause-room : goal.returns-clause-room
returns-clause-room c =
    let bytes = c.deref.result.now in
    let offset = c.low_bits-offset.result in
    let inside = (used c).room in
    let whole : length bytes ≡ c.self.inside.geometry.size = size c in
    let rest : length (drop offset bytes) ≡ length bytes - offset = length-drop offset bytes in
    let all : length (take (length bytes - offset) (drop offset bytes)) ≡ length bytes - offset = length-take-le (length bytes - offset) (drop offset bytes) (omega arith) in
    omega arith

pub returns-clause-bytes : goal.returns-clause-bytes
returns-clause-bytes c = λ k within.
    let l = c.self.inside.geometry in
    let buffers = c.self.inside.blocks.items in
    let e = c.index-block.result.now in
    let bytes = c.deref.result.now in
    let offset : ℕ = c.low_bits-offset.result in
    let at : ℕ = (c.args.addr - c.base.result) / 2 ^ c.self.inside.shift in
    let inside = (used c).room in
    let whole : length bytes ≡ l.size = size c in
    let room : k < length bytes - offset = omega arith in
    get_or-take (length bytes - offset) (drop offset bytes) k 0 room
    ∙ get_or-drop offset bytes k 0
    ∙ ap (λ (list : List ℕ). slice_index list (offset + k)) (c.deref.ensures.value ∙ ap (λ (v : Vec ℕ Global). v.items) c.index-block.ensures)
    ∙ sym (used_byte l c.args.addr at offset k c.args.width buffers e (used c) c.self.invariant.3 within)
    ∙ ap (λ (held : Held). memory_of held (c.args.addr + k)) c.self.view_is
