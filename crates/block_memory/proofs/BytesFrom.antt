-- Bytes that are read one after the other.
use Rattle.std.proofs.Common.{◌≡◌, ℕ, zero, suc, ◌+◌, ◌-◌, ◌<◌, ◌≤◌, List, ◌∷◌, length, take, drop, slice_index, get_or, ◌*◌, refl, sym, ap, ◌∙◌, arith}
use Rattle.std.proofs.lemmas.List.{drop_more}
use Rattle.std.proofs.Math.Nat.{mul-le-mul_left}
use Rattle.history.specs.declared.events.Entry.{Entry}
use Rattle.history.specs.Layout.{Layout, Setting, byte_count, past_end, block_start}
use Rattle.history.specs.Memory.{Memory, memory_after, bytes_from, block_bytes}
use Rattle.block_memory.specs.Bytes.{Held, IsMemoryOf, memory_of}

-- the bytes depend on memory at these addresses alone
pub bytes_from_same : (m n : Memory) (x count : ℕ) → ((y : ℕ) → x ≤ y → y < x + count → m y ≡ n y) → bytes_from m x count ≡ bytes_from n x count
bytes_from_same m n x zero h = refl
bytes_from_same m n x (suc count) h =
    let rest : bytes_from m (x + 1) count ≡ bytes_from n (x + 1) count = bytes_from_same m n (x + 1) count (λ y low high. h y (omega arith) (omega arith)) in
    let here : m x ≡ n x = h x (omega arith) (omega arith) in
    cc

-- the bytes of a list from a place on are the list's elements there
pub bytes_from_list : (bytes : List ℕ) (base at count : ℕ) → at + count ≤ length bytes → bytes_from (λ x. slice_index bytes (x - base)) (base + at) count ≡ take count (drop at bytes)
bytes_from_list bytes base at zero h = refl
bytes_from_list bytes base at (suc count) h =
    let m : Memory = λ x. slice_index bytes (x - base) in
    let place : base + at - base ≡ at = omega arith in
    let here : m (base + at) ≡ get_or bytes at 0 = ap (λ k. slice_index bytes k) place in
    let next : bytes_from m (base + at + 1) count ≡ bytes_from m (base + (at + 1)) count = ap (λ x. bytes_from m x count) (omega arith) in
    let rest : bytes_from m (base + (at + 1)) count ≡ take count (drop (at + 1) bytes) = bytes_from_list bytes base (at + 1) count (omega arith) in
    let split : drop at bytes ≡ get_or bytes at 0 ∷ drop (at + 1) bytes = drop_more bytes at 0 (omega arith) in
    rw split (cc)

-- a block of what is held is one piece of the list
pub block_is_piece : (held : Held) (block : ℕ) → length held.bytes ≡ byte_count held.layout → block < held.layout.blocks → bytes_from (memory_of held) (block_start held.layout block) held.layout.size ≡ take held.layout.size (drop (held.layout.size * block) held.bytes)
block_is_piece held block whole below =
    let inside : held.layout.size * (block + 1) ≤ held.layout.size * held.layout.blocks = mul-le-mul_left held.layout.size (omega arith) in
    bytes_from_list held.bytes held.layout.base (held.layout.size * block) held.layout.size (omega arith)

-- a block of memory after these entries is a block of what is held
pub block_is_block : (w : Setting) (past : List Entry) (held : Held) → IsMemoryOf w past held → (block : ℕ) → block < held.layout.blocks → bytes_from (memory_of held) (block_start held.layout block) held.layout.size ≡ block_bytes w (memory_after w past) block
block_is_block w past held is_memory block below =
    let inside : held.layout.size * (block + 1) ≤ held.layout.size * held.layout.blocks = mul-le-mul_left held.layout.size (omega arith) in
    let bounds : past_end w.layout ≡ past_end held.layout = ap past_end (sym is_memory.layout) in
    let base : w.layout.base ≡ held.layout.base = ap (λ (l : Layout). l.base) (sym is_memory.layout) in
    let same = bytes_from_same (memory_of held) (memory_after w past) (block_start held.layout block) held.layout.size (λ y low high. is_memory.each y (omega arith) (omega arith)) in
    same ∙ ap (λ (l : Layout). bytes_from (memory_after w past) (block_start l block) l.size) is_memory.layout
