-- Bytes that are memory's from an address on.
use Rattle.std.proofs.Common.{◌≡◌, ℕ, zero, suc, ◌+◌, ◌-◌, ◌<◌, ◌≤◌, List, [], ◌∷◌, length, take, drop, slice_index, refl, sym, ap, ap₂, ◌∙◌, arith}
use Rattle.history.specs.Memory.{Memory, bytes_from}
use Rattle.trace.specs.Index.{IsWindow}

-- bytes by their addresses are bytes one after the other
pub window_bytes : (m : Memory) (low : ℕ) (bytes : List ℕ) → IsWindow m low bytes → bytes ≡ bytes_from m low (length bytes)
window_bytes m low [] h = refl
window_bytes m low (byte ∷ rest) h =
    let here : byte ≡ m low = h.each 0 (omega arith) ∙ ap m (omega arith) in
    let later : IsWindow m (low + 1) rest = record { each = λ k within. h.each (suc k) (omega arith) ∙ ap m (omega arith) } in
    ap₂ (λ (b : ℕ) (bs : List ℕ). b ∷ bs) here (window_bytes m (low + 1) rest later)

-- there are so many
pub bytes_count : (m : Memory) (low count : ℕ) → length (bytes_from m low count) ≡ count
bytes_count m low zero = refl
bytes_count m low (suc count) = ap suc (bytes_count m (low + 1) count)

-- and each is at its address
byte_at : (m : Memory) (low count k : ℕ) → k < count → slice_index (bytes_from m low count) k ≡ m (low + k)
byte_at m low zero k within = absurd (omega arith)
byte_at m low (suc count) zero within = ap m (omega arith)
byte_at m low (suc count) (suc k) within = byte_at m (low + 1) count k (omega arith) ∙ ap m (omega arith)

pub bytes_window : (m : Memory) (low count : ℕ) → IsWindow m low (bytes_from m low count)
bytes_window m low count = record { each = λ k within. byte_at m low count k (omega (arith, within, bytes_count m low count)) }

-- the bytes behind the first
dropped : (m : Memory) (low count at : ℕ) → at ≤ count → drop at (bytes_from m low count) ≡ bytes_from m (low + at) (count - at)
dropped m low count zero h = ap₂ (λ (x n : ℕ). bytes_from m x n) (omega arith) (omega arith)
dropped m low zero (suc at) h = absurd (omega arith)
dropped m low (suc count) (suc at) h = dropped m (low + 1) count at (omega arith) ∙ ap₂ (λ (x n : ℕ). bytes_from m x n) (omega arith) (omega arith)

-- the first of them
taken : (m : Memory) (low count n : ℕ) → n ≤ count → take n (bytes_from m low count) ≡ bytes_from m low n
taken m low count zero h = refl
taken m low zero (suc n) h = absurd (omega arith)
taken m low (suc count) (suc n) h = ap (λ (bs : List ℕ). m low ∷ bs) (taken m (low + 1) count n (omega arith))

-- a piece of them
pub piece : (m : Memory) (low count at n : ℕ) → at + n ≤ count → take n (drop at (bytes_from m low count)) ≡ bytes_from m (low + at) n
piece m low count at n h = ap (λ (bs : List ℕ). take n bs) (dropped m low count at (omega arith)) ∙ taken m (low + at) (count - at) n (omega arith)

-- a byte of a window, by its address
pub window_byte : (m : Memory) (low : ℕ) (bytes : List ℕ) (k x : ℕ) → IsWindow m low bytes → k < length bytes → x ≡ low + k → slice_index bytes k ≡ m x
window_byte m low bytes k x window within at = window.each k within ∙ ap m (sym at)
