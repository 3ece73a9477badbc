-- The copies of memory that an index keeps, one after the other.
use Rattle.std.proofs.Common.{◌≡◌, ℕ, ◌+◌, ◌*◌, ◌/◌, ◌<◌, ◌≤◌, List, [], ◌∷◌, ◌++◌, length, get_or, slice_index, take, drop, Some, Vec, Global, refl, sym, ap, subst, ◌∙◌, inl, inr, arith}
use Rattle.std.specs.Prelude.{slice_get}
use Rattle.std.proofs.lemmas.Bool.{cases_lt}
use Rattle.std.proofs.lemmas.List.{get_or_append_left, get_or_push, length_push}
use Rattle.std.proofs.lemmas.Option.{get_or_from_slice_get, slice_get-get_or, slice_get_read, slice_get_within}
use Rattle.history.specs.declared.events.Entry.{Entry}
use Rattle.history.specs.Layout.{Setting, IsSetting, byte_count}
use Rattle.history.specs.Memory.{bytes_from, memory_at}
use Rattle.trace.specs.Index.{AreCheckpoints, IsWindow, memory_bytes}
use Rattle.trace.proofs.Windows.{bytes_count, bytes_window, piece, window_bytes}

-- so many copies, each of memory at its place
pub record HasCopies (w : Setting) (history : List Entry) (copies : List (Vec ℕ Global)) (count : ℕ) : Type 0 where
  pub number : length copies ≡ count
  pub each : (k : ℕ) (copy : Vec ℕ Global) → slice_get copies k ≡ Some copy → copy.items ≡ memory_bytes w history (65536 * k)

-- memory at place 0 is the image
pub image_bytes : (w : Setting) (history : List Entry) → IsSetting w → w.image ≡ memory_bytes w history 0
image_bytes w history setting =
    let window : IsWindow (memory_at w history 0) w.layout.base w.image = record { each = λ k within. ap (λ i. slice_index w.image i) (omega arith) } in
    window_bytes (memory_at w history 0) w.layout.base w.image window ∙ ap (λ n. bytes_from (memory_at w history 0) w.layout.base n) setting.image_length

pub copies_none : (w : Setting) (history : List Entry) → HasCopies w history [] 0
copies_none w history = record { number = refl; each = λ k copy here. absurd cc }

-- one copy more
pub copies_more : (w : Setting) (history : List Entry) (copies : List (Vec ℕ Global)) (count : ℕ) (new : Vec ℕ Global) → HasCopies w history copies count → new.items ≡ memory_bytes w history (65536 * count) → HasCopies w history (copies ++ new ∷ []) (count + 1)
copies_more w history copies count new have is = record {
  number = length_push copies new ∙ ap (λ n. n + 1) have.number;
  each = λ k copy here.
      elim (cases_lt k count) [
        | inl within ↦
            let inside : k < length copies = omega (arith, have.number, within) in
            let same : get_or copies k copy ≡ copy = sym (get_or_append_left copies (new ∷ []) copy k inside) ∙ get_or_from_slice_get (copies ++ new ∷ []) k copy copy here in
            have.each k copy (slice_get-get_or copies k copy inside ∙ ap (λ (c : Vec ℕ Global). Some c) same)
        | inr past ↦
            let limit : k < length (copies ++ new ∷ []) = slice_get_within (copies ++ new ∷ []) k copy here in
            let last : k ≡ count = omega (arith, limit, past, have.number, length_push copies new) in
            let same : new ≡ copy = sym (get_or_push copies new copy k (have.number ∙ sym last)) ∙ get_or_from_slice_get (copies ++ new ∷ []) k copy copy here in
            ap (λ (c : Vec ℕ Global). c.items) (sym same) ∙ is ∙ ap (λ n. memory_bytes w history (65536 * n)) (sym last)
      ];
}

-- all of them
pub copies_all : (w : Setting) (history : List Entry) (copies : List (Vec ℕ Global)) (count : ℕ) → HasCopies w history copies count → count ≡ length history / 65536 + 1 → AreCheckpoints w history copies
copies_all w history copies count have all = record { count = have.number ∙ all; each = have.each }

-- all of memory is a window
pub copy_window : (w : Setting) (history : List Entry) (place low : ℕ) (bytes : List ℕ) → w.layout.base ≡ low → bytes ≡ memory_bytes w history place → IsWindow (memory_at w history place) low bytes
copy_window w history place low bytes at is =
    let whole : IsWindow (memory_at w history place) w.layout.base bytes = subst (λ (bs : List ℕ). IsWindow (memory_at w history place) w.layout.base bs) (sym is) (bytes_window (memory_at w history place) w.layout.base (byte_count w.layout)) in
    subst (λ (x : ℕ). IsWindow (memory_at w history place) x bytes) at whole

-- a window on all of memory is memory's bytes
pub whole_window : (w : Setting) (history : List Entry) (place : ℕ) (bytes : List ℕ) → length bytes ≡ byte_count w.layout → IsWindow (memory_at w history place) w.layout.base bytes → bytes ≡ memory_bytes w history place
whole_window w history place bytes whole window = window_bytes (memory_at w history place) w.layout.base bytes window ∙ ap (λ n. bytes_from (memory_at w history place) w.layout.base n) whole

-- a copy is as long as memory
pub copy_length : (w : Setting) (history : List Entry) (place : ℕ) (bytes : List ℕ) → bytes ≡ memory_bytes w history place → length bytes ≡ byte_count w.layout
copy_length w history place bytes is = ap length is ∙ bytes_count (memory_at w history place) w.layout.base (byte_count w.layout)

-- the copy with a number below how many there are
pub copy_is : (w : Setting) (history : List Entry) (copies : List (Vec ℕ Global)) (place : ℕ) (copy : Vec ℕ Global) → AreCheckpoints w history copies → place ≤ length history → copy ≡ get_or copies (place / 65536) copy → copy.items ≡ memory_bytes w history (65536 * (place / 65536))
copy_is w history copies place copy checkpoints within is =
    let below : place / 65536 < length copies = omega (arith, checkpoints.count, within) in
    checkpoints.each (place / 65536) copy (slice_get_read copies (length copies) (place / 65536) copy refl below is)

-- a part of memory is a window
pub part_window : (w : Setting) (history : List Entry) (place low from count : ℕ) (bytes part : List ℕ) → bytes ≡ memory_bytes w history place → low ≡ w.layout.base + from → from + count ≤ byte_count w.layout → part ≡ take count (drop from bytes) → IsWindow (memory_at w history place) low part
part_window w history place low from count bytes part is at room parted =
    let m = memory_at w history place in
    let same : part ≡ bytes_from m low count = parted ∙ ap (λ (bs : List ℕ). take count (drop from bs)) is ∙ piece m w.layout.base (byte_count w.layout) from count room ∙ ap (λ (x : ℕ). bytes_from m x count) (sym at) in
    subst (λ (bs : List ℕ). IsWindow m low bs) (sym same) (bytes_window m low count)
