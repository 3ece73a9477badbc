-- The bytes that a store puts, and memory after it.
use Rattle.std.proofs.Common.{◌≡◌, ℕ, zero, suc, ◌+◌, ◌-◌, ◌/◌, ◌%◌, ◌^◌, ◌<◌, ◌≤◌, Bool, true, false, Some, None, ◌&&◌, nat_le, nat_lt, if◌then◌else◌, unwrap_or, List, ◌∷◌, length, slice_index, refl, sym, ap, ◌∙◌, arith}
use Rattle.std.proofs.lemmas.Bool.Decides.{nat_tests}
use Rattle.std.specs.Int.{to_le_bytes, w32}
use Rattle.history.specs.declared.events.Width.{Width}
use Rattle.history.specs.declared.events.Act.TheVariants.{Store}
use Rattle.history.specs.declared.events.Entry.{Entry}
use Rattle.history.specs.Layout.{Layout, Setting, width_bytes, past_end}
use Rattle.history.specs.Memory.{put_at, covers}
use Rattle.block_memory.specs.Bytes.{Held, IsMemoryOf, memory_of}

-- a byte of a word, the lowest first
low_byte : (value j : ℕ) → j < 4 → slice_index (to_le_bytes w32 value) j ≡ value / 256 ^ j % 256
low_byte value zero h = omega arith
low_byte value (suc zero) h = omega arith
low_byte value (suc (suc zero)) h = omega arith
low_byte value (suc (suc (suc zero))) h = omega arith
low_byte value (suc (suc (suc (suc j)))) h = absurd (omega arith)

within_word : (at k : ℕ) → (nat_le at k && nat_lt k (at + 4)) ≡ true → k - at < 4
within_word at k inside = grind (arith, nat_tests)

choose_same : (test : Bool) (put byte old : ℕ) → (test ≡ true → put ≡ byte) → (if test then put else old) ≡ (if test then byte else old)
choose_same true put byte old h = h refl
choose_same false put byte old h = refl

-- a byte after a word was put at a place
pub word_byte : (at value k new old : ℕ) (bytes : List ℕ) → bytes ≡ to_le_bytes w32 value → new ≡ (if nat_le at k && nat_lt k (at + length bytes) then slice_index bytes (k - at) else old) → new ≡ (if nat_le at k && nat_lt k (at + 4) then value / 256 ^ (k - at) % 256 else old)
word_byte at value k new old bytes is put =
    let same = ap (λ (list : List ℕ). if nat_le at k && nat_lt k (at + length list) then slice_index list (k - at) else old) is in
    let byte : (nat_le at k && nat_lt k (at + 4)) ≡ true → slice_index (to_le_bytes w32 value) (k - at) ≡ value / 256 ^ (k - at) % 256 = λ inside. low_byte value (k - at) (within_word at k inside) in
    put ∙ same ∙ choose_same (nat_le at k && nat_lt k (at + 4)) (slice_index (to_le_bytes w32 value) (k - at)) (value / 256 ^ (k - at) % 256) old byte

-- an access covers a byte as it does at the places in a list from the base on
same_test : (base addr x n : ℕ) → base ≤ addr → base ≤ x → (nat_le (addr - base) (x - base) && nat_lt (x - base) (addr - base + n)) ≡ (nat_le addr x && nat_lt x (addr + n))
same_test base addr x n low here = grind (arith, nat_tests)

choice : (test : Bool) (byte old : ℕ) → (if test then byte else old) ≡ unwrap_or (if test then Some byte else None) old
choice true byte old = refl
choice false byte old = refl

-- a byte after the bytes of a store were put at its place
pub put_is_store : (base addr value x old : ℕ) (width : Width) → base ≤ addr → base ≤ x → (if nat_le (addr - base) (x - base) && nat_lt (x - base) (addr - base + width_bytes width) then value / 256 ^ (x - base - (addr - base)) % 256 else old) ≡ unwrap_or (put_at (Store addr width value) x) old
put_is_store base addr value x old width low here =
    let moved : x - base - (addr - base) ≡ x - addr = omega arith in
    let tested = ap (λ (b : Bool). if b then value / 256 ^ (x - base - (addr - base)) % 256 else old) (same_test base addr x (width_bytes width) low here) in
    let placed = ap (λ (j : ℕ). if covers addr width x then value / 256 ^ j % 256 else old) moved in
    tested ∙ placed ∙ choice (covers addr width x) (value / 256 ^ (x - addr) % 256) old

-- memory after a store, from what the store did to each byte
pub stored_is_memory : (w : Setting) (past : List Entry) (actor addr value : ℕ) (width : Width) (old new : Held) → IsMemoryOf w past old → new.layout ≡ old.layout → length new.bytes ≡ length old.bytes → ((x : ℕ) → old.layout.base ≤ x → x < past_end old.layout → memory_of new x ≡ unwrap_or (put_at (Store addr width value) x) (memory_of old x)) → IsMemoryOf w (record { actor = actor; act = Store addr width value } ∷ past) new
stored_is_memory w past actor addr value width old new was same_layout same_count bytes =
    let base : w.layout.base ≡ old.layout.base = ap (λ (l : Layout). l.base) (sym was.layout) in
    let bounds : past_end w.layout ≡ past_end old.layout = ap past_end (sym was.layout) in
    record {
      layout = same_layout ∙ was.layout;
      count = same_count ∙ was.count;
      each = λ x low high. bytes x (omega arith) (omega arith) ∙ ap (λ byte. unwrap_or (put_at (Store addr width value) x) byte) (was.each x low high);
    }
