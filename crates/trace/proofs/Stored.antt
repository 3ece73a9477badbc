-- What a store puts into a window, byte by byte.
use Rattle.std.proofs.Common.{◌≡◌, ℕ, zero, suc, ◌+◌, ◌-◌, ◌/◌, ◌%◌, ◌^◌, ◌<◌, Bool, true, false, Some, None, ◌&&◌, nat_le, nat_lt, if◌then◌else◌, unwrap_or, slice_index, refl, sym, ap, ◌∙◌, inl, inr, arith, ◌==◌}
use Rattle.std.proofs.lemmas.Bool.{cases_eq, eq-eqb, ne_eqb}
use Rattle.std.proofs.lemmas.Bool.Decides.{nat_tests}
use Rattle.std.specs.Int.{to_le_bytes, w32}
use Rattle.history.specs.declared.events.Width.{Width}
use Rattle.history.specs.declared.events.Act.TheVariants.{Store}
use Rattle.history.specs.Layout.{width_bytes}
use Rattle.history.specs.Memory.{put_at, covers}

-- a byte of a word, the lowest first
pub low_byte : (value j : ℕ) → j < 4 → slice_index (to_le_bytes w32 value) j ≡ value / 256 ^ j % 256
low_byte value zero h = omega arith
low_byte value (suc zero) h = omega arith
low_byte value (suc (suc zero)) h = omega arith
low_byte value (suc (suc (suc zero))) h = omega arith
low_byte value (suc (suc (suc (suc j)))) h = absurd (omega arith)

-- the byte at x once the first bytes of a value were put at an address
abbrev pub put_first : ℕ → ℕ → ℕ → ℕ → ℕ → ℕ
put_first addr value count x old = if nat_le addr x && nat_lt x (addr + count) then value / 256 ^ (x - addr) % 256 else old

-- none were put
pub put_none : (addr value x old : ℕ) → put_first addr value 0 x old ≡ old
put_none addr value x old = grind (arith, nat_tests)

put_other : (addr value count x old : ℕ) → (x ≡ addr + count → ⊥) → put_first addr value count x old ≡ put_first addr value (count + 1) x old
put_other addr value count x old other =
    let same : (nat_le addr x && nat_lt x (addr + count)) ≡ (nat_le addr x && nat_lt x (addr + (count + 1))) = grind (arith, nat_tests) in
    ap (λ (test : Bool). if test then value / 256 ^ (x - addr) % 256 else old) same

put_here : (addr value count old : ℕ) → put_first addr value (count + 1) (addr + count) old ≡ value / 256 ^ count % 256
put_here addr value count old =
    let inside : (nat_le addr (addr + count) && nat_lt (addr + count) (addr + (count + 1))) ≡ true = grind (arith, nat_tests) in
    let place : addr + count - addr ≡ count = omega arith in
    ap (λ (test : Bool). if test then value / 256 ^ (addr + count - addr) % 256 else old) inside ∙ ap (λ j. value / 256 ^ j % 256) place

-- one byte more
pub put_more : (addr value count x old byte now new : ℕ) → now ≡ put_first addr value count x old → byte ≡ value / 256 ^ count % 256 → new ≡ (if x == addr + count then byte else now) → new ≡ put_first addr value (count + 1) x old
put_more addr value count x old byte now new so_far is put =
    elim (cases_eq x (addr + count)) [
      | inl here ↦ put ∙ ap (λ (test : Bool). if test then byte else now) (eq-eqb x (addr + count) here) ∙ is ∙ sym (put_here addr value count old) ∙ ap (λ y. put_first addr value (count + 1) y old) (sym here)
      | inr other ↦ put ∙ ap (λ (test : Bool). if test then byte else now) (ne_eqb x (addr + count) other) ∙ so_far ∙ put_other addr value count x old other
    ]

choice : (test : Bool) (byte old : ℕ) → (if test then byte else old) ≡ unwrap_or (if test then Some byte else None) old
choice true byte old = refl
choice false byte old = refl

-- all bytes of a store
pub put_all : (addr value x old : ℕ) (width : Width) → put_first addr value (width_bytes width) x old ≡ unwrap_or (put_at (Store addr width value) x) old
put_all addr value x old width = choice (covers addr width x) (value / 256 ^ (x - addr) % 256) old
