-- Immediates and their bits, both ways.
use Rattle.std.proofs.Common.{◌≡◌, ℕ, suc, ◌<◌, ◌≤◌, ◌+◌, ◌-◌, ◌*◌, ◌%◌, ◌^◌, ℤ, pos, negsuc, ◌-ℤ◌, true, ltb, leb, eqb, ◌&&◌, cond, inl, inr, refl, sym, subst, arith}
use Rattle.std.proofs.lemmas.Bool.{cases_lt, and_parts, and_from, leb-true, le-leb, lt-ltb, le-ltb, eqb-true, eq-eqb}
use Rattle.std.proofs.lemmas.Int.{ints}
use Rattle.rv_decode.specs.Fields.{field, signed}
use Rattle.rv_decode.specs.Words.{imm_bits, is_imm12, is_branch_offset, is_jump_offset}

-- `signed` at a width whose powers are written out
abbrev pub signed_at : ℕ → ℕ → ℕ → ℤ
signed_at half full x = cond (ltb x half) (pos x) (pos x -ℤ pos full)

pub signed_low : (half full x : ℕ) → x < half → signed_at half full x ≡ pos x
signed_low half full x h = rw (lt-ltb x half h) refl

pub signed_high : (half full x n : ℕ) → half ≤ x → x + n + 1 ≡ full → signed_at half full x ≡ negsuc n
signed_high half full x n h e = rw (le-ltb x half h) (omega (arith, ints))

-- what a number of bits stands for: itself, or what is below 0 by what it lacks to the full width
pub data Stands (half full x : ℕ) : ℤ → Type 0 where
  positive : x < half → Stands half full x (pos x)
  negative : (n : ℕ) → half ≤ x → x + n + 1 ≡ full → Stands half full x (negsuc n)

pub stands : (half full x : ℕ) → x < full → Stands half full x (signed_at half full x)
stands half full x h = elim (cases_lt x half) [
  | inl l ↦ subst (Stands half full x) (sym (signed_low half full x l)) (positive l)
  | inr g ↦ (let e : x + (full - x - 1) + 1 ≡ full = omega arith in
      subst (Stands half full x) (sym (signed_high half full x (full - x - 1) g e)) (negative (full - x - 1) g e))
]

-- ---- 12 bits

pub imm12_back : (z : ℤ) → is_imm12 z ≡ true → signed 12 (field 0 12 (imm_bits z)) ≡ z
imm12_back (pos n) h =
    let l : n ≤ 2047 = leb-true n 2047 h in
    let e : field 0 12 n ≡ n = omega arith in
    rw e (signed_low 2048 4096 n (omega arith))
imm12_back (negsuc n) h =
    let l : n ≤ 2047 = leb-true n 2047 (and_parts (leb n 2047) true h).0 in
    signed_high 2048 4096 (field 0 12 (imm_bits (negsuc n))) n (omega arith) (omega arith)

pub imm12_fits : (x : ℕ) (z : ℤ) → Stands 2048 4096 x z → is_imm12 z ≡ true
imm12_fits x z (positive l) = le-leb x 2047 (omega arith)
imm12_fits x z (negative n l e) = and_from (leb n 2047) true (le-leb n 2047 (omega arith)) refl

pub imm12_bits : (x : ℕ) (z : ℤ) → Stands 2048 4096 x z → field 0 12 (imm_bits z) ≡ x
imm12_bits x z (positive l) = omega arith
imm12_bits x z (negative n l e) = omega arith

-- the two parts that a store's word has

pub store_whole : (p : ℕ) → field 0 5 p + field 5 7 p * 2 ^ 5 ≡ field 0 12 p
store_whole p = omega arith

pub store_low : (p x : ℕ) → field 0 12 p ≡ x → field 0 5 p ≡ field 0 5 x
store_low p x e = omega arith

pub store_high : (p x : ℕ) → field 0 12 p ≡ x → field 5 7 p ≡ field 5 7 x
store_high p x e = omega arith

-- ---- a branch's offset: 13 bits, even

-- imm[12:0], from the parts that a branch's word has
abbrev pub offset13 : ℕ → ℕ → ℕ → ℕ → ℕ
offset13 low mid b11 b12 = low * 2 + mid * 2 ^ 5 + b11 * 2 ^ 11 + b12 * 2 ^ 12

pub branch_whole : (p : ℕ) → p % 2 ≡ 0 → offset13 (field 1 4 p) (field 5 6 p) (field 11 1 p) (field 12 1 p) ≡ field 0 13 p
branch_whole p e = omega arith

pub branch_back : (z : ℤ) → is_branch_offset z ≡ true → signed 13 (field 0 13 (imm_bits z)) ≡ z
branch_back (pos n) h =
    let l : n ≤ 4094 = leb-true n 4094 (and_parts (leb n 4094) (eqb (n % 2) 0) h).0 in
    let e : field 0 13 n ≡ n = omega arith in
    rw e (signed_low 4096 8192 n (omega arith))
branch_back (negsuc n) h =
    let l : n ≤ 4095 = leb-true n 4095 (and_parts (leb n 4095) true (and_parts (leb n 4095 && true) (eqb (suc n % 2) 0) h).0).0 in
    signed_high 4096 8192 (field 0 13 (imm_bits (negsuc n))) n (omega arith) (omega arith)

pub branch_even : (z : ℤ) → is_branch_offset z ≡ true → imm_bits z % 2 ≡ 0
branch_even (pos n) h = eqb-true (n % 2) 0 (and_parts (leb n 4094) (eqb (n % 2) 0) h).1
branch_even (negsuc n) h =
    let t = and_parts (leb n 4095 && true) (eqb (suc n % 2) 0) h in
    let l : n ≤ 4095 = leb-true n 4095 (and_parts (leb n 4095) true t.0).0 in
    let e : suc n % 2 ≡ 0 = eqb-true (suc n % 2) 0 t.1 in
    omega arith

pub branch_fits : (x : ℕ) (z : ℤ) → Stands 4096 8192 x z → x % 2 ≡ 0 → is_branch_offset z ≡ true
branch_fits x z (positive l) e = and_from _ _ (le-leb x 4094 (omega arith)) (eq-eqb (x % 2) 0 e)
branch_fits x z (negative n l e) d = and_from _ _ (and_from (leb n 4095) true (le-leb n 4095 (omega arith)) refl) (eq-eqb (suc n % 2) 0 (omega arith))

pub branch_bits : (x : ℕ) (z : ℤ) → Stands 4096 8192 x z → field 0 13 (imm_bits z) ≡ x
branch_bits x z (positive l) = omega arith
branch_bits x z (negative n l e) = omega arith

pub branch_low : (p low mid b11 b12 : ℕ) → low < 2 ^ 4 → mid < 2 ^ 6 → b11 < 2 → b12 < 2 → field 0 13 p ≡ offset13 low mid b11 b12 → field 1 4 p ≡ low
branch_low p low mid b11 b12 hl hm h11 h12 e = omega arith

pub branch_mid : (p low mid b11 b12 : ℕ) → low < 2 ^ 4 → mid < 2 ^ 6 → b11 < 2 → b12 < 2 → field 0 13 p ≡ offset13 low mid b11 b12 → field 5 6 p ≡ mid
branch_mid p low mid b11 b12 hl hm h11 h12 e = omega arith

pub branch_11 : (p low mid b11 b12 : ℕ) → low < 2 ^ 4 → mid < 2 ^ 6 → b11 < 2 → b12 < 2 → field 0 13 p ≡ offset13 low mid b11 b12 → field 11 1 p ≡ b11
branch_11 p low mid b11 b12 hl hm h11 h12 e = omega arith

pub branch_12 : (p low mid b11 b12 : ℕ) → low < 2 ^ 4 → mid < 2 ^ 6 → b11 < 2 → b12 < 2 → field 0 13 p ≡ offset13 low mid b11 b12 → field 12 1 p ≡ b12
branch_12 p low mid b11 b12 hl hm h11 h12 e = omega arith

-- ---- a jump's offset: 21 bits, even

-- imm[20:0], from the parts that a jump's word has
abbrev pub offset21 : ℕ → ℕ → ℕ → ℕ → ℕ
offset21 low b11 mid b20 = low * 2 + b11 * 2 ^ 11 + mid * 2 ^ 12 + b20 * 2 ^ 20

pub jump_whole : (p : ℕ) → p % 2 ≡ 0 → offset21 (field 1 10 p) (field 11 1 p) (field 12 8 p) (field 20 1 p) ≡ field 0 21 p
jump_whole p e = omega arith

pub jump_back : (z : ℤ) → is_jump_offset z ≡ true → signed 21 (field 0 21 (imm_bits z)) ≡ z
jump_back (pos n) h =
    let l : n ≤ 1048574 = leb-true n 1048574 (and_parts (leb n 1048574) (eqb (n % 2) 0) h).0 in
    let e : field 0 21 n ≡ n = omega arith in
    rw e (signed_low 1048576 2097152 n (omega arith))
jump_back (negsuc n) h =
    let l : n ≤ 1048575 = leb-true n 1048575 (and_parts (leb n 1048575) true (and_parts (leb n 1048575 && true) (eqb (suc n % 2) 0) h).0).0 in
    signed_high 1048576 2097152 (field 0 21 (imm_bits (negsuc n))) n (omega arith) (omega arith)

pub jump_even : (z : ℤ) → is_jump_offset z ≡ true → imm_bits z % 2 ≡ 0
jump_even (pos n) h = eqb-true (n % 2) 0 (and_parts (leb n 1048574) (eqb (n % 2) 0) h).1
jump_even (negsuc n) h =
    let t = and_parts (leb n 1048575 && true) (eqb (suc n % 2) 0) h in
    let l : n ≤ 1048575 = leb-true n 1048575 (and_parts (leb n 1048575) true t.0).0 in
    let e : suc n % 2 ≡ 0 = eqb-true (suc n % 2) 0 t.1 in
    omega arith

pub jump_fits : (x : ℕ) (z : ℤ) → Stands 1048576 2097152 x z → x % 2 ≡ 0 → is_jump_offset z ≡ true
jump_fits x z (positive l) e = and_from _ _ (le-leb x 1048574 (omega arith)) (eq-eqb (x % 2) 0 e)
jump_fits x z (negative n l e) d = and_from _ _ (and_from (leb n 1048575) true (le-leb n 1048575 (omega arith)) refl) (eq-eqb (suc n % 2) 0 (omega arith))

pub jump_bits : (x : ℕ) (z : ℤ) → Stands 1048576 2097152 x z → field 0 21 (imm_bits z) ≡ x
jump_bits x z (positive l) = omega arith
jump_bits x z (negative n l e) = omega arith

pub jump_low : (p low b11 mid b20 : ℕ) → low < 2 ^ 10 → b11 < 2 → mid < 2 ^ 8 → b20 < 2 → field 0 21 p ≡ offset21 low b11 mid b20 → field 1 10 p ≡ low
jump_low p low b11 mid b20 hl h11 hm h20 e = omega arith

pub jump_11 : (p low b11 mid b20 : ℕ) → low < 2 ^ 10 → b11 < 2 → mid < 2 ^ 8 → b20 < 2 → field 0 21 p ≡ offset21 low b11 mid b20 → field 11 1 p ≡ b11
jump_11 p low b11 mid b20 hl h11 hm h20 e = omega arith

pub jump_mid : (p low b11 mid b20 : ℕ) → low < 2 ^ 10 → b11 < 2 → mid < 2 ^ 8 → b20 < 2 → field 0 21 p ≡ offset21 low b11 mid b20 → field 12 8 p ≡ mid
jump_mid p low b11 mid b20 hl h11 hm h20 e = omega arith

pub jump_20 : (p low b11 mid b20 : ℕ) → low < 2 ^ 10 → b11 < 2 → mid < 2 ^ 8 → b20 < 2 → field 0 21 p ≡ offset21 low b11 mid b20 → field 20 1 p ≡ b20
jump_20 p low b11 mid b20 hl h11 hm h20 e = omega arith
