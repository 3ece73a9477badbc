-- Bits by their index.
use Rattle.std.proofs.Common.{◌≡◌, ◌≢◌, ℕ, ◌*◌, ◌/◌, ◌%◌, ◌^◌, ◌<◌, ◌==◌, Bool, true, false, if◌then◌else◌, List, length, slice_index, replicate, bit_and, bit_or, refl, sym, ap, ◌∙◌, arith}
use Rattle.std.proofs.lemmas.List.{get_or-replicate, get_or-set_same, get_or-set_other}
use Rattle.std.proofs.lemmas.Nat.Bits.{bit_at-zero, bit_at_ones, bit_at_set_same, bit_at_set_other, bit_at_clear_same, bit_at_clear_other}
use Rattle.std.proofs.lemmas.Bool.Decides.{nat_tests}
use Rattle.std.proofs.Math.ListN.{set}
use Rattle.std.specs.Int.{bit_at, bit_not, w64}
use Rattle.lock_plan.specs.Tables.{has_bit}

pub no_bit : (index : ℕ) → index < 4096 → has_bit (replicate 64 0) index ≡ false
no_bit index few =
    let word : slice_index (replicate 64 0) (index / 64) ≡ 0 = get_or-replicate 64 (index / 64) 0 0 (omega arith) in
    ap (λ w. bit_at w (index % 64) == 1) word ∙ ap (λ b. b == 1) (bit_at-zero (index % 64))

pub every_bit : (index : ℕ) → index < 4096 → has_bit (replicate 64 18446744073709551615) index ≡ true
every_bit index few =
    let word : slice_index (replicate 64 18446744073709551615) (index / 64) ≡ 18446744073709551615 = get_or-replicate 64 (index / 64) 18446744073709551615 0 (omega arith) in
    ap (λ w. bit_at w (index % 64) == 1) word ∙ ap (λ b. b == 1) (bit_at_ones 64 (index % 64) (omega arith))

equal : (a b : ℕ) → (a == b) ≡ true → a ≡ b
equal a b test = grind (arith, nat_tests)

unequal : (a b : ℕ) → (a == b) ≡ false → a ≢ b
unequal a b test = grind (arith, nat_tests)

is_equal : (a b : ℕ) → a ≡ b → (a == b) ≡ true
is_equal a b same = grind (arith, nat_tests)

is_unequal : (a b : ℕ) → a ≢ b → (a == b) ≡ false
is_unequal a b other = grind (arith, nat_tests)

-- a bit once the word with the index was replaced by one that differs in that bit alone
bit_by_places : (words : List ℕ) (index k w : ℕ) (on : Bool) → index / 64 < length words
    → (bit_at w (index % 64) == 1) ≡ on
    → ((i : ℕ) → i < 64 → i ≢ index % 64 → bit_at w i ≡ bit_at (slice_index words (index / 64)) i)
    → (here there : Bool) → (k / 64 == index / 64) ≡ here → (k % 64 == index % 64) ≡ there
    → has_bit (set words (index / 64) w) k ≡ (if k == index then on else has_bit words k)
bit_by_places words index k w on within bit others true true here there =
    let word : k / 64 ≡ index / 64 = equal (k / 64) (index / 64) here in
    let place : k % 64 ≡ index % 64 = equal (k % 64) (index % 64) there in
    let same : k ≡ index = omega arith in
    let now : slice_index (set words (index / 64) w) (k / 64) ≡ w = ap (λ i. slice_index (set words (index / 64) w) i) word ∙ get_or-set_same words (index / 64) w 0 within in
    ap (λ v. bit_at v (k % 64) == 1) now ∙ ap (λ i. bit_at w i == 1) place ∙ bit ∙ ap (λ (t : Bool). if t then on else has_bit words k) (sym (is_equal k index same))
bit_by_places words index k w on within bit others true false here there =
    let word : k / 64 ≡ index / 64 = equal (k / 64) (index / 64) here in
    let place : k % 64 ≢ index % 64 = unequal (k % 64) (index % 64) there in
    let other : k ≢ index = λ same. place (ap (λ i. i % 64) same) in
    let now : slice_index (set words (index / 64) w) (k / 64) ≡ w = ap (λ i. slice_index (set words (index / 64) w) i) word ∙ get_or-set_same words (index / 64) w 0 within in
    ap (λ v. bit_at v (k % 64) == 1) now
    ∙ ap (λ b. b == 1) (others (k % 64) (omega arith) place)
    ∙ ap (λ i. bit_at (slice_index words i) (k % 64) == 1) (sym word)
    ∙ ap (λ (t : Bool). if t then on else has_bit words k) (sym (is_unequal k index other))
bit_by_places words index k w on within bit others false there here _ =
    let word : k / 64 ≢ index / 64 = unequal (k / 64) (index / 64) here in
    let other : k ≢ index = λ same. word (ap (λ i. i / 64) same) in
    ap (λ v. bit_at v (k % 64) == 1) (get_or-set_other words (index / 64) (k / 64) w 0 word)
    ∙ ap (λ (t : Bool). if t then on else has_bit words k) (sym (is_unequal k index other))

set_word : (words : List ℕ) (index k w : ℕ) (on : Bool) → index / 64 < length words → (bit_at w (index % 64) == 1) ≡ on → ((i : ℕ) → i < 64 → i ≢ index % 64 → bit_at w i ≡ bit_at (slice_index words (index / 64)) i) → has_bit (set words (index / 64) w) k ≡ (if k == index then on else has_bit words k)
set_word words index k w on within bit others = bit_by_places words index k w on within bit others (k / 64 == index / 64) (k % 64 == index % 64) refl refl

-- a bit after `|` and after `&` with the complement
pub bit_put : (words : List ℕ) (index k : ℕ) → index / 64 < length words → has_bit (set words (index / 64) (bit_or (slice_index words (index / 64)) (1 * 2 ^ (index % 64) % 18446744073709551616))) k ≡ (if k == index then true else has_bit words k)
bit_put words index k within =
    let old = slice_index words (index / 64) in
    set_word words index k (bit_or old (1 * 2 ^ (index % 64) % 18446744073709551616)) true within
    (ap (λ b. b == 1) (bit_at_set_same w64 old (index % 64) (omega arith)))
    (λ i small other. bit_at_set_other w64 old (index % 64) (omega arith) i other)

pub bit_cleared : (words : List ℕ) (index k : ℕ) → index / 64 < length words → has_bit (set words (index / 64) (bit_and (slice_index words (index / 64)) (bit_not w64 (1 * 2 ^ (index % 64) % 18446744073709551616)))) k ≡ (if k == index then false else has_bit words k)
bit_cleared words index k within =
    let old = slice_index words (index / 64) in
    set_word words index k (bit_and old (bit_not w64 (1 * 2 ^ (index % 64) % 18446744073709551616))) false within
    (ap (λ b. b == 1) (bit_at_clear_same w64 old (index % 64) (omega arith)))
    (λ i small other. bit_at_clear_other w64 old (index % 64) (omega arith) i small other)
