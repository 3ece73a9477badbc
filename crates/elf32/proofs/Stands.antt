-- What stands at a place of a file.
use Rattle.std.proofs.Common.{◌≡◌, ℕ, zero, suc, ◌+◌, ◌*◌, ◌^◌, ◌<◌, ◌≤◌, ◌%◌, List, [], ◌∷◌, ◌++◌, length, take, drop, Some, refl, sym, ap, subst, ◌∙◌, append_assoc, arith, length-append}
use Rattle.std.specs.Prelude.{slice_get}
use Rattle.std.specs.List.{flat_map}
use Rattle.std.proofs.Math.Nat.{div-one, mod-eq_of_lt}
use Rattle.std.proofs.lemmas.List.{append-nil, drop_at, take_at}
use Rattle.byteorder.specs.Endian.{little_number, little_bytes}
use Rattle.byteorder.specs.Numbers.{little_from-bytes, length-bytes_low_first}
use Rattle.elf32.specs.Fields.{half_at, word_at, half, word}

pub record Stands (bytes : List ℕ) (place : ℕ) (piece : List ℕ) : Type 0 where
  pub before : List ℕ
  pub after : List ℕ
  pub parts : bytes ≡ before ++ (piece ++ after)
  pub count : length before ≡ place

pub stands_whole : (bytes : List ℕ) → Stands bytes 0 bytes
stands_whole bytes = record { before = []; after = []; parts = sym (append-nil bytes); count = refl }

pub stands_left : (bytes : List ℕ) (place : ℕ) (a b : List ℕ) → Stands bytes place (a ++ b) → Stands bytes place a
stands_left bytes place a b s = record {
  before = s.before;
  after = b ++ s.after;
  parts = s.parts ∙ ap (λ (xs : List ℕ). s.before ++ xs) (append_assoc a b s.after);
  count = s.count;
}

pub stands_right : (bytes : List ℕ) (place next : ℕ) (a b : List ℕ) → place + length a ≡ next → Stands bytes place (a ++ b) → Stands bytes next b
stands_right bytes place next a b e s = record {
  before = s.before ++ a;
  after = s.after;
  parts = s.parts ∙ ap (λ (xs : List ℕ). s.before ++ xs) (append_assoc a b s.after) ∙ sym (append_assoc s.before a (b ++ s.after));
  count = length-append s.before a ∙ ap (λ (n : ℕ). n + length a) s.count ∙ e;
}

pub stands_as : (bytes : List ℕ) (place : ℕ) (a b : List ℕ) → a ≡ b → Stands bytes place a → Stands bytes place b
stands_as bytes place a b e s = subst (λ (xs : List ℕ). Stands bytes place xs) e s

rest_is : (bytes : List ℕ) (place : ℕ) (piece : List ℕ) (s : Stands bytes place piece) → drop place bytes ≡ piece ++ s.after
rest_is bytes place piece s = ap (drop place) s.parts ∙ drop_at s.before (piece ++ s.after) place s.count

-- the bytes at the place are the piece
pub stands_bytes : (bytes : List ℕ) (place size : ℕ) (piece : List ℕ) → length piece ≡ size → Stands bytes place piece → take size (drop place bytes) ≡ piece
stands_bytes bytes place size piece e s = ap (take size) (rest_is bytes place piece s) ∙ take_at piece s.after size e

-- and the file reaches past them
pub stands_within : (bytes : List ℕ) (place : ℕ) (piece : List ℕ) → Stands bytes place piece → place + length piece ≤ length bytes
stands_within bytes place piece s =
    let whole : length bytes ≡ length s.before + (length piece + length s.after) = ap length s.parts ∙ length-append s.before (piece ++ s.after) ∙ ap (λ (n : ℕ). length s.before + n) (length-append piece s.after) in
    omega (arith, whole, s.count)

pub length-half : (n : ℕ) → length (half n) ≡ 2
unfolding half
length-half n = length-bytes_low_first 0 2 n

pub length-word : (n : ℕ) → length (word n) ≡ 4
unfolding word
length-word n = length-bytes_low_first 0 4 n

-- a number that stands at a place is read there
pub half_read : (bytes : List ℕ) (place n : ℕ) → Stands bytes place (half n) → n < 2 ^ 16 → half_at bytes place ≡ n
unfolding half_at half
half_read bytes place n s lt =
    ap (little_number 2) (rest_is bytes place (little_bytes 2 n) s)
    ∙ little_from-bytes 2 0 n s.after
    ∙ ap (λ (m : ℕ). m % 256 ^ 2) (div-one n)
    ∙ mod-eq_of_lt lt

pub word_read : (bytes : List ℕ) (place n : ℕ) → Stands bytes place (word n) → word_at bytes place ≡ n % 2 ^ 32
unfolding word_at word
word_read bytes place n s =
    ap (little_number 4) (rest_is bytes place (little_bytes 4 n) s)
    ∙ little_from-bytes 4 0 n s.after
    ∙ ap (λ (m : ℕ). m % 256 ^ 4) (div-one n)

pub small_read : (bytes : List ℕ) (place n : ℕ) → Stands bytes place (word n) → n < 2 ^ 32 → word_at bytes place ≡ n
small_read bytes place n s lt = word_read bytes place n s ∙ mod-eq_of_lt lt

some_is : (y x : ℕ) → Some y ≡ Some x → y ≡ x
some_is y x e = cc

-- numbers one after the other
pub halves_stand : (bytes : List ℕ) (place next k : ℕ) (xs : List ℕ) (x : ℕ) → slice_get xs k ≡ Some x → place + 2 * k ≡ next → Stands bytes place (flat_map half xs) → Stands bytes next (half x)
halves_stand bytes place next k [] x e at s = absurd cc
halves_stand bytes place next zero (y ∷ xs) x e at s =
    let same : half y ≡ half x = ap half (some_is y x e) in
    let here : place ≡ next = omega arith in
    subst (λ (p : ℕ). Stands bytes p (half x)) here (stands_as bytes place (half y) (half x) same (stands_left bytes place (half y) (flat_map half xs) s))
halves_stand bytes place next (suc k) (y ∷ xs) x e at s =
    halves_stand bytes (place + 2) next k xs x e (omega arith) (stands_right bytes place (place + 2) (half y) (flat_map half xs) (ap (λ (n : ℕ). place + n) (length-half y)) s)

pub words_stand : (bytes : List ℕ) (place next k : ℕ) (xs : List ℕ) (x : ℕ) → slice_get xs k ≡ Some x → place + 4 * k ≡ next → Stands bytes place (flat_map word xs) → Stands bytes next (word x)
words_stand bytes place next k [] x e at s = absurd cc
words_stand bytes place next zero (y ∷ xs) x e at s =
    let same : word y ≡ word x = ap word (some_is y x e) in
    let here : place ≡ next = omega arith in
    subst (λ (p : ℕ). Stands bytes p (word x)) here (stands_as bytes place (word y) (word x) same (stands_left bytes place (word y) (flat_map word xs) s))
words_stand bytes place next (suc k) (y ∷ xs) x e at s =
    words_stand bytes (place + 4) next k xs x e (omega arith) (stands_right bytes place (place + 4) (word y) (flat_map word xs) (ap (λ (n : ℕ). place + n) (length-word y)) s)

pub length-halves : (xs : List ℕ) → length (flat_map half xs) ≡ 2 * length xs
length-halves [] = refl
length-halves (x ∷ xs) = omega (arith, length-append (half x) (flat_map half xs), length-half x, length-halves xs)

pub length-words : (xs : List ℕ) → length (flat_map word xs) ≡ 4 * length xs
length-words [] = refl
length-words (x ∷ xs) = omega (arith, length-append (word x) (flat_map word xs), length-word x, length-words xs)
