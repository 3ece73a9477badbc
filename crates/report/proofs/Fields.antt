-- Numbers at their places, and values that pass a test.
use Rattle.std.proofs.Common.{◌≡◌, ℕ, ◌+◌, ◌^◌, ◌<◌, Bool, true, false, ◌&&◌, cond, List, get_or, drop, Option, Some, None, refl, sym, ap, ◌∙◌, arith}
use Rattle.std.specs.Int.{w32, w64, from_be_bytes}
use Rattle.std.proofs.lemmas.List.{get_or-drop, drop-drop}
use Rattle.challenge.specs.Numbers.{u32_at, u64_at}

abbrev pub IsBytes : List ℕ → Type 0
IsBytes bytes = (i : ℕ) → get_or bytes i 0 < 256

IsBytes-drop : (n : ℕ) (bytes : List ℕ) → IsBytes bytes → IsBytes (drop n bytes)
IsBytes-drop n bytes h i = rw get_or-drop (h (n + i))

word_fits : (bytes : List ℕ) → IsBytes bytes → from_be_bytes w32 bytes < 2 ^ 32
word_fits bytes h = omega (arith, h 0, h 1, h 2, h 3)

long_fits : (bytes : List ℕ) → IsBytes bytes → from_be_bytes w64 bytes < 2 ^ 64
long_fits bytes h = omega (arith, h 0, h 1, h 2, h 3, h 4, h 5, h 6, h 7)

pub u32_at_fits : (bytes : List ℕ) (place : ℕ) → IsBytes bytes → u32_at bytes place < 2 ^ 32
unfolding u32_at
u32_at_fits bytes place h = word_fits (drop place bytes) (IsBytes-drop place bytes h)

pub u64_at_fits : (bytes : List ℕ) (place : ℕ) → IsBytes bytes → u64_at bytes place < 2 ^ 64
unfolding u64_at
u64_at_fits bytes place h = long_fits (drop place bytes) (IsBytes-drop place bytes h)

-- a number behind a front that is passed over
pub u32_at_rest : (bytes rest : List ℕ) (p k : ℕ) → drop p bytes ≡ rest → u32_at bytes (p + k) ≡ u32_at rest k
unfolding u32_at
u32_at_rest bytes rest p k e = ap (from_be_bytes w32) (sym (drop-drop k p bytes) ∙ ap (drop k) e)

pub u64_at_rest : (bytes rest : List ℕ) (p k : ℕ) → drop p bytes ≡ rest → u64_at bytes (p + k) ≡ u64_at rest k
unfolding u64_at
u64_at_rest bytes rest p k e = ap (from_be_bytes w64) (sym (drop-drop k p bytes) ∙ ap (drop k) e)

pub u64_here : (bytes rest : List ℕ) (p : ℕ) → drop p bytes ≡ rest → u64_at bytes p ≡ u64_at rest 0
unfolding u64_at
u64_here bytes rest p e = ap (from_be_bytes w64) e

some_is : {A : Type 0} (x y : A) → Some x ≡ Some y → x ≡ y
some_is x y e = cc

pub same_value : {A : Type 0} (o : Option A) (x y : A) → o ≡ Some x → o ≡ Some y → x ≡ y
same_value o x y e f = some_is x y (sym e ∙ f)

-- what is left where a test let it pass
pub guarded : {A : Type 0} (p : Bool) (o : Option A) (y : A) → cond p o None ≡ Some y → (p ≡ true) × (o ≡ Some y)
guarded true o y e = (refl, e)
guarded false o y e = absurd cc

pub kept : {A : Type 0} (p q : Bool) (x y : A) → cond (p && q) (Some x) None ≡ Some y → (x ≡ y) × (p ≡ true) × (q ≡ true)
kept true true x y e = (some_is x y e, refl, refl)
kept true false x y e = absurd cc
kept false q x y e = absurd cc
