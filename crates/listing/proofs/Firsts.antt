-- What stands first among the bytes from an address on.
use Rattle.std.proofs.Common.{◌≡◌, ◌≢◌, ℕ, ◌+◌, ◌-◌, ◌%◌, ◌<◌, ◌≤◌, ◌==◌, true, false, List, [], ◌∷◌, ◌++◌, length, take, drop, slice_index, ◌⊎◌, inl, inr, refl, ap, ◌∙◌, arith}
use Rattle.std.specs.Int.{w32, from_le_bytes}
use Rattle.std.proofs.lemmas.List.{take_rest, drop-drop, drop_all}
use Rattle.std.proofs.lemmas.Bool.Decides.{nat_tests}
use Rattle.listing.specs.Listing.{word, byte, items, lines_text}

pub no_items : (at : ℕ) (bytes : List ℕ) → bytes ≡ [] → items at bytes ≡ []
unfolding items
no_items at bytes e = rw e refl

is_aligned : (at : ℕ) → at % 4 ≡ 0 → (at % 4 == 0) ≡ true
is_aligned at h = grind (arith, nat_tests, h)

isn't_aligned : (at : ℕ) → at % 4 ≢ 0 → (at % 4 == 0) ≡ false
isn't_aligned at h = grind (arith, nat_tests, h)

pub first_word : (at : ℕ) (bytes : List ℕ) → at % 4 ≡ 0 → 4 ≤ length bytes
    → items at bytes ≡ word at (from_le_bytes w32 (slice_index bytes 0 ∷ slice_index bytes 1 ∷ slice_index bytes 2 ∷ slice_index bytes 3 ∷ [])) ∷ items (at + 4) (drop 4 bytes)
unfolding items
first_word at [] h k = absurd (omega (arith, k))
first_word at (a ∷ []) h k = absurd (omega (arith, k))
first_word at (a ∷ b ∷ []) h k = absurd (omega (arith, k))
first_word at (a ∷ b ∷ c ∷ []) h k = absurd (omega (arith, k))
first_word at (a ∷ b ∷ c ∷ d ∷ more) h k = rw (is_aligned at h) refl

pub first_byte : (at : ℕ) (bytes : List ℕ) → 0 < length bytes → (at % 4 ≢ 0) ⊎ (length bytes < 4)
    → items at bytes ≡ byte at (slice_index bytes 0) ∷ items (at + 1) (drop 1 bytes)
unfolding items
first_byte at [] k h = absurd (omega (arith, k))
first_byte at (a ∷ []) k h = refl
first_byte at (a ∷ b ∷ []) k h = refl
first_byte at (a ∷ b ∷ c ∷ []) k h = refl
first_byte at (a ∷ b ∷ c ∷ d ∷ more) k (inl h) = rw (isn't_aligned at h) refl
first_byte at (a ∷ b ∷ c ∷ d ∷ more) k (inr h) = absurd (omega (arith, h))

-- ---- the text of what is left

-- the first line of what is left of the bytes at a place
pub first_left : (addr at n : ℕ) (bytes line : List ℕ)
    → lines_text (items (addr + at) (take (length bytes - at) (drop at bytes))) ≡ line ++ lines_text (items (addr + at + n) (drop n (take (length bytes - at) (drop at bytes))))
    → lines_text (items (addr + at) (drop at bytes)) ≡ line ++ lines_text (items (addr + (at + n)) (drop (at + n) bytes))
first_left addr at n bytes line h =
    let left : lines_text (items (addr + at) (drop at bytes)) ≡ line ++ lines_text (items (addr + at + n) (drop n (drop at bytes))) = rw take_rest at h in
    let e : addr + at + n ≡ addr + (at + n) = omega arith in
    left ∙ ap (λ k. line ++ lines_text (items k (drop n (drop at bytes)))) e ∙ ap (λ l. line ++ lines_text (items (addr + (at + n)) l)) (drop-drop n at bytes)

pub none_left : (addr at : ℕ) (bytes : List ℕ) → length bytes ≤ at → items (addr + at) (drop at bytes) ≡ []
none_left addr at bytes h = no_items (addr + at) (drop at bytes) (drop_all at bytes h)
