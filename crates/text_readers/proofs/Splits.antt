-- The first part of a list that is split, by the place of the first element that ends it.
use Rattle.std.proofs.Common.{◌≡◌, ◌==◌, ℕ, ◌+◌, ◌-◌, ◌<◌, ◌≤◌, Bool, cond, true, false, List, [], ◌∷◌, length, take, drop, Some, None, nat_lt, refl, ap, ◌∙◌, arith}
use Rattle.text_readers.specs.Lines.{lines_of, without_last_empty}
use Rattle.std.specs.List.{slice_split, position, position_or_len}
use Rattle.std.proofs.lemmas.Option.{cond_some}
use Rattle.std.proofs.lemmas.List.Splits.{slice_split_first, slice_split_none, length-slice_split}
use Rattle.std.proofs.lemmas.List.Sums.{fails_before_first}
use Rattle.std.proofs.lemmas.Bool.Decides.{nat_tests}

cond_none : {A : Type 0} (b : Bool) (x : A) → cond b (Some x) None ≡ None → b ≡ false
cond_none true x h = cc
cond_none false x h = refl

-- the list is split there
pub slice_split_here : (p : ℕ → Bool) (xs : List ℕ) (i : ℕ) → position p xs ≡ Some i → slice_split p xs ≡ take i xs ∷ slice_split p (drop (i + 1) xs)
slice_split_here p xs i h =
    let parts = cond_some (nat_lt (position_or_len p xs) (length xs)) (position_or_len p xs) i h in
    let inside : position_or_len p xs < length xs = grind (arith, nat_tests) in
    rw parts.1 at (slice_split_first p xs 0 inside)

-- a list with no such element is the one part
pub slice_split_nowhere : (p : ℕ → Bool) (xs : List ℕ) → position p xs ≡ None → slice_split p xs ≡ xs ∷ []
slice_split_nowhere p xs h =
    let none = cond_none (nat_lt (position_or_len p xs) (length xs)) (position_or_len p xs) h in
    let past : length xs ≤ position_or_len p xs = grind (arith, nat_tests) in
    slice_split_none p xs (λ k d inside. fails_before_first p xs k d (omega arith))

without_last_empty_more : (line : List ℕ) (parts : List (List ℕ)) → 0 < length parts → without_last_empty (line ∷ parts) ≡ line ∷ without_last_empty parts
without_last_empty_more line [] some = absurd (omega (arith, some))
without_last_empty_more line (part ∷ parts) some = refl

-- where a text is split at its first line's end, that line is its first
pub lines_of_parts : (line text rest : List ℕ) → slice_split (λ b. b == 10) text ≡ line ∷ slice_split (λ b. b == 10) rest → lines_of text ≡ line ∷ lines_of rest
lines_of_parts line text rest h =
    ap without_last_empty h ∙ without_last_empty_more line (slice_split (λ b. b == 10) rest) (omega (arith, length-slice_split (λ b. b == 10) rest))

one_part : (part : List ℕ) → 0 < length part → without_last_empty (part ∷ []) ≡ part ∷ []
one_part part some = grind (arith, nat_tests)

-- a text with no line's end is one line
pub lines_of_one : (text : List ℕ) → 0 < length text → slice_split (λ b. b == 10) text ≡ text ∷ [] → lines_of text ≡ text ∷ []
lines_of_one text some h = ap without_last_empty h ∙ one_part text some

-- nothing stands after the end
pub nothing_after : (xs : List ℕ) → take (length xs - length xs) (drop (length xs) xs) ≡ []
nothing_after xs = let none : length xs - length xs ≡ 0 = omega arith in rw none refl
