-- Blanks at the end of a text.
use Rattle.std.proofs.Common.{◌≡◌, ◌==◌, ℕ, ◌+◌, ◌-◌, ◌<◌, ◌≤◌, Bool, true, false, ◌&&◌, List, [], ◌∷◌, ◌++◌, length, length-append, take, get_or, refl, ap, sym, ◌∙◌, arith}
use Rattle.std.proofs.lemmas.Bool.Decides.{nat_tests}
use Rattle.std.proofs.lemmas.List.{take_more}
use Rattle.asm_lines.specs.Cuts.{is_blank, before_trimmed, trim_end}

dropped : (b : ℕ) → is_blank b ≡ true → before_trimmed b [] ≡ []
dropped b h = rw h refl

kept : (b : ℕ) (xs : List ℕ) → is_blank b ≡ false → before_trimmed b xs ≡ b ∷ xs
kept b xs h = rw h refl

tests_false : (b : Bool) → (b && false) ≡ false
tests_false true = refl
tests_false false = refl

before_some : (b : ℕ) (xs : List ℕ) → 0 < length xs → before_trimmed b xs ≡ b ∷ xs
before_some b xs some =
    let other : (length xs == 0) ≡ false = grind (arith, nat_tests) in
    rw (other, tests_false (is_blank b)) refl

-- a blank at the end falls
pub trim_end-blank : (xs : List ℕ) (b : ℕ) → is_blank b ≡ true → trim_end (xs ++ b ∷ []) ≡ trim_end xs
trim_end-blank [] b h = dropped b h
trim_end-blank (x ∷ xs) b h = ap (before_trimmed x) (trim_end-blank xs b h)

-- any other byte there stands
pub trim_end-stays : (xs : List ℕ) (b : ℕ) → is_blank b ≡ false → trim_end (xs ++ b ∷ []) ≡ xs ++ b ∷ []
trim_end-stays [] b h = kept b [] h
trim_end-stays (x ∷ xs) b h = ap (before_trimmed x) (trim_end-stays xs b h) ∙ before_some x (xs ++ b ∷ []) (omega (arith, length-append xs (b ∷ [])))

pub trim_end-take_blank : (xs : List ℕ) (n : ℕ) → 0 < n → n ≤ length xs → is_blank (get_or xs (n - 1) 0) ≡ true → trim_end (take (n - 1) xs) ≡ trim_end (take n xs)
trim_end-take_blank xs n some within h =
    let e : n - 1 + 1 ≡ n = omega arith in
    let more : take (n - 1 + 1) xs ≡ take (n - 1) xs ++ get_or xs (n - 1) 0 ∷ [] = take_more xs (n - 1) 0 (omega arith) in
    sym (ap (λ k. trim_end (take k xs)) (sym e) ∙ ap trim_end more ∙ trim_end-blank (take (n - 1) xs) (get_or xs (n - 1) 0) h)

pub trim_end-take_stays : (xs : List ℕ) (n : ℕ) → 0 < n → n ≤ length xs → is_blank (get_or xs (n - 1) 0) ≡ false → trim_end (take n xs) ≡ take n xs
trim_end-take_stays xs n some within h =
    let e : n - 1 + 1 ≡ n = omega arith in
    let more : take (n - 1 + 1) xs ≡ take (n - 1) xs ++ get_or xs (n - 1) 0 ∷ [] = take_more xs (n - 1) 0 (omega arith) in
    let more' : take n xs ≡ take (n - 1) xs ++ get_or xs (n - 1) 0 ∷ [] = ap (λ k. take k xs) (sym e) ∙ more in
    ap trim_end more' ∙ trim_end-stays (take (n - 1) xs) (get_or xs (n - 1) 0) h ∙ sym more'
