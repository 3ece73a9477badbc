-- Texts of bytes that part nothing: what the assembler's cuts do to them.
use Rattle.std.proofs.Common.{◌≡◌, ◌==◌, ℕ, ◌+◌, ◌<◌, suc, Bool, true, false, ◌&&◌, ◌||◌, not, nat_le, List, [], ◌∷◌, ◌++◌, length, length-append, take, drop, map, refl, ap, ◌∙◌, arith}
use Rattle.std.specs.List.{list_all, slice_split, onto_first, position_or_len}
use Rattle.std.proofs.lemmas.Bool.{and_parts}
use Rattle.std.proofs.lemmas.List.Splits.{length-slice_split}
use Rattle.std.proofs.lemmas.Bool.Decides.{nat_tests}
use Rattle.asm_lines.specs.Cuts.{is_text_byte, is_blank, trim_front, trim_end, trimmed, before_trimmed, front_to, behind, has}
use Rattle.asm_lines.specs.Operands.{operand_parts}

-- the bytes of names and operands: from `(` to `z`, with no comma and no colon
abbrev pub plain : ℕ → Bool
plain b = nat_le 40 b && nat_le b 122 && not (b == 44) && not (b == 58)

-- and those of whole statements: a space and a comma too
abbrev pub shown : ℕ → Bool
shown b = (b == 32) || (nat_le 40 b && nat_le b 122 && not (b == 58))

pub both_true : {a b : Bool} → a ≡ true → b ≡ true → (a && b) ≡ true
both_true {a = true} {b = true} h g = refl
both_true {a = true} {b = false} h g = cc
both_true {a = false} {b = b} h g = cc

-- a test of a list follows from another of each element
pub all_weaker : (p q : ℕ → Bool) → ((b : ℕ) → p b ≡ true → q b ≡ true) → (xs : List ℕ) → list_all p xs ≡ true → list_all q xs ≡ true
all_weaker p q h [] all = refl
all_weaker p q h (x ∷ xs) all =
    let parts = and_parts (p x) (list_all p xs) all in
    both_true (h x parts.0) (all_weaker p q h xs parts.1)

pub all_append : (p : ℕ → Bool) (xs ys : List ℕ) → list_all p xs ≡ true → list_all p ys ≡ true → list_all p (xs ++ ys) ≡ true
all_append p [] ys h g = g
all_append p (x ∷ xs) ys h g =
    let parts = and_parts (p x) (list_all p xs) h in
    both_true parts.0 (all_append p xs ys parts.1 g)

pub plain_shown : (b : ℕ) → plain b ≡ true → shown b ≡ true
plain_shown b h = grind (arith, nat_tests)

pub shown_text : (b : ℕ) → shown b ≡ true → is_text_byte b ≡ true
shown_text b h = grind (arith, nat_tests)

pub shown_no_end : (b : ℕ) → shown b ≡ true → not (b == 10) ≡ true
shown_no_end b h = grind (arith, nat_tests)

pub shown_no_comment : (b : ℕ) → shown b ≡ true → not (b == 35) ≡ true
shown_no_comment b h = grind (arith, nat_tests)

pub plain_no_comma : (b : ℕ) → plain b ≡ true → not (b == 44) ≡ true
plain_no_comma b h = grind (arith, nat_tests)

pub plain_no_blank : (b : ℕ) → plain b ≡ true → not (is_blank b) ≡ true
plain_no_blank b h = grind (arith, nat_tests)

pub not_true : (b : Bool) → not b ≡ true → b ≡ false
not_true true h = cc
not_true false h = refl

-- where no element passes
pub no_place : (p : ℕ → Bool) (xs : List ℕ) → list_all (λ b. not (p b)) xs ≡ true → position_or_len p xs ≡ length xs
no_place p [] h = refl
no_place p (x ∷ xs) h =
    let parts = and_parts (not (p x)) (list_all (λ b. not (p b)) xs) h in
    let more = no_place p xs parts.1 in
    rw parts.0 (let e : 1 + position_or_len p xs ≡ length (x ∷ xs) = omega (arith, more) in e)

-- the place of the first element that passes, behind others that don't
pub first_place : (p : ℕ → Bool) (xs : List ℕ) (y : ℕ) (ys : List ℕ) → list_all (λ b. not (p b)) xs ≡ true → p y ≡ true → position_or_len p (xs ++ y ∷ ys) ≡ length xs
first_place p [] y ys h g = rw g refl
first_place p (x ∷ xs) y ys h g =
    let parts = and_parts (not (p x)) (list_all (λ b. not (p b)) xs) h in
    let more = first_place p xs y ys parts.1 g in
    rw parts.0 (let e : 1 + position_or_len p (xs ++ y ∷ ys) ≡ length (x ∷ xs) = omega (arith, more) in e)

pub take_whole : (xs : List ℕ) → take (length xs) xs ≡ xs
take_whole [] = refl
take_whole (x ∷ xs) = ap (λ l. x ∷ l) (take_whole xs)

pub take_front : (xs ys : List ℕ) → take (length xs) (xs ++ ys) ≡ xs
take_front [] ys = refl
take_front (x ∷ xs) ys = ap (λ l. x ∷ l) (take_front xs ys)

drop_front : (xs ys : List ℕ) → drop (length xs) (xs ++ ys) ≡ ys
drop_front [] ys = refl
drop_front (x ∷ xs) ys = drop_front xs ys

drop_past : (xs : List ℕ) (y : ℕ) (ys : List ℕ) → drop (length xs + 1) (xs ++ y ∷ ys) ≡ ys
drop_past [] y ys = refl
drop_past (x ∷ xs) y ys =
    let e : length (x ∷ xs) + 1 ≡ suc (length xs + 1) = omega arith in
    rw e (drop_past xs y ys)

pub front_whole : (p : ℕ → Bool) (xs : List ℕ) → list_all (λ b. not (p b)) xs ≡ true → front_to p xs ≡ xs
front_whole p xs h = ap (λ n. take n xs) (no_place p xs h) ∙ take_whole xs

pub front_first : (p : ℕ → Bool) (xs : List ℕ) (y : ℕ) (ys : List ℕ) → list_all (λ b. not (p b)) xs ≡ true → p y ≡ true → front_to p (xs ++ y ∷ ys) ≡ xs
front_first p xs y ys h g = ap (λ n. take n (xs ++ y ∷ ys)) (first_place p xs y ys h g) ∙ take_front xs (y ∷ ys)

pub behind_first : (p : ℕ → Bool) (xs : List ℕ) (y : ℕ) (ys : List ℕ) → list_all (λ b. not (p b)) xs ≡ true → p y ≡ true → behind p (xs ++ y ∷ ys) ≡ ys
behind_first p xs y ys h g = ap (λ n. drop (n + 1) (xs ++ y ∷ ys)) (first_place p xs y ys h g) ∙ drop_past xs y ys

pub has_none : (p : ℕ → Bool) (xs : List ℕ) → list_all (λ b. not (p b)) xs ≡ true → has p xs ≡ false
has_none p xs h = let e = no_place p xs h in grind (arith, nat_tests, e)

pub has_first : (p : ℕ → Bool) (xs : List ℕ) (y : ℕ) (ys : List ℕ) → list_all (λ b. not (p b)) xs ≡ true → p y ≡ true → has p (xs ++ y ∷ ys) ≡ true
has_first p xs y ys h g =
    let e = first_place p xs y ys h g in
    let longer = length-append xs (y ∷ ys) in
    let inside : length xs < length (xs ++ y ∷ ys) = omega (arith, longer) in
    grind (arith, nat_tests, e, inside)

-- ---- blanks

pub trim_front_plain : (xs : List ℕ) → list_all plain xs ≡ true → trim_front xs ≡ xs
trim_front_plain [] h = refl
trim_front_plain (x ∷ xs) h =
    let parts = and_parts (plain x) (list_all plain xs) h in
    let other : is_blank x ≡ false = not_true _ (plain_no_blank x parts.0) in
    rw other refl

pub trim_end_plain : (xs : List ℕ) → list_all plain xs ≡ true → trim_end xs ≡ xs
trim_end_plain [] h = refl
trim_end_plain (x ∷ xs) h =
    let parts = and_parts (plain x) (list_all plain xs) h in
    let other : is_blank x ≡ false = not_true _ (plain_no_blank x parts.0) in
    ap (before_trimmed x) (trim_end_plain xs parts.1) ∙ (let e : before_trimmed x xs ≡ x ∷ xs = rw other refl in e)

pub trimmed_plain : (xs : List ℕ) → list_all plain xs ≡ true → trimmed xs ≡ xs
trimmed_plain xs h = ap trim_end (trim_front_plain xs h) ∙ trim_end_plain xs h

pub and_none : (b : Bool) → (b && false) ≡ false
and_none true = refl
and_none false = refl

-- what ends with a byte that is no blank has no blanks at its end
pub before_some : (b : ℕ) (xs : List ℕ) → 0 < length xs → before_trimmed b xs ≡ b ∷ xs
before_some b xs some =
    let other : (length xs == 0) ≡ false = grind (arith, nat_tests) in
    rw (other, and_none (is_blank b)) refl

pub trim_end_append : (xs ys : List ℕ) → trim_end ys ≡ ys → 0 < length ys → trim_end (xs ++ ys) ≡ xs ++ ys
trim_end_append [] ys h some = h
trim_end_append (x ∷ xs) ys h some =
    ap (before_trimmed x) (trim_end_append xs ys h some) ∙ before_some x (xs ++ ys) (omega (arith, length-append xs ys))

-- ---- commas

split_first : (p : ℕ → Bool) (xs : List ℕ) (y : ℕ) (ys : List ℕ) → list_all (λ b. not (p b)) xs ≡ true → p y ≡ true → slice_split p (xs ++ y ∷ ys) ≡ xs ∷ slice_split p ys
split_first p [] y ys h g = rw g refl
split_first p (x ∷ xs) y ys h g =
    let parts = and_parts (not (p x)) (list_all (λ b. not (p b)) xs) h in
    let other : p x ≡ false = not_true _ parts.0 in
    rw other (ap (onto_first x) (split_first p xs y ys parts.1 g))

pub split_none : (p : ℕ → Bool) (xs : List ℕ) → list_all (λ b. not (p b)) xs ≡ true → slice_split p xs ≡ xs ∷ []
split_none p [] h = refl
split_none p (x ∷ xs) h =
    let parts = and_parts (not (p x)) (list_all (λ b. not (p b)) xs) h in
    let other : p x ≡ false = not_true _ parts.0 in
    rw other (ap (onto_first x) (split_none p xs parts.1))

trimmed_space : (parts : List (List ℕ)) → 0 < length parts → map trimmed (onto_first 32 parts) ≡ map trimmed parts
trimmed_space [] some = absurd (omega (arith, some))
trimmed_space (part ∷ parts) some = refl

some_parts : (p : ℕ → Bool) (xs : List ℕ) → 0 < length (slice_split p xs)
some_parts p xs = omega (arith, length-slice_split p xs)

-- operands that are comma_joined are parted again
pub parts_first : (a rest : List ℕ) → list_all plain a ≡ true → operand_parts (a ++ 44 ∷ 32 ∷ rest) ≡ a ∷ operand_parts rest
parts_first a rest h =
    ap (map trimmed) (split_first (λ b. b == 44) a 44 (32 ∷ rest) (all_weaker plain (λ b. not (b == 44)) plain_no_comma a h) refl)
    ∙ ap (λ t. t ∷ map trimmed (onto_first 32 (slice_split (λ b. b == 44) rest))) (trimmed_plain a h)
    ∙ ap (λ l. a ∷ l) (trimmed_space (slice_split (λ b. b == 44) rest) (some_parts (λ b. b == 44) rest))

pub parts_last : (a : List ℕ) → list_all plain a ≡ true → operand_parts a ≡ a ∷ []
parts_last a h =
    ap (map trimmed) (split_none (λ b. b == 44) a (all_weaker plain (λ b. not (b == 44)) plain_no_comma a h))
    ∙ ap (λ t. t ∷ []) (trimmed_plain a h)
