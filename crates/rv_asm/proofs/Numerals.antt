-- Numbers and registers in decimal are read again.
use Rattle.std.proofs.Common.{◌≡◌, ◌==◌, ℕ, ◌-◌, ◌^◌, ◌<◌, ◌≤◌, suc, zero, ℤ, pos, negsuc, neg_ℤ, Bool, cond, true, false, ◌&&◌, List, [], ◌∷◌, length, take, get_or, Some, None, refl, ap, ◌∙◌, arith, lit<, unsigned_abs, nat_lt}
use Rattle.std.specs.List.{list_all}
use Rattle.std.specs.Char.{is_digit}
use Rattle.std.specs.Fmt.{decimal, signed_decimal}
use Rattle.std.specs.Str.{bytes_eq}
use Rattle.std.specs.Str.Parse.{AllDigits, digits_value}
use Rattle.std.proofs.lemmas.Str.Parse.{digit_from_value}
use Rattle.std.proofs.lemmas.Fmt.{decimal_is_IsNumeral, length-decimal-le, decimal_digit, first_decimal}
use Rattle.std.proofs.lemmas.Bool.{lt-ltb, le-leb}
use Rattle.std.proofs.lemmas.Bool.Decides.{nat_tests}
use Rattle.text_readers.specs.Numbers.{plain_decimal, digits_number, decimal_of}
use Rattle.asm_lines.specs.Numbers.{spelled, counted_register, register_of}
use Rattle.rv_decode.specs.Words.{is_from}
use Rattle.rv_asm.specs.Shown.{register_text}
use Rattle.rv_asm.proofs.Plain.{plain, both_true, and_none}

pub digits_all : (p : ℕ → Bool) → ((c : ℕ) → 48 ≤ c → c ≤ 57 → p c ≡ true) → (ds : List ℕ) → AllDigits 10 ds → list_all p ds ≡ true
digits_all p h [] all = refl
digits_all p h (c ∷ ds) all =
    let range = digit_from_value c all.0 in
    both_true (h c range.0 range.1) (digits_all p h ds all.1)

is_digits : (ds : List ℕ) → AllDigits 10 ds → list_all (λ c. is_digit c 10) ds ≡ true
is_digits [] all = refl
is_digits (c ∷ ds) all = both_true (lt-ltb _ _ all.0) (is_digits ds all.1)

chosen : (all small : Bool) (v : ℕ) → all ≡ true → small ≡ true → cond (all && small) (Some v) None ≡ Some v
chosen true true v h g = refl
chosen true false v h g = cc
chosen false small v h g = cc

number_of-decimal : (n : ℕ) → n < 2 ^ 64 → digits_number 10 (decimal n) ≡ Some n
unfolding digits_number
number_of-decimal n small =
    let numeral = decimal_is_IsNumeral n small in
    let fits : digits_value 10 (decimal n) < 2 ^ 64 = rw numeral.1 small in
    chosen _ _ _ (is_digits (decimal n) numeral.0.1) (lt-ltb _ _ fits) ∙ ap (λ v. Some v) numeral.1

decimal_of-decimal : (n : ℕ) → n < 2 ^ 64 → decimal_of (decimal n) ≡ Some n
decimal_of-decimal n small =
    let numeral = decimal_is_IsNumeral n small in
    let some : 0 < length (decimal n) = numeral.0.0 in
    let most : length (decimal n) ≤ 20 = length-decimal-le 20 n (lit< tt) (omega arith) small in
    let number = number_of-decimal n small in
    grind (arith, nat_tests, some, most, number)

pub plain_decimal-decimal : (n : ℕ) → n < 2 ^ 64 → plain_decimal (decimal n) ≡ Some n
unfolding plain_decimal
plain_decimal-decimal zero small = rw (decimal_digit 0 (lit< tt)) (let e = decimal_of-decimal 0 (lit< tt) in rw (decimal_digit 0 (lit< tt)) at e)
plain_decimal-decimal (suc n) small =
    let first = first_decimal (suc n) (omega arith) small in
    let number = decimal_of-decimal (suc n) small in
    let other : (get_or (decimal (suc n)) 0 0 == 48) ≡ false = grind (arith, nat_tests, first) in
    rw (other, and_none (nat_lt 1 (length (decimal (suc n))))) number

-- what plain texts begin with
pub decimal_plain : (n : ℕ) → n < 2 ^ 64 → list_all plain (decimal n) ≡ true
decimal_plain n small =
    let numeral = decimal_is_IsNumeral n small in
    digits_all plain (λ c low high. grind (arith, nat_tests, low, high)) (decimal n) numeral.0.1

pub register_plain : (r : ℕ) → r < 32 → list_all plain (register_text r) ≡ true
register_plain r small = decimal_plain r (omega arith)

-- a number in decimal, with its sign
pub signed_plain : (z : ℤ) → unsigned_abs z < 2 ^ 63 → list_all plain (signed_decimal z) ≡ true
signed_plain (pos n) small = decimal_plain n (omega arith)
signed_plain (negsuc n) small = decimal_plain (suc n) (omega arith)

digits_no_prefix : (ds : List ℕ) → AllDigits 10 ds → bytes_eq (take 2 ds) (48 ∷ 120 ∷ []) ≡ false
digits_no_prefix [] all = refl
digits_no_prefix (a ∷ []) all = and_none (a == 48)
digits_no_prefix (a ∷ b ∷ ds) all =
    let range = digit_from_value b all.1.0 in
    let other : (b == 120) ≡ false = grind (arith, nat_tests, range.1) in
    ap (λ t. (a == 48) && (t && true)) other ∙ and_none (a == 48)

digits_no_minus : (ds : List ℕ) → AllDigits 10 ds → (get_or ds 0 0 == 45) ≡ false
digits_no_minus [] all = refl
digits_no_minus (a ∷ ds) all = let range = digit_from_value a all.0 in grind (arith, nat_tests, range.0)

-- the numbers that operands spell are read again
pub spelled-signed : (z : ℤ) → is_from (neg_ℤ (pos (2 ^ 31))) (pos (2 ^ 32 - 1)) z ≡ true → spelled (signed_decimal z) ≡ Some z
unfolding spelled
spelled-signed (pos n) within =
    let small : n < 2 ^ 32 = grind (arith, nat_tests) in
    let numeral = decimal_is_IsNumeral n (omega arith) in
    let number = plain_decimal-decimal n (omega arith) in
    rw (digits_no_prefix (decimal n) numeral.0.1, digits_no_minus (decimal n) numeral.0.1, number, lt-ltb _ _ small) refl
spelled-signed (negsuc n) within =
    let small : suc n ≤ 2 ^ 31 = grind (arith, nat_tests) in
    let number = plain_decimal-decimal (suc n) (omega arith) in
    rw (number, le-leb _ _ small) refl

counted_register-decimal : (r : ℕ) → r < 32 → counted_register (120 ∷ decimal r) ≡ Some r
unfolding counted_register
counted_register-decimal r small =
    let number = plain_decimal-decimal r (omega arith) in
    rw number (grind (arith, nat_tests))

pub register_of-text : (r : ℕ) → r < 32 → register_of (register_text r) ≡ Some r
unfolding register_of
register_of-text r small = counted_register-decimal r small
