-- The operands that show writes are read again.
use Rattle.std.proofs.Common.{◌≡◌, ◌==◌, ℕ, ◌-◌, ◌^◌, ◌<◌, ◌≤◌, suc, ℤ, pos, negsuc, neg_ℤ, Bool, true, false, ◌&&◌, not, List, [], ◌∷◌, ◌++◌, length, length-append, take, get_or, Ok, refl, ap, ◌∙◌, arith}
use Rattle.std.specs.List.{list_all}
use Rattle.std.specs.Fmt.{decimal, signed_decimal}
use Rattle.std.proofs.lemmas.Fmt.{decimal_is_IsNumeral}
use Rattle.std.proofs.lemmas.Bool.Decides.{nat_tests}
use Rattle.std.specs.Str.Parse.{AllDigits}
use Rattle.std.proofs.lemmas.Str.Parse.{digit_from_value}
use Rattle.rv_decode.specs.Words.{is_from}
use Rattle.asm_lines.specs.Cuts.{begins_name, front_to, behind, has}
use Rattle.asm_lines.specs.Operands.{is_paren, is_indexed_kind, inside, register_operand, number_operand, indexed_operand, value_operand, number_said, Number}
use Rattle.rv_asm.specs.Shown.{register_text, indexed_text}
use Rattle.rv_asm.proofs.Plain.{and_none, has_none, has_first, front_first, behind_first, take_front}
use Rattle.rv_asm.proofs.Numerals.{digits_all, register_of-text, spelled-signed}

-- an operand's number may have any of these values
abbrev pub Spells : ℤ → Type 0
Spells z = is_from (neg_ℤ (pos (2 ^ 31))) (pos (2 ^ 32 - 1)) z ≡ true

pub register_operand-text : (r : ℕ) → r < 32 → register_operand (register_text r) ≡ Ok r
unfolding register_operand
register_operand-text r small = rw (register_of-text r small) refl

-- digits have no parenthesis, and begin no name
no_paren : (ds : List ℕ) → AllDigits 10 ds → list_all (λ b. not (is_paren b)) ds ≡ true
no_paren ds all = digits_all (λ b. not (is_paren b)) (λ c low high. grind (arith, nat_tests, low, high)) ds all

no_name : (ds : List ℕ) → AllDigits 10 ds → 0 < length ds → begins_name (get_or ds 0 0) ≡ false
no_name [] all some = absurd (omega (arith, some))
no_name (d ∷ ds) all some = let range = digit_from_value d all.0 in grind (arith, nat_tests, range.0, range.1)

first_append : (xs ys : List ℕ) → 0 < length xs → get_or (xs ++ ys) 0 0 ≡ get_or xs 0 0
first_append [] ys some = absurd (omega (arith, some))
first_append (x ∷ xs) ys some = refl

get_or_behind : (x : ℕ) (l : List ℕ) (n m : ℕ) → n ≡ suc m → get_or (x ∷ l) n 0 ≡ get_or l m 0
get_or_behind x l n m e = rw e refl

last_append : (xs ys : List ℕ) → 0 < length ys → get_or (xs ++ ys) (length (xs ++ ys) - 1) 0 ≡ get_or ys (length ys - 1) 0
last_append [] ys some = refl
last_append (x ∷ xs) ys some =
    let longer = length-append xs ys in
    get_or_behind x (xs ++ ys) (length (x ∷ (xs ++ ys)) - 1) (length (xs ++ ys) - 1) (omega (arith, longer)) ∙ last_append xs ys some

pub take_but_last : (xs : List ℕ) (c : ℕ) → take (length (xs ++ c ∷ []) - 1) (xs ++ c ∷ []) ≡ xs
take_but_last xs c =
    let longer = length-append xs (c ∷ []) in
    let e : length (xs ++ c ∷ []) - 1 ≡ length xs = omega (arith, longer) in
    ap (λ n. take n (xs ++ c ∷ [])) e ∙ take_front xs (c ∷ [])

number_kind : (name last paren : Bool) → name ≡ false → paren ≡ false → (not name && not (not name && last && paren)) ≡ true
number_kind name last paren h g = rw (h, g, and_none last) refl

-- what a signed number's text is like
record Signed (text : List ℕ) : Type 0 where
  some : 0 < length text
  no_name : begins_name (get_or text 0 0) ≡ false
  no_paren : list_all (λ b. not (is_paren b)) text ≡ true

signed_text : (z : ℤ) → Spells z → Signed (signed_decimal z)
signed_text (pos n) h =
    let small : n < 2 ^ 32 = grind (arith, nat_tests) in
    let numeral = decimal_is_IsNumeral n (omega arith) in
    record { some = numeral.0.0; no_name = no_name (decimal n) numeral.0.1 numeral.0.0; no_paren = no_paren (decimal n) numeral.0.1 }
signed_text (negsuc n) h =
    let small : suc n ≤ 2 ^ 31 = grind (arith, nat_tests) in
    let numeral = decimal_is_IsNumeral (suc n) (omega arith) in
    record { some = omega arith; no_name = refl; no_paren = no_paren (decimal (suc n)) numeral.0.1 }

pub number_operand-signed : (z : ℤ) → Spells z → number_operand (signed_decimal z) ≡ Ok z
unfolding number_operand
number_operand-signed z h =
    let text = signed_text z h in
    rw (number_kind _ _ _ text.no_name (has_none is_paren (signed_decimal z) text.no_paren), spelled-signed z h) refl

indexed_kind : (name last paren : Bool) → name ≡ false → last ≡ true → paren ≡ true → (not name && last && paren) ≡ true
indexed_kind name last paren h g k = rw (h, g, k) refl

-- a number and a register behind it
indexed_parts : (text reg : List ℕ) → Signed text
    → (is_indexed_kind (text ++ 40 ∷ (reg ++ 41 ∷ [])) ≡ true) × (front_to is_paren (text ++ 40 ∷ (reg ++ 41 ∷ [])) ≡ text) × (inside (text ++ 40 ∷ (reg ++ 41 ∷ [])) ≡ reg)
indexed_parts text reg s =
    let whole : List ℕ = text ++ 40 ∷ (reg ++ 41 ∷ []) in
    let name : begins_name (get_or whole 0 0) ≡ false = ap begins_name (first_append text (40 ∷ (reg ++ 41 ∷ [])) s.some) ∙ s.no_name in
    let some_end : 0 < length (40 ∷ (reg ++ 41 ∷ [])) = omega arith in
    let last : get_or whole (length whole - 1) 0 ≡ 41 = last_append text (40 ∷ (reg ++ 41 ∷ [])) some_end ∙ last_append (40 ∷ reg) (41 ∷ []) (omega arith) in
    let is_last : (get_or whole (length whole - 1) 0 == 41) ≡ true = ap (λ b. b == 41) last in
    let paren : has is_paren whole ≡ true = has_first is_paren text 40 (reg ++ 41 ∷ []) s.no_paren refl in
    let after : behind is_paren whole ≡ reg ++ 41 ∷ [] = behind_first is_paren text 40 (reg ++ 41 ∷ []) s.no_paren refl in (
      indexed_kind _ _ _ name is_last paren,
      front_first is_paren text 40 (reg ++ 41 ∷ []) s.no_paren refl,
      ap (λ t. take (length t - 1) t) after ∙ take_but_last reg 41,
    )

pub indexed_operand-text : (z : ℤ) (r : ℕ) → Spells z → r < 32 → indexed_operand (indexed_text z r) ≡ Ok (z, r)
unfolding indexed_operand
indexed_operand-text z r h small =
    let parts = indexed_parts (signed_decimal z) (register_text r) (signed_text z h) in
    rw (parts.0, parts.1, parts.2, spelled-signed z h, register_of-text r small) refl

-- a number where a target is wanted
not_name : (short all : Bool) (begins : Bool) → begins ≡ false → (short && begins && all) ≡ false
not_name true all begins h = rw h refl
not_name false all begins h = refl

pub value_operand-signed : (z : ℤ) → Spells z → value_operand (signed_decimal z) ≡ Ok (Number z)
unfolding value_operand
value_operand-signed z h =
    let text = signed_text z h in
    rw (not_name _ _ _ text.no_name) (ap number_said (number_operand-signed z h))

pub signed_some : (z : ℤ) → Spells z → 0 < length (signed_decimal z)
signed_some z h = let text = signed_text z h in text.some
