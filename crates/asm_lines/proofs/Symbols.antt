-- The name that a text begins with, and what ends it.
use Rattle.std.proofs.Common.{◌≡◌, ◌≢◌, ◌==◌, ℕ, zero, suc, ◌<◌, ◌≤◌, Bool, cond, true, false, not, ◌&&◌, nat_le, nat_lt, List, [], ◌∷◌, length, take, get_or, slice_index, Some, None, inl, inr, refl, ap, sym, ◌∙◌, arith}
use Rattle.std.specs.List.{list_all, position, position_or_len}
use Rattle.std.proofs.lemmas.Bool.Decides.{nat_tests}
use Rattle.std.proofs.lemmas.Bool.{cases_lt}
use Rattle.std.proofs.lemmas.List.{get_or-take, length-take-le}
use Rattle.std.proofs.lemmas.List.Folds.{list_all_at}
use Rattle.std.proofs.lemmas.List.Sums.{position_or_len_is, prefix_len-le-length, prefix_len_passes, prefix_len_stops, list_all-from_AllPass}
use Rattle.asm_lines.specs.Cuts.{StatementWords, is_blank, begins_name, is_name_byte, is_symbol, front_to, has, has_label}

-- where the first byte of no name stands
abbrev pub name_end : List ℕ → ℕ
name_end text = position_or_len (λ byte. not (is_name_byte byte)) text

-- this test holds of no byte of names
abbrev pub IsApart : (ℕ → Bool) → Type 0
IsApart q = (b : ℕ) → is_name_byte b ≡ true → q b ≡ false

pub blanks_apart : IsApart is_blank
blanks_apart b h = grind (arith, nat_tests)

pub colons_apart : IsApart (λ b. b == 58)
colons_apart b h = grind (arith, nat_tests)

twice : (b : Bool) → not (not b) ≡ true → b ≡ true
twice true h = refl
twice false h = cc

once : (b : Bool) → not (not b) ≡ false → b ≡ false
once true h = cc
once false h = refl

name_before : (text : List ℕ) (k d : ℕ) → k < name_end text → is_name_byte (get_or text k d) ≡ true
name_before text k d h = twice _ (prefix_len_passes (λ b. not (not (is_name_byte b))) text k d h)

name_stops : (text : List ℕ) → name_end text < length text → is_name_byte (get_or text (name_end text) 0) ≡ false
name_stops text h = once _ (prefix_len_stops (λ b. not (not (is_name_byte b))) text 0 h)

within : (q : ℕ → Bool) (text : List ℕ) → position_or_len q text ≤ length text
within q text = prefix_len-le-length (λ b. not (q b)) text

cond_none : {A : Type 0} (b : Bool) (x : A) → cond b (Some x) None ≡ None → b ≡ false
cond_none true x h = cc
cond_none false x h = refl

-- no place passes where the first that does is the length
pub none_stops : (p : ℕ → Bool) (xs : List ℕ) → position p xs ≡ None → length xs ≡ position_or_len p xs
none_stops p xs h =
    let none = cond_none (nat_lt (position_or_len p xs) (length xs)) (position_or_len p xs) h in
    let past : length xs ≤ position_or_len p xs = grind (arith, nat_tests) in
    omega (arith, past, within p xs)

-- a name is followed by the first such byte, if by any
pub same_stop : (q : ℕ → Bool) (text : List ℕ) → IsApart q → (name_end text < length text → q (get_or text (name_end text) 0) ≡ true)
    → position_or_len q text ≡ name_end text
same_stop q text apart stop =
    position_or_len_is q text (name_end text) 0 (within (λ b. not (is_name_byte b)) text) (λ k h. apart _ (name_before text k 0 h)) stop

shown : (b c : Bool) → not b ≡ false → (b ≡ c) → c ≡ true
shown true c h e = sym e
shown false c h e = cc

first_is : (q : ℕ → Bool) (text : List ℕ) → position_or_len q text < length text → q (get_or text (position_or_len q text) 0) ≡ true
first_is q text h = shown _ _ (prefix_len_stops (λ b. not (q b)) text 0 h) refl

-- such a byte stands behind a byte of no name
later : (q : ℕ → Bool) (text : List ℕ) → IsApart q → name_end text < length text → q (get_or text (name_end text) 0) ≡ false → name_end text < position_or_len q text
later q text apart some other = elim (cases_lt (name_end text) (position_or_len q text)) [
  | inl h ↦ h
  | inr h ↦
      let here : q (get_or text (position_or_len q text) 0) ≡ true = first_is q text (omega (arith, h, some)) in
      elim (cases_lt (position_or_len q text) (name_end text)) [
        | inl k ↦
            let no : q (get_or text (position_or_len q text) 0) ≡ false = apart _ (name_before text (position_or_len q text) 0 k) in
            let never : true ≡ false = sym here ∙ no in
            absurd cc
        | inr k ↦
            let e : position_or_len q text ≡ name_end text = omega (arith, h, k) in
            let no : q (get_or text (position_or_len q text) 0) ≡ false = ap (λ n. q (get_or text n 0)) e ∙ other in
            let never : true ≡ false = sym here ∙ no in
            absurd cc
      ]
]

and_false : (a b : Bool) → b ≡ false → (a && b) ≡ false
and_false true b h = h
and_false false b h = refl

-- so what stands before it is no name
pub not_symbol : (q : ℕ → Bool) (text : List ℕ) → IsApart q → name_end text < length text → q (get_or text (name_end text) 0) ≡ false
    → is_symbol (take (position_or_len q text) text) ≡ false
not_symbol q text apart some other =
    let n = position_or_len q text in
    let inside : name_end text < n = later q text apart some other in
    let long : length (take n text) ≡ n = length-take-le n text (within q text) in
    let there : get_or (take n text) (name_end text) 0 ≡ get_or text (name_end text) 0 = get_or-take n text (name_end text) 0 inside in
    and_false _ _ (list_all_at is_name_byte (take n text) (name_end text) 0 (omega (arith, long, inside)) (ap is_name_byte there ∙ name_stops text some))

letter_in_name : (b : ℕ) → is_name_byte b ≡ false → begins_name b ≡ false
letter_in_name b h = grind (arith, nat_tests)

begins_front : (text : List ℕ) (n : ℕ) → n ≡ name_end text → begins_name (slice_index (take n text) 0) ≡ begins_name (slice_index text 0)
begins_front [] zero e = refl
begins_front (x ∷ xs) zero e =
    let some : name_end (x ∷ xs) < length (x ∷ xs) = omega (arith, e) in
    let other : is_name_byte (get_or (x ∷ xs) (name_end (x ∷ xs)) 0) ≡ false = name_stops (x ∷ xs) some in
    sym (letter_in_name x (ap (λ k. is_name_byte (get_or (x ∷ xs) k 0)) e ∙ other))
begins_front text (suc n) e = ap begins_name (get_or-take (suc n) text 0 0 (omega arith))

and_true : (a : Bool) → (a && true) ≡ a
and_true true = refl
and_true false = refl

joined : {m n : ℕ} {a b c : Bool} → m ≡ n → a ≡ b → c ≡ true → (nat_le m 64 && a && c) ≡ (nat_le n 64 && b)
joined {m = m} {n = n} {a = a} {b = b} {c = c} e f g = let same : (nat_le m 64 && a && c) ≡ (nat_le n 64 && b && true) = cc in same ∙ and_true (nat_le n 64 && b)

-- whether the bytes of names in front are a name
pub symbol_front : (text : List ℕ) (n : ℕ) → n ≡ name_end text → is_symbol (take n text) ≡ (nat_le n 64 && begins_name (slice_index text 0))
symbol_front text n e =
    let most : n ≤ length text = omega (arith, e, within (λ b. not (is_name_byte b)) text) in
    let long : length (take n text) ≡ n = length-take-le n text most in
    let all : list_all is_name_byte (take n text) ≡ true =
    list_all-from_AllPass is_name_byte (take n text) (λ k d h.
    let near : k < n = omega (arith, h, long) in
    ap is_name_byte (get_or-take n text k d near) ∙ name_before text k d (omega (arith, near, e))) in
    joined long (begins_front text n e) all

-- what a test has chosen
pub absent : {A B : Type 0} (b : Bool) (x : A) (y : B) → None ≡ cond b (Some x) None → None ≡ cond b (Some y) None
absent true x y h = cc
absent false x y h = refl

pub present : {A : Type 0} (b : Bool) (x z : A) → Some z ≡ cond b (Some x) None → (b ≡ true) × (z ≡ x)
present true x z h = (refl, cc)
present false x z h = cc

-- a text of name bytes alone has no label
pub no_label_alone : (text : List ℕ) (e : ℕ) → e ≡ name_end text → e ≡ length text → has_label text ≡ false
no_label_alone text e h k =
    let place : position_or_len (λ b. b == 58) text ≡ name_end text = same_stop (λ b. b == 58) text colons_apart (λ some. absurd (omega (arith, some, h, k))) in
    let none : has (λ b. b == 58) text ≡ false = grind (arith, nat_tests, place, h, k) in
    ap (λ t. t && is_symbol (front_to (λ b. b == 58) text)) none

-- nor has one whose first word another byte ends
pub no_label_other : (text : List ℕ) (e : ℕ) → e ≡ name_end text → e < length text → get_or text e 0 ≢ 58 → has_label text ≡ false
no_label_other text e h some other =
    let at : get_or text (name_end text) 0 ≡ get_or text e 0 = ap (λ n. get_or text n 0) (sym h) in
    and_false _ _ (not_symbol (λ b. b == 58) text colons_apart (omega (arith, some, h)) (grind (arith, nat_tests, at, other)))

-- where a colon ends it, it is the label if it is a name
pub label_ends : (text : List ℕ) (e : ℕ) → e ≡ name_end text → e < length text → get_or text e 0 ≡ 58 → position_or_len (λ b. b == 58) text ≡ e
label_ends text e h some colon =
    let at : get_or text (name_end text) 0 ≡ get_or text e 0 = ap (λ n. get_or text n 0) (sym h) in
    same_stop (λ b. b == 58) text colons_apart (λ _. grind (arith, nat_tests, at, colon)) ∙ sym h

pub label_if : (text : List ℕ) (e : ℕ) → e ≡ name_end text → e < length text → get_or text e 0 ≡ 58 → has_label text ≡ is_symbol (take e text)
label_if text e h some colon =
    let place = label_ends text e h some colon in
    let there : has (λ b. b == 58) text ≡ true = grind (arith, nat_tests, place, some) in
    ap (λ t. t && is_symbol (front_to (λ b. b == 58) text)) there ∙ ap (λ n. is_symbol (take n text)) place

-- a first word that a blank ends, or the text's end
pub word_ends : (text : List ℕ) (e : ℕ) → e ≡ name_end text → (e < length text → is_blank (get_or text e 0) ≡ true) → position_or_len is_blank text ≡ e
word_ends text e h stop =
    let at : get_or text (name_end text) 0 ≡ get_or text e 0 = ap (λ n. get_or text n 0) (sym h) in
    same_stop is_blank text blanks_apart (λ some. ap is_blank at ∙ stop (omega (arith, some, h))) ∙ sym h

-- a first word with a byte of no name
pub no_word : (text : List ℕ) (e : ℕ) → e ≡ name_end text → e < length text → is_blank (get_or text e 0) ≡ false → is_symbol (front_to is_blank text) ≡ false
no_word text e h some other =
    let at : get_or text (name_end text) 0 ≡ get_or text e 0 = ap (λ n. get_or text n 0) (sym h) in
    not_symbol is_blank text blanks_apart (omega (arith, some, h)) (ap is_blank at ∙ other)

pub statement_same : {a b x y : List ℕ} → a ≡ x → b ≡ y
    → Some (let s : StatementWords = record { mnemonic = a; operands = b } in s) ≡ Some (let s : StatementWords = record { mnemonic = x; operands = y } in s)
statement_same h k = cc
