-- What is written is read again.
use Rattle.std.proofs.Common.{◌≡◌, ◌==◌, ℕ, zero, suc, ◌+◌, ◌-◌, ◌*◌, ◌/◌, ◌%◌, ◌^◌, ◌<◌, ◌≤◌, Bool, cond, true, false, ◌&&◌, List, [], ◌∷◌, ◌++◌, length, get_or, All, Option, Some, None, refl, ap, ◌∙◌, arith, inl, inr, lit<, nat_lt}
use Rattle.std.specs.Prelude.{codes, slice_index, nat_le}
use Rattle.std.specs.List.{list_all}
use Rattle.std.specs.Char.{is_digit}
use Rattle.std.specs.Fmt.{decimal}
use Rattle.std.specs.Int.{w16, w32, to_be_bytes}
use Rattle.std.specs.Str.Parse.{AllDigits, digits_value}
use Rattle.std.proofs.lemmas.Str.Parse.{digit_from_value}
use Rattle.std.proofs.lemmas.Fmt.{decimal_is_IsNumeral, length-decimal-le, decimal_digit, first_decimal}
use Rattle.std.proofs.lemmas.Bool.{lt-ltb, eq-eqb, ne_eqb, and_parts, eqb-true, cases_lt, cond-true}
use Rattle.std.proofs.lemmas.Bool.Decides.{nat_tests}
use Rattle.std.proofs.lemmas.List.Elements.{All-nil, All-cons}
use Rattle.std.proofs.lemmas.List.Splits.{slice_split_at}
use Rattle.hex.specs.Hex.{IsBytes, encode_lower, encode_with, lower_digits}
use Rattle.sequencing.specs.Options.{◌>>=◌}
use Rattle.history.specs.declared.events.Width.{Width}
use Rattle.history.specs.declared.events.Width.TheVariants.{Byte, Half, Word}
use Rattle.history.specs.declared.events.Discipline.{Discipline}
use Rattle.history.specs.declared.events.Discipline.TheVariants as discipline
use Rattle.history.specs.declared.events.Act.{Act}
use Rattle.history.specs.declared.events.Act.TheVariants.{Fetch, Load, Store, Start, Copy, End, Tick, Release}
use Rattle.history.specs.declared.events.Entry.{Entry}
use Rattle.history.specs.Layout.{width_bytes}
use Rattle.history.specs.Names.{code_of}
use Rattle.text_readers.specs.Digits.{word_digits}
use Rattle.text_readers.specs.Numbers.{plain_decimal, digits_number, decimal_of}
use Rattle.trace.specs.Text.{width_digit, width_digits, access_text, act_text, entry_text}
use Rattle.trace.specs.Printable.{ActIsPrintable, IsPrintable}
use Rattle.trace.specs.Reading.{text_behind, low_digit, digits_at, decimal_at, access_at, sized_at, fetch_at, load_at, store_at, coded_discipline, start_at, copy_at, short_act_at, act_at, entry_at}
use Rattle.trace.proofs.Fronts.{number_found}
use Rattle.trace.proofs.Unique.{regroup, number_bytes, one_byte, code_small}

-- a test that each number below one passes, and the test of one
abbrev pub all_pass : (ℕ → Bool) → ℕ → Bool
all_pass p zero = true
all_pass p (suc n) = p n && all_pass p n

pub pass_at : (p : ℕ → Bool) (n k : ℕ) → all_pass p n ≡ true → k < n → p k ≡ true
pass_at p zero k h lt = absurd (omega (arith, lt))
pass_at p (suc n) k h lt =
    let parts = and_parts (p n) (all_pass p n) h in
    elim (cases_lt k n) [
      | inl below ↦ pass_at p n k parts.1 below
      | inr top ↦ let e : k ≡ n = omega (arith, lt, top) in rw e parts.0
    ]

-- the digit at each place of the table
pub low_of_table : (d : ℕ) → d < 16 → low_digit (slice_index lower_digits d) ≡ d
low_of_table d small = eqb-true (low_digit (slice_index lower_digits d)) d (pass_at (λ d. low_digit (slice_index lower_digits d) == d) 16 d refl small)

two_digits : (k acc h l dh dl : ℕ) (text : List ℕ) → low_digit h ≡ dh → dh < 16 → low_digit l ≡ dl → dl < 16 → digits_at (suc (suc k)) acc (h ∷ l ∷ text) ≡ digits_at k ((acc * 16 + dh) * 16 + dl) text
two_digits k acc h l dh dl text hs hb ls lb =
    let high : low_digit h < 16 = omega (arith, hs, hb) in
    let low : low_digit l < 16 = omega (arith, ls, lb) in
    cond-true (nat_lt (low_digit h) 16) (digits_at (suc k) (acc * 16 + low_digit h) (l ∷ text)) None (lt-ltb _ _ high)
    ∙ cond-true (nat_lt (low_digit l) 16) (digits_at k ((acc * 16 + low_digit h) * 16 + low_digit l) text) None (lt-ltb _ _ low)
    ∙ ap (λ d. digits_at k ((acc * 16 + d) * 16 + low_digit l) text) hs ∙ ap (λ d. digits_at k ((acc * 16 + dh) * 16 + d) text) ls

-- the number that a value and bytes behind it are
abbrev pub value_after : ℕ → List ℕ → ℕ
value_after acc [] = acc
value_after acc (b ∷ bs) = value_after (acc * 256 + b) bs

digits_again : (bs : List ℕ) (acc : ℕ) (rest : List ℕ) → IsBytes bs → digits_at (2 * length bs) acc (encode_lower bs ++ rest) ≡ Some (value_after acc bs, rest)
unfolding encode_with
digits_again [] acc rest bytes = refl
digits_again (b ∷ bs) acc rest bytes =
    let small : b < 256 = bytes 0 in
    let high : b / 16 < 16 = omega (arith, small) in
    let low : b % 16 < 16 = omega arith in
    let count : 2 * suc (length bs) ≡ suc (suc (2 * length bs)) = omega arith in
    let whole : (acc * 16 + b / 16) * 16 + b % 16 ≡ acc * 256 + b = omega arith in
    let text = encode_lower bs ++ rest in
    ap (λ n. digits_at n acc (slice_index lower_digits (b / 16) ∷ slice_index lower_digits (b % 16) ∷ text)) count
    ∙ two_digits (2 * length bs) acc (slice_index lower_digits (b / 16)) (slice_index lower_digits (b % 16)) (b / 16) (b % 16) text (low_of_table (b / 16) high) high (low_of_table (b % 16) low) low
    ∙ ap (λ v. digits_at (2 * length bs) v text) whole ∙ digits_again bs (acc * 256 + b) rest (λ i. bytes (suc i))

pub word_again : (v : ℕ) (rest : List ℕ) → v < 2 ^ 32 → digits_at 8 0 (word_digits v ++ rest) ≡ Some (v, rest)
word_again v rest small =
    let is : value_after 0 (to_be_bytes w32 v) ≡ v = omega (arith, small) in
    digits_again (to_be_bytes w32 v) 0 rest (number_bytes 4 v) ∙ ap (λ n. Some (n, rest)) is

pub value_again : (width : Width) (v : ℕ) (rest : List ℕ) → v < 256 ^ width_bytes width → digits_at (2 * width_bytes width) 0 (width_digits width v ++ rest) ≡ Some (v, rest)
value_again Byte v rest small =
    let is : value_after 0 (v ∷ []) ≡ v = omega arith in
    digits_again (v ∷ []) 0 rest (one_byte v small) ∙ ap (λ n. Some (n, rest)) is
value_again Half v rest small =
    let is : value_after 0 (to_be_bytes w16 v) ≡ v = omega (arith, small) in
    digits_again (to_be_bytes w16 v) 0 rest (number_bytes 2 v) ∙ ap (λ n. Some (n, rest)) is
value_again Word v rest small = word_again v rest small

-- what access_at does behind the first space
abbrev access_rest : Width → Option (ℕ × List ℕ) → Option (ℕ × ℕ × List ℕ)
access_rest width read = do
  addr ← read
  digits ← text_behind (codes " ") addr.1
  value ← digits_at (2 * width_bytes width) 0 digits
  rest ← text_behind (codes "\n") value.1
  Some (addr.0, value.0, rest)

pub access_again : (a : ℕ) (width : Width) (v : ℕ) (rest : List ℕ) → a < 2 ^ 32 → v < 256 ^ width_bytes width → access_at width (access_text a width v ++ 10 ∷ rest) ≡ Some (a, v, rest)
unfolding access_at
access_again a width v rest pa pv =
    let behind = width_digits width v ++ 10 ∷ rest in
    ap (λ t. access_rest width (digits_at 8 0 t)) (regroup 32 (word_digits a) (width_digits width v) (10 ∷ rest))
    ∙ ap (access_rest width) (word_again a (32 ∷ behind) pa)
    ∙ ap (λ (o : Option (ℕ × List ℕ)). o >>= λ value. text_behind (codes "\n") value.1 >>= λ r. Some (a, value.0, r)) (value_again width v (10 ∷ rest) pv)

-- a decimal number is read again
is_digits : (ds : List ℕ) → AllDigits 10 ds → list_all (λ c. is_digit c 10) ds ≡ true
is_digits [] all = refl
is_digits (c ∷ ds) all = both (lt-ltb _ _ all.0) (is_digits ds all.1)
  where
    both : {a b : Bool} → a ≡ true → b ≡ true → (a && b) ≡ true
    both {a = true} {b = true} h g = refl
    both {a = true} {b = false} h g = cc
    both {a = false} {b = b} h g = cc

chosen : (all small : Bool) (v : ℕ) → all ≡ true → small ≡ true → cond (all && small) (Some v) None ≡ Some v
chosen true true v h g = refl
chosen true false v h g = cc
chosen false small v h g = cc

and_none : (a : Bool) → (a && false) ≡ false
and_none true = refl
and_none false = refl

digits_number-decimal : (n : ℕ) → n < 2 ^ 64 → digits_number 10 (decimal n) ≡ Some n
unfolding digits_number
digits_number-decimal n small =
    let numeral = decimal_is_IsNumeral n small in
    let fits : digits_value 10 (decimal n) < 2 ^ 64 = rw numeral.1 small in
    chosen _ _ _ (is_digits (decimal n) numeral.0.1) (lt-ltb _ _ fits) ∙ ap (λ v. Some v) numeral.1

decimal_of-decimal : (n : ℕ) → n < 2 ^ 64 → decimal_of (decimal n) ≡ Some n
decimal_of-decimal n small =
    let numeral = decimal_is_IsNumeral n small in
    let some : 0 < length (decimal n) = numeral.0.0 in
    let most : length (decimal n) ≤ 20 = length-decimal-le 20 n (lit< tt) (omega (arith, small)) small in
    let number = digits_number-decimal n small in
    grind (arith, nat_tests, some, most, number)

plain_decimal-decimal : (n : ℕ) → n < 2 ^ 64 → plain_decimal (decimal n) ≡ Some n
unfolding plain_decimal
plain_decimal-decimal zero small = rw (decimal_digit 0 (lit< tt)) (let e = decimal_of-decimal 0 (lit< tt) in rw (decimal_digit 0 (lit< tt)) at e)
plain_decimal-decimal (suc n) small =
    let first = first_decimal (suc n) (omega arith) small in
    let number = decimal_of-decimal (suc n) small in
    let other : (get_or (decimal (suc n)) 0 0 == 48) ≡ false = grind (arith, nat_tests, first) in
    rw (other, and_none (nat_lt 1 (length (decimal (suc n))))) number

no_end : (end : ℕ) → end < 48 → (ds : List ℕ) → AllDigits 10 ds → All (λ c. (c == end) ≡ false) ds
no_end end low [] all = All-nil (λ c. (c == end) ≡ false)
no_end end low (c ∷ ds) all =
    let range = digit_from_value c all.0 in
    All-cons (λ c. (c == end) ≡ false) c ds (ne_eqb c end (λ same. omega (arith, same, range.0, low))) (no_end end low ds all.1)

pub number_again : (end n : ℕ) (rest : List ℕ) → end < 48 → n < 2 ^ 64 → decimal_at end (decimal n ++ end ∷ rest) ≡ Some (n, rest)
number_again end n rest low small =
    let cut = slice_split_at (λ b. b == end) (decimal n) end rest (no_end end low (decimal n) (decimal_is_IsNumeral n small).0.1) (eq-eqb end end refl) in
    number_found end n (decimal n ++ end ∷ rest) (decimal n) rest cut (plain_decimal-decimal n small)

pub coded_again : (form : Discipline) → coded_discipline (code_of form) ≡ Some form
coded_again discipline.All = refl
coded_again discipline.AllExt = refl
coded_again discipline.Dec = refl
coded_again discipline.Inc = refl
coded_again discipline.IncExt = refl

sized_again : (a : ℕ) (width : Width) (v : ℕ) (rest : List ℕ) → a < 2 ^ 32 → v < 256 ^ width_bytes width → sized_at ((width_digit width ++ access_text a width v) ++ 10 ∷ rest) ≡ Some (width, a, v, rest)
unfolding sized_at
sized_again a Byte v rest pa pv = ap (λ (o : Option (ℕ × ℕ × List ℕ)). o >>= λ x. Some (Byte, x.0, x.1, x.2)) (access_again a Byte v rest pa pv)
sized_again a Half v rest pa pv = ap (λ (o : Option (ℕ × ℕ × List ℕ)). o >>= λ x. Some (Half, x.0, x.1, x.2)) (access_again a Half v rest pa pv)
sized_again a Word v rest pa pv = ap (λ (o : Option (ℕ × ℕ × List ℕ)). o >>= λ x. Some (Word, x.0, x.1, x.2)) (access_again a Word v rest pa pv)

pub act_again : (act : Act) (rest : List ℕ) → ActIsPrintable act → act_at (act_text act ++ 10 ∷ rest) ≡ Some (act, rest)
unfolding act_at fetch_at load_at store_at start_at copy_at short_act_at act_text
act_again (Fetch a v) rest p = ap (λ (o : Option (ℕ × ℕ × List ℕ)). o >>= λ x. Some (Fetch x.0 x.1, x.2)) (access_again a Word v rest p.0 p.1)
act_again (Load a width v) rest p = ap (λ (o : Option (Width × ℕ × ℕ × List ℕ)). o >>= λ x. Some (Load x.1 x.0 x.2, x.3)) (sized_again a width v rest p.0 p.1)
act_again (Store a Byte v) rest p = ap (λ (o : Option (Width × ℕ × ℕ × List ℕ)). o >>= λ x. Some (Store x.1 x.0 x.2, x.3)) (sized_again a Byte v rest p.0 p.1)
act_again (Store a Half v) rest p = ap (λ (o : Option (Width × ℕ × ℕ × List ℕ)). o >>= λ x. Some (Store x.1 x.0 x.2, x.3)) (sized_again a Half v rest p.0 p.1)
act_again (Store a Word v) rest p = ap (λ (o : Option (Width × ℕ × ℕ × List ℕ)). o >>= λ x. Some (Store x.1 x.0 x.2, x.3)) (sized_again a Word v rest p.0 p.1)
act_again (Start form n) rest p =
    let behind = decimal n ++ 10 ∷ rest in
    ap start_at (regroup 32 (decimal (code_of form)) (decimal n) (10 ∷ rest))
    ∙ ap (λ (o : Option (ℕ × List ℕ)). o >>= λ code. coded_discipline code.0 >>= λ f. decimal_at 10 code.1 >>= λ m. Some (Start f m.0, m.1)) (number_again 32 (code_of form) behind (omega arith) (code_small form))
    ∙ ap (λ (o : Option Discipline). o >>= λ f. decimal_at 10 behind >>= λ m. Some (Start f m.0, m.1)) (coded_again form)
    ∙ ap (λ (o : Option (ℕ × List ℕ)). o >>= λ m. Some (Start form m.0, m.1)) (number_again 10 n rest (omega arith) p)
act_again (Copy block) rest p =
    ap (λ (o : Option (ℕ × List ℕ)). o >>= λ b. cond (nat_lt b.0 4096) (Some (Copy b.0, b.1)) None) (number_again 10 block rest (omega arith) (omega (arith, p)))
    ∙ cond-true (nat_lt block 4096) (Some (Copy block, rest)) None (lt-ltb _ _ p)
act_again End rest p = refl
act_again Tick rest p = refl
act_again Release rest p = refl

pub entry_again : (e : Entry) (rest : List ℕ) → IsPrintable e → entry_at (entry_text e ++ 10 ∷ rest) ≡ Some (e, rest)
unfolding entry_at entry_text
entry_again e rest p =
    let actor = e.actor in
    let low : actor ≤ 8 = p.actor in
    let digit = decimal_digit actor (omega (arith, low)) in
    let back : 48 + actor - 48 ≡ actor = omega arith in
    let first : (nat_le 48 (48 + actor) && nat_le (48 + actor) 56) ≡ true = grind (arith, nat_tests, low) in
    ap (λ ds. entry_at ((ds ++ act_text e.act) ++ 10 ∷ rest)) digit
    ∙ cond-true (nat_le 48 (48 + actor) && nat_le (48 + actor) 56) (act_at (act_text e.act ++ 10 ∷ rest) >>= λ a. Some ((let g : Entry = record { actor = 48 + actor - 48; act = a.0 } in g), a.1)) None first
    ∙ ap (λ (o : Option (Act × List ℕ)). o >>= λ a. Some ((let g : Entry = record { actor = 48 + actor - 48; act = a.0 } in g), a.1)) (act_again e.act rest p.act)
    ∙ ap (λ (n : ℕ). Some ((let g : Entry = record { actor = n; act = e.act } in g), rest)) back
