-- The items of some bytes are their words and their single bytes.
use Rattle.std.proofs.Common.{◌≡◌, ◌≢◌, ℕ, ◌+◌, ◌-◌, ◌%◌, ◌<◌, ◌≤◌, ◌==◌, zero, suc, List, [], ◌∷◌, length, take, drop, slice_index, ◌⊎◌, ◌↔◌, inl, inr, refl, ap, sym, subst, ◌∙◌, arith}
use Rattle.std.specs.List.{Contains}
use Rattle.std.specs.Int.{w32, from_le_bytes}
use Rattle.std.proofs.lemmas.Bool.{cases_Bool, eqb-true}
use Rattle.std.proofs.lemmas.Bool.Decides.{nat_tests}
use Rattle.std.proofs.lemmas.List.{drop-drop, length-drop}
use Rattle.listing.specs.Listing.{word, byte, items}
use Rattle.listing.specs.Told.{IsWhole, HasWord, HasSingle}
use Rattle.listing.proofs.Firsts.{first_word, first_byte}

-- ---- lists

in_first : {X : Type 0} (x y : X) (xs : List X) → x ≡ y → Contains (x ∷ xs) y
in_first x y xs h = (0, omega arith, h)

in_rest : {X : Type 0} (x y : X) (xs : List X) → Contains xs y → Contains (x ∷ xs) y
in_rest x y xs h = (suc h.0, (let e = h.1 in omega (arith, e)), h.2)

first_or_rest : {X : Type 0} (x y : X) (xs : List X) → Contains (x ∷ xs) y → (x ≡ y) ⊎ Contains xs y
first_or_rest x y xs (zero, within, here) = inl here
first_or_rest x y xs (suc k, within, here) = inr (k, (omega (arith, within)), here)

in_none : {X : Type 0} (y : X) → Contains [] y → ⊥
in_none y h = let e = h.1 in omega (arith, e)

-- ---- addresses

pub two_parts : (at n place : ℕ) → at + n ≤ place → n + (place - (at + n)) ≡ place - at
two_parts at n place h = omega (arith, h)

rest_at : (at n place : ℕ) (bytes : List ℕ) → at + n ≤ place → drop (place - (at + n)) (drop n bytes) ≡ drop (place - at) bytes
rest_at at n place bytes h = drop-drop (place - (at + n)) n bytes ∙ ap (λ k. drop k bytes) (two_parts at n place h)

whole_later : (at n place : ℕ) (bytes : List ℕ) → n ≤ length bytes → at + n ≤ place → IsWhole at bytes place → IsWhole (at + n) (drop n bytes) place
whole_later at n place bytes short h w = record {
  from = h;
  within = let e = w.within in let l = length-drop n bytes in omega (arith, e, l, short);
}

whole_sooner : (at n place : ℕ) (bytes : List ℕ) → n ≤ length bytes → IsWhole (at + n) (drop n bytes) place → IsWhole at bytes place
whole_sooner at n place bytes short w = record {
  from = let e = w.from in omega (arith, e);
  within = let e = w.within in let l = length-drop n bytes in omega (arith, e, l, short);
}

word_later : (at n place value : ℕ) (bytes : List ℕ) → n ≤ length bytes → at + n ≤ place → HasWord at bytes place value → HasWord (at + n) (drop n bytes) place value
word_later at n place value bytes short h w = record {
  aligned = w.aligned;
  whole = whole_later at n place bytes short h w.whole;
  is = w.is ∙ ap (λ l. from_le_bytes w32 (take 4 l)) (sym (rest_at at n place bytes h));
}

word_sooner : (at n place value : ℕ) (bytes : List ℕ) → n ≤ length bytes → HasWord (at + n) (drop n bytes) place value → HasWord at bytes place value
word_sooner at n place value bytes short w = record {
  aligned = w.aligned;
  whole = whole_sooner at n place bytes short w.whole;
  is = w.is ∙ ap (λ l. from_le_bytes w32 (take 4 l)) (rest_at at n place bytes w.whole.from);
}

get_at : (k : ℕ) (bytes : List ℕ) → slice_index bytes k ≡ slice_index (drop k bytes) 0
get_at zero bytes = refl
get_at (suc k) [] = refl
get_at (suc k) (b ∷ bytes) = get_at k bytes

single_at : (at n place : ℕ) (bytes : List ℕ) → at + n ≤ place → slice_index (drop n bytes) (place - (at + n)) ≡ slice_index bytes (place - at)
single_at at n place bytes h =
    get_at (place - (at + n)) (drop n bytes) ∙ ap (λ l. slice_index l 0) (rest_at at n place bytes h) ∙ sym (get_at (place - at) bytes)

single_later : (at n place value : ℕ) (bytes : List ℕ) → n ≤ length bytes → at + n ≤ place → HasSingle at bytes place value → HasSingle (at + n) (drop n bytes) place value
single_later at n place value bytes short h s = record {
  from = h;
  within = let e = s.within in let l = length-drop n bytes in omega (arith, e, l, short);
  single = λ w. s.single (whole_sooner at n (place - place % 4) bytes short w);
  is = s.is ∙ sym (single_at at n place bytes h);
}

single_sooner : (at n place value : ℕ) (bytes : List ℕ) → n ≤ length bytes → (IsWhole at bytes (place - place % 4) → at + n ≤ place - place % 4)
    → HasSingle (at + n) (drop n bytes) place value → HasSingle at bytes place value
single_sooner at n place value bytes short h s = record {
  from = let e = s.from in omega (arith, e);
  within = let e = s.within in let l = length-drop n bytes in omega (arith, e, l, short);
  single = λ w. s.single (whole_later at n (place - place % 4) bytes short (h w) w);
  is = s.is ∙ single_at at n place bytes s.from;
}

-- ---- the items

-- what is said of the items of some bytes
record Told (at : ℕ) (bytes : List ℕ) : Type 0 where
  word_has : (place value : ℕ) → Contains (items at bytes) (word place value) → HasWord at bytes place value
  has_word : (place value : ℕ) → HasWord at bytes place value → Contains (items at bytes) (word place value)
  single_has : (place value : ℕ) → Contains (items at bytes) (byte place value) → HasSingle at bytes place value
  has_single : (place value : ℕ) → HasSingle at bytes place value → Contains (items at bytes) (byte place value)

told_none : (at : ℕ) → Told at []
unfolding items
told_none at = record {
  word_has = λ place value h. absurd (in_none (word place value) h);
  has_word = λ place value h. absurd (let f = h.whole.from in let w = h.whole.within in omega (arith, f, w));
  single_has = λ place value h. absurd (in_none (byte place value) h);
  has_single = λ place value h. absurd (let f = h.from in let w = h.within in omega (arith, f, w));
}

front_of_four : (bytes : List ℕ) → 4 ≤ length bytes
    → slice_index bytes 0 ∷ slice_index bytes 1 ∷ slice_index bytes 2 ∷ slice_index bytes 3 ∷ [] ≡ take 4 bytes
front_of_four [] h = absurd (omega (arith, h))
front_of_four (a ∷ []) h = absurd (omega (arith, h))
front_of_four (a ∷ b ∷ []) h = absurd (omega (arith, h))
front_of_four (a ∷ b ∷ c ∷ []) h = absurd (omega (arith, h))
front_of_four (a ∷ b ∷ c ∷ d ∷ more) h = refl

starts_word : (at : ℕ) (bytes : List ℕ) → at % 4 ≡ 0 → 4 ≤ length bytes → items at bytes ≡ word at (from_le_bytes w32 (take 4 bytes)) ∷ items (at + 4) (drop 4 bytes)
starts_word at bytes h k =
    first_word at bytes h k ∙ ap (λ l. word at (from_le_bytes w32 l) ∷ items (at + 4) (drop 4 bytes)) (front_of_four bytes k)

word_here : (at : ℕ) (bytes : List ℕ) → at % 4 ≡ 0 → 4 ≤ length bytes → HasWord at bytes at (from_le_bytes w32 (take 4 bytes))
word_here at bytes h k = record {
  aligned = h;
  whole = record { from = omega arith; within = omega (arith, k) };
  is = let e : at - at ≡ 0 = omega arith in ap (λ n. from_le_bytes w32 (take 4 (drop n bytes))) (sym e);
}

at_or_after : (a b : ℕ) → a ≤ b → (a ≡ b) ⊎ (a + 1 ≤ b)
at_or_after zero zero h = inl refl
at_or_after zero (suc b) h = inr (omega arith)
at_or_after (suc a) zero h = absurd (omega (arith, h))
at_or_after (suc a) (suc b) h = elim (at_or_after a b (omega (arith, h))) [
  | inl e ↦ inl (ap suc e)
  | inr l ↦ inr (omega (arith, l))
]

le_or_lt : (a b : ℕ) → (a ≤ b) ⊎ (b < a)
le_or_lt zero b = inl (omega arith)
le_or_lt (suc a) zero = inr (omega arith)
le_or_lt (suc a) (suc b) = elim (le_or_lt a b) [
  | inl l ↦ inl (omega (arith, l))
  | inr l ↦ inr (omega (arith, l))
]

moved_word : (at place v value : ℕ) (bytes : List ℕ) → word at v ≡ word place value → HasWord at bytes at v → HasWord at bytes place value
moved_word at place v value bytes e h =
    let p : at ≡ place = cc in
    let same : v ≡ value = cc in
    subst (λ q. HasWord at bytes q value) p (subst (λ x. HasWord at bytes at x) same h)

moved_single : (at place v value : ℕ) (bytes : List ℕ) → byte at v ≡ byte place value → HasSingle at bytes at v → HasSingle at bytes place value
moved_single at place v value bytes e h =
    let p : at ≡ place = cc in
    let same : v ≡ value = cc in
    subst (λ q. HasSingle at bytes q value) p (subst (λ x. HasSingle at bytes at x) same h)

word_isn't_byte : (at v place value : ℕ) → word at v ≡ byte place value → ⊥
word_isn't_byte at v place value e = absurd cc

byte_isn't_word : (at v place value : ℕ) → byte at v ≡ word place value → ⊥
byte_isn't_word at v place value e = absurd cc

word_told : (at place value : ℕ) (bytes : List ℕ) → HasWord at bytes place value → at ≡ place → word at (from_le_bytes w32 (take 4 bytes)) ≡ word place value
word_told at place value bytes w e =
    let none : place - at ≡ 0 = omega (arith, e) in
    let is : value ≡ from_le_bytes w32 (take 4 bytes) = w.is ∙ ap (λ n. from_le_bytes w32 (take 4 (drop n bytes))) none in
    cc

word_step : (at : ℕ) (bytes : List ℕ) → at % 4 ≡ 0 → 4 ≤ length bytes → Told (at + 4) (drop 4 bytes) → Told at bytes
word_step at bytes aligned long t =
    let starts = starts_word at bytes aligned long in
    record {
      word_has = λ place value h. elim (first_or_rest _ _ _ (subst (λ l. Contains l (word place value)) starts h)) [
        | inl e ↦ moved_word at place _ value bytes e (word_here at bytes aligned long)
        | inr r ↦ word_sooner at 4 place value bytes long (t.word_has place value r)
      ];
      has_word = λ place value w. subst (λ l. Contains l (word place value)) (sym starts) (elim (le_or_lt (at + 4) place) [
        | inl far ↦ in_rest _ _ _ (t.has_word place value (word_later at 4 place value bytes long far w))
        | inr near ↦ in_first _ _ _ (word_told at place value bytes w (let f = w.whole.from in let a = w.aligned in omega (arith, near, f, a, aligned)))
      ]);
      single_has = λ place value h. elim (first_or_rest _ _ _ (subst (λ l. Contains l (byte place value)) starts h)) [
        | inl e ↦ absurd (word_isn't_byte _ _ _ _ e)
        | inr r ↦ let s = t.single_has place value r in
            single_sooner at 4 place value bytes long (λ w. let f = s.from in omega (arith, f, aligned)) s
      ];
      has_single = λ place value s. subst (λ l. Contains l (byte place value)) (sym starts) (elim (le_or_lt (at + 4) place) [
        | inl far ↦ in_rest _ _ _ (t.has_single place value (single_later at 4 place value bytes long far s))
        | inr near ↦
            let f = s.from in
            absurd (s.single (record { from = omega (arith, near, f, aligned); within = omega (arith, near, f, aligned, long) }))
      ]);
    }

-- no word begins here
abbrev NoWord : ℕ → List ℕ → Type 0
NoWord at bytes = (at % 4 ≢ 0) ⊎ (length bytes < 4)

no_word : (at place : ℕ) (bytes : List ℕ) → NoWord at bytes → place % 4 ≡ 0 → IsWhole at bytes place → at + 1 ≤ place
no_word at place bytes c aligned w =
    let within = w.within in
    elim (at_or_after at place w.from) [
      | inr l ↦ l
      | inl e ↦ elim c [
        | inl h ↦ absurd (h (ap (λ n. n % 4) e ∙ aligned))
        | inr h ↦ absurd (omega (arith, h, within, e))
      ]
    ]

single_here : (at : ℕ) (bytes : List ℕ) → 0 < length bytes → NoWord at bytes → HasSingle at bytes at (slice_index bytes 0)
single_here at bytes some c = record {
  from = omega arith;
  within = omega (arith, some);
  single = λ w.
      let later = no_word at (at - at % 4) bytes c (omega arith) w in
      omega (arith, later);
  is = let e : at - at ≡ 0 = omega arith in ap (λ n. slice_index bytes n) (sym e);
}

single_told : (at place value : ℕ) (bytes : List ℕ) → HasSingle at bytes place value → at ≡ place → byte at (slice_index bytes 0) ≡ byte place value
single_told at place value bytes s e =
    let none : place - at ≡ 0 = omega (arith, e) in
    let is : value ≡ slice_index bytes 0 = s.is ∙ ap (λ n. slice_index bytes n) none in
    cc

byte_step : (at : ℕ) (bytes : List ℕ) → 0 < length bytes → NoWord at bytes → Told (at + 1) (drop 1 bytes) → Told at bytes
byte_step at bytes some c t =
    let starts = first_byte at bytes some c in
    record {
      word_has = λ place value h. elim (first_or_rest _ _ _ (subst (λ l. Contains l (word place value)) starts h)) [
        | inl e ↦ absurd (byte_isn't_word _ _ _ _ e)
        | inr r ↦ word_sooner at 1 place value bytes some (t.word_has place value r)
      ];
      has_word = λ place value w. subst (λ l. Contains l (word place value)) (sym starts)
          (in_rest _ _ _ (t.has_word place value (word_later at 1 place value bytes some (no_word at place bytes c w.aligned w.whole) w)));
      single_has = λ place value h. elim (first_or_rest _ _ _ (subst (λ l. Contains l (byte place value)) starts h)) [
        | inl e ↦ moved_single at place _ value bytes e (single_here at bytes some c)
        | inr r ↦ single_sooner at 1 place value bytes some (no_word at (place - place % 4) bytes c (omega arith)) (t.single_has place value r)
      ];
      has_single = λ place value s. subst (λ l. Contains l (byte place value)) (sym starts) (elim (at_or_after at place s.from) [
        | inl e ↦ in_first _ _ _ (single_told at place value bytes s e)
        | inr later ↦ in_rest _ _ _ (t.has_single place value (single_later at 1 place value bytes some later s))
      ]);
    }

told : (at : ℕ) (bytes : List ℕ) → Told at bytes
told at [] = told_none at
told at (a ∷ []) = byte_step at (a ∷ []) (omega arith) (inr (omega arith)) (told (at + 1) [])
told at (a ∷ b ∷ []) = byte_step at (a ∷ b ∷ []) (omega arith) (inr (omega arith)) (told (at + 1) (b ∷ []))
told at (a ∷ b ∷ c ∷ []) = byte_step at (a ∷ b ∷ c ∷ []) (omega arith) (inr (omega arith)) (told (at + 1) (b ∷ c ∷ []))
told at (a ∷ b ∷ c ∷ d ∷ more) = elim (cases_Bool (at % 4 == 0)) [
  | inl e ↦ word_step at (a ∷ b ∷ c ∷ d ∷ more) (eqb-true (at % 4) 0 e) (omega arith) (told (at + 4) more)
  | inr e ↦ byte_step at (a ∷ b ∷ c ∷ d ∷ more) (omega arith) (inl (λ z. grind (arith, nat_tests, e, z))) (told (at + 1) (b ∷ c ∷ d ∷ more))
]

pub words_told : (at : ℕ) (bytes : List ℕ) (place value : ℕ) → Contains (items at bytes) (word place value) ↔ HasWord at bytes place value
words_told at bytes place value = let t = told at bytes in (t.word_has place value, t.has_word place value)

pub singles_told : (at : ℕ) (bytes : List ℕ) (place value : ℕ) → Contains (items at bytes) (byte place value) ↔ HasSingle at bytes place value
singles_told at bytes place value = let t = told at bytes in (t.single_has place value, t.has_single place value)
