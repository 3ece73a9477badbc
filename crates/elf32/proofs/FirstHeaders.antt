-- The first program headers, one after the other.
use Rattle.std.proofs.Common.{◌≡◌, ℕ, zero, suc, ◌+◌, ◌<◌, ◌≤◌, Bool, true, false, ◌||◌, cond, List, [], ◌∷◌, ◌++◌, length, Some, refl, sym, ap, ◌∙◌, add-one, arith, ◌⊎◌, inl, inr, length-append, map}
use Rattle.std.specs.Prelude.{filter, slice_get}
use Rattle.std.specs.List.{list_any}
use Rattle.std.proofs.lemmas.List.Folds.{list_any-append}
use Rattle.std.proofs.lemmas.List.Elements.{filter-append}
use Rattle.std.proofs.lemmas.List.{append-nil}
use Rattle.std.proofs.lemmas.Bool.{cases_lt}
use Rattle.elf32.specs.declared.headers.ProgramHeader.{ProgramHeader}
use Rattle.elf32.specs.Files.{header, first_headers}

pub none_yet : (bytes : List ℕ) → first_headers bytes 0 ≡ []
unfolding first_headers
none_yet bytes = refl

pub one_more : (bytes : List ℕ) (n : ℕ) → first_headers bytes (n + 1) ≡ first_headers bytes n ++ header bytes n ∷ []
unfolding first_headers
one_more bytes n = ap (first_headers bytes) (add-one n)

pub any_of_none : (p : ProgramHeader → Bool) (bytes : List ℕ) → list_any p (first_headers bytes 0) ≡ false
any_of_none p bytes = ap (list_any p) (none_yet bytes)

or_false : (a b : Bool) → a ≡ false → b ≡ false → (a || b) ≡ false
or_false true b h k = absurd cc
or_false false b h k = k

or_left : (a b : Bool) → a ≡ true → (a || b) ≡ true
or_left true b h = refl
or_left false b h = absurd cc

or_right : (a b : Bool) → b ≡ true → (a || b) ≡ true
or_right true b h = refl
or_right false b h = h

bool_cases : (b : Bool) → (b ≡ true) ⊎ (b ≡ false)
bool_cases true = inl refl
bool_cases false = inr refl

true_not_false : (b : Bool) → b ≡ true → b ≡ false → ⊥
true_not_false true h k = cc
true_not_false false h k = cc

some_same : {X Y : Type 0} (f : X → Y) (y x : X) → Some y ≡ Some x → Some (f y) ≡ Some (f x)
some_same f y x e = cc

-- none of the first n + 1 headers passes
pub any_more : (p : ProgramHeader → Bool) (bytes : List ℕ) (n : ℕ) → list_any p (first_headers bytes n) ≡ false → p (header bytes n) ≡ false → list_any p (first_headers bytes (n + 1)) ≡ false
any_more p bytes n before here =
    ap (list_any p) (one_more bytes n)
    ∙ list_any-append p (first_headers bytes n) (header bytes n ∷ [])
    ∙ or_false _ _ before (or_false (p (header bytes n)) false here refl)

-- a header below n passes
pub any_hit : (p : ProgramHeader → Bool) (bytes : List ℕ) (k n : ℕ) → k < n → p (header bytes k) ≡ true → list_any p (first_headers bytes n) ≡ true
any_hit p bytes k zero lt hit = absurd (omega arith)
any_hit p bytes k (suc n) lt hit =
    let parts : list_any p (first_headers bytes (suc n)) ≡ (list_any p (first_headers bytes n) || (p (header bytes n) || false)) =
    ap (λ (m : ℕ). list_any p (first_headers bytes m)) (sym (add-one n)) ∙ ap (list_any p) (one_more bytes n) ∙ list_any-append p (first_headers bytes n) (header bytes n ∷ []) in
    let choice = cases_lt k n in
    let last : n ≤ k → n ≡ k = λ above. omega arith in
    parts ∙ elim choice [
      | inl below ↦ or_left _ _ (any_hit p bytes k n below hit)
      | inr above ↦ or_right _ _ (or_left _ _ (ap (λ (m : ℕ). p (header bytes m)) (last above) ∙ hit))
    ]

-- where none of the first n headers passes, one below n doesn't
pub none_at : (p : ProgramHeader → Bool) (bytes : List ℕ) (k n : ℕ) → k < n → list_any p (first_headers bytes n) ≡ false → p (header bytes k) ≡ false
none_at p bytes k n lt none =
    elim (bool_cases (p (header bytes k))) [
      | inl passes ↦ let hit : list_any p (first_headers bytes n) ≡ true = any_hit p bytes k n lt passes in absurd (true_not_false _ hit none)
      | inr fails ↦ fails
    ]

-- how many of the first n headers pass
abbrev pub passing : (ProgramHeader → Bool) → List ℕ → ℕ → ℕ
passing p bytes n = length (filter p (first_headers bytes n))

pub kept_none : (p : ProgramHeader → Bool) (bytes : List ℕ) → filter p (first_headers bytes 0) ≡ []
kept_none p bytes = ap (filter p) (none_yet bytes)

one_kept : (p : ProgramHeader → Bool) (h : ProgramHeader) → p h ≡ true → filter p (h ∷ []) ≡ h ∷ []
one_kept p h passes = ap (λ (b : Bool). cond b (h ∷ []) []) passes

one_dropped : (p : ProgramHeader → Bool) (h : ProgramHeader) → p h ≡ false → filter p (h ∷ []) ≡ []
one_dropped p h fails = ap (λ (b : Bool). cond b (h ∷ []) []) fails

parts : (p : ProgramHeader → Bool) (bytes : List ℕ) (n : ℕ) → filter p (first_headers bytes (n + 1)) ≡ filter p (first_headers bytes n) ++ filter p (header bytes n ∷ [])
parts p bytes n = ap (filter p) (one_more bytes n) ∙ filter-append p (first_headers bytes n) (header bytes n ∷ [])

kept_yes : (p : ProgramHeader → Bool) (bytes : List ℕ) (n : ℕ) → p (header bytes n) ≡ true → filter p (first_headers bytes (n + 1)) ≡ filter p (first_headers bytes n) ++ header bytes n ∷ []
kept_yes p bytes n passes = parts p bytes n ∙ ap (λ (t : List ProgramHeader). filter p (first_headers bytes n) ++ t) (one_kept p (header bytes n) passes)

pub kept_no : (p : ProgramHeader → Bool) (bytes : List ℕ) (n : ℕ) → p (header bytes n) ≡ false → filter p (first_headers bytes (n + 1)) ≡ filter p (first_headers bytes n)
kept_no p bytes n fails = parts p bytes n ∙ ap (λ (t : List ProgramHeader). filter p (first_headers bytes n) ++ t) (one_dropped p (header bytes n) fails) ∙ append-nil (filter p (first_headers bytes n))

pub passing_yes : (p : ProgramHeader → Bool) (bytes : List ℕ) (n : ℕ) → p (header bytes n) ≡ true → passing p bytes (n + 1) ≡ passing p bytes n + 1
passing_yes p bytes n passes = ap length (kept_yes p bytes n passes) ∙ length-append (filter p (first_headers bytes n)) (header bytes n ∷ [])

pub passing_few : (p : ProgramHeader → Bool) (bytes : List ℕ) (n : ℕ) → passing p bytes n ≤ n
passing_few p bytes zero = omega (arith, ap length (kept_none p bytes))
passing_few p bytes (suc n) =
    let test : Bool = p (header bytes n) in
    let before : passing p bytes n ≤ n = passing_few p bytes n in
    let next : passing p bytes (n + 1) ≡ passing p bytes (suc n) = ap (passing p bytes) (add-one n) in
    elim (bool_cases test) [
      | inl passes ↦ omega (arith, passing_yes p bytes n passes)
      | inr fails ↦ omega (arith, ap length (kept_no p bytes n fails))
    ]

-- an element of a list is the same in a longer one, and in the list of images its image
slice_get_front : {X : Type 0} (xs ys : List X) (k : ℕ) (x : X) → slice_get xs k ≡ Some x → slice_get (xs ++ ys) k ≡ Some x
slice_get_front [] ys k x e = absurd cc
slice_get_front (y ∷ xs) ys zero x e = e
slice_get_front (y ∷ xs) ys (suc k) x e = slice_get_front xs ys k x e

slice_get_last : {X : Type 0} (xs : List X) (x : X) → slice_get (xs ++ x ∷ []) (length xs) ≡ Some x
slice_get_last [] x = refl
slice_get_last (y ∷ xs) x = slice_get_last xs x

pub slice_get_map : {X Y : Type 0} (f : X → Y) (xs : List X) (k : ℕ) (x : X) → slice_get xs k ≡ Some x → slice_get (map f xs) k ≡ Some (f x)
slice_get_map f [] k x e = absurd cc
slice_get_map f (y ∷ xs) zero x e = some_same f y x e
slice_get_map f (y ∷ xs) (suc k) x e = slice_get_map f xs k x e

-- the header that passes is found at the number of those before it
pub kept_at : (p : ProgramHeader → Bool) (bytes : List ℕ) (k n : ℕ) → k < n → p (header bytes k) ≡ true → slice_get (filter p (first_headers bytes n)) (passing p bytes k) ≡ Some (header bytes k)
kept_at p bytes k zero lt passes = absurd (omega arith)
kept_at p bytes k (suc n) lt passes =
    let choice = cases_lt k n in
    ap (λ (m : ℕ). slice_get (filter p (first_headers bytes m)) (passing p bytes k)) (sym (add-one n))
    ∙ elim choice [
      | inl below ↦
          ap (λ (t : List ProgramHeader). slice_get t (passing p bytes k)) (parts p bytes n)
          ∙ slice_get_front (filter p (first_headers bytes n)) (filter p (header bytes n ∷ [])) (passing p bytes k) (header bytes k) (kept_at p bytes k n below passes)
      | inr above ↦
          let is : k ≡ n = omega arith in
          ap (λ (m : ℕ). slice_get (filter p (first_headers bytes (n + 1))) (passing p bytes m)) is
          ∙ ap (λ (t : List ProgramHeader). slice_get t (passing p bytes n)) (kept_yes p bytes n (ap (λ (m : ℕ). p (header bytes m)) (sym is) ∙ passes))
          ∙ slice_get_last (filter p (first_headers bytes n)) (header bytes n)
          ∙ ap (λ (m : ℕ). Some (header bytes m)) (sym is)
    ]
