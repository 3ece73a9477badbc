-- Buffers of one length, joined in order.
use Rattle.std.proofs.Common.{◌≡◌, ℕ, zero, suc, ◌+◌, ◌-◌, ◌*◌, ◌/◌, ◌%◌, ◌<◌, ◌≤◌, ◌≢◌, Bool, true, false, nat_eq, ◌&&◌, nat_le, nat_lt, if◌then◌else◌, List, [], ◌∷◌, ◌++◌, length, take, drop, get_or, slice_index, All, refl, sym, ap, subst, ◌∙◌, arith, length-append, append-nil}
use Rattle.std.specs.List.{flat_map}
use Rattle.std.proofs.lemmas.List.{get_or-set_same, get_or-set_other, get_or-take, get_or-drop}
use Rattle.std.proofs.lemmas.List.Elements.{All-head, All-tail, All-set}
use Rattle.std.proofs.lemmas.Bool.Decides.{nat_tests}
use Rattle.std.proofs.Math.ListN.{set, length-set}
use Rattle.std.proofs.lemmas.List.Concat.{flat_map-append}
use Rattle.std.proofs.Math.Seq.{drop-append-add, take-append_seam, take-add}
use Rattle.std.proofs.lemmas.Nat.{div_below}
use Rattle.std.proofs.Math.Nat.{mul-le-mul_left, div-add-mod, mod-lt}

-- each buffer has so many bytes
abbrev pub Sized : {X : Type 0} → (X → List ℕ) → ℕ → List X → Type 0
Sized f size xs = All (λ x. length (f x) ≡ size) xs

pub joined_length : {X : Type 0} (f : X → List ℕ) (size : ℕ) (xs : List X) → Sized f size xs → length (flat_map f xs) ≡ size * length xs
joined_length f size [] sized = omega arith
joined_length f size (x ∷ xs) sized =
    let head : length (f x) ≡ size = All-head (λ y. length (f y) ≡ size) x xs sized in
    let rest : length (flat_map f xs) ≡ size * length xs = joined_length f size xs (All-tail (λ y. length (f y) ≡ size) x xs sized) in
    length-append (f x) (flat_map f xs) ∙ omega (arith, head, rest)

-- one buffer is one piece of what all are together
pub joined_piece : {X : Type 0} (f : X → List ℕ) (size : ℕ) (xs : List X) (b : ℕ) (e : X) → Sized f size xs → b < length xs → take size (drop (size * b) (flat_map f xs)) ≡ f (get_or xs b e)
joined_piece f size [] b e sized below = absurd (omega arith)
joined_piece f size (x ∷ xs) zero e sized below =
    let head : length (f x) ≡ size = All-head (λ y. length (f y) ≡ size) x xs sized in
    let none : size * 0 ≡ 0 = omega arith in
    ap (λ n. take size (drop n (f x ++ flat_map f xs))) none ∙ ap (λ n. take n (f x ++ flat_map f xs)) (sym head) ∙ take-append_seam (f x) (flat_map f xs)
joined_piece f size (x ∷ xs) (suc b) e sized below =
    let head : length (f x) ≡ size = All-head (λ y. length (f y) ≡ size) x xs sized in
    let more : size * suc b ≡ length (f x) + size * b = omega arith in
    let rest = joined_piece f size xs b e (All-tail (λ y. length (f y) ≡ size) x xs sized) (omega arith) in
    ap (λ n. take size (drop n (f x ++ flat_map f xs))) more ∙ ap (λ bytes. take size bytes) (drop-append-add (f x) (flat_map f xs) (size * b)) ∙ rest

-- a byte of one buffer, among the bytes of all
pub joined_byte : {X : Type 0} (f : X → List ℕ) (size : ℕ) (xs : List X) (b j : ℕ) (e : X) → Sized f size xs → b < length xs → j < size → slice_index (flat_map f xs) (size * b + j) ≡ slice_index (f (get_or xs b e)) j
joined_byte f size xs b j e sized below inside =
    let piece = ap (λ bytes. get_or bytes j 0) (joined_piece f size xs b e sized below) in
    sym (get_or-drop (size * b) (flat_map f xs) j 0) ∙ sym (get_or-take size (drop (size * b) (flat_map f xs)) j 0 inside) ∙ piece

-- another buffer at one place changes no byte of the others
other_buffer : {X : Type 0} (f : X → List ℕ) (size : ℕ) (xs : List X) (b q r : ℕ) (v : X) → Sized f size xs → length (f v) ≡ size → q < length xs → r < size → q ≢ b → slice_index (flat_map f (set xs b v)) (size * q + r) ≡ slice_index (flat_map f xs) (size * q + r)
other_buffer {X} f size xs b q r v sized whole below inside other =
    let kept : Sized f size (set xs b v) = All-set (λ (x : X). length (f x) ≡ size) xs b v whole sized in
    let count : q < length (set xs b v) = omega (arith, length-set xs b v) in
    joined_byte f size (set xs b v) q r v kept count inside
    ∙ ap (λ (x : X). slice_index (f x) r) (get_or-set_other xs b q v v other)
    ∙ sym (joined_byte f size xs q r v sized below inside)

-- the buffer at this place
this_buffer : {X : Type 0} (f : X → List ℕ) (size : ℕ) (xs : List X) (b r : ℕ) (v : X) → Sized f size xs → length (f v) ≡ size → b < length xs → r < size → slice_index (flat_map f (set xs b v)) (size * b + r) ≡ slice_index (f v) r
this_buffer {X} f size xs b r v sized whole below inside =
    let kept : Sized f size (set xs b v) = All-set (λ (x : X). length (f x) ≡ size) xs b v whole sized in
    let count : b < length (set xs b v) = omega (arith, length-set xs b v) in
    joined_byte f size (set xs b v) b r v kept count inside
    ∙ ap (λ (x : X). slice_index (f x) r) (get_or-set_same xs b v v below)

-- the bytes of one buffer that are put there, as places among the bytes of all
within_here : (start at count r : ℕ) → (nat_le (start + at) (start + r) && nat_lt (start + r) (start + at + count)) ≡ (nat_le at r && nat_lt r (at + count))
within_here start at count r = grind (arith, nat_tests)

below_there : (here there count place : ℕ) → place < here → (nat_le here place && nat_lt place (here + count)) ≡ false
below_there here there count place below = grind (arith, nat_tests)

above_there : (here count place : ℕ) → here + count ≤ place → (nat_le here place && nat_lt place (here + count)) ≡ false
above_there here count place above = grind (arith, nat_tests)

-- none of them lies in another buffer
elsewhere : (size b at count q r : ℕ) → r < size → at + count ≤ size → (less : Bool) → nat_lt q b ≡ less → nat_eq q b ≡ false → (nat_le (size * b + at) (size * q + r) && nat_lt (size * q + r) (size * b + at + count)) ≡ false
elsewhere size b at count q r inside room true less other =
    let before : q < b = grind (arith, nat_tests) in
    let ends : size * (q + 1) ≤ size * b = mul-le-mul_left size (omega arith) in
    below_there (size * b + at) 0 count (size * q + r) (omega arith)
elsewhere size b at count q r inside room false less other =
    let after : b < q = grind (arith, nat_tests) in
    let ends : size * (b + 1) ≤ size * q = mul-le-mul_left size (omega arith) in
    above_there (size * b + at) count (size * q + r) (omega arith)

-- a byte of what all buffers are together, once bytes were put into one of them
written_byte : {X : Type 0} (f : X → List ℕ) (size : ℕ) (xs : List X) (b at q r : ℕ) (v e : X) (count : ℕ) (put : ℕ → ℕ) → Sized f size xs → length (f v) ≡ size → b < length xs → q < length xs → r < size → at + count ≤ size
    → slice_index (f v) r ≡ (if nat_le at r && nat_lt r (at + count) then put (r - at) else slice_index (f (get_or xs b e)) r)
    → (same : Bool) → nat_eq q b ≡ same
    → slice_index (flat_map f (set xs b v)) (size * q + r) ≡ (if nat_le (size * b + at) (size * q + r) && nat_lt (size * q + r) (size * b + at + count) then put (size * q + r - (size * b + at)) else slice_index (flat_map f xs) (size * q + r))
written_byte f size xs b at q r v e count put sized whole below here inside room byte true same =
    let is : q ≡ b = grind (arith, nat_tests) in
    let place : size * q + r ≡ size * b + r = ap (λ n. size * n + r) is in
    let moved : size * b + r - (size * b + at) ≡ r - at = omega arith in
    let choose : Bool → ℕ → ℕ → ℕ = λ test byte old. if test then byte else old in
    let new : slice_index (flat_map f (set xs b v)) (size * b + r) ≡ slice_index (f v) r = this_buffer f size xs b r v sized whole below inside in
    let old : slice_index (f (get_or xs b e)) r ≡ slice_index (flat_map f xs) (size * b + r) = sym (joined_byte f size xs b r e sized below inside) in
    let goal : slice_index (flat_map f (set xs b v)) (size * b + r) ≡ choose (nat_le (size * b + at) (size * b + r) && nat_lt (size * b + r) (size * b + at + count)) (put (size * b + r - (size * b + at))) (slice_index (flat_map f xs) (size * b + r))
    = new ∙ byte
    ∙ ap (λ (o : ℕ). choose (nat_le at r && nat_lt r (at + count)) (put (r - at)) o) old
    ∙ ap (λ (t : Bool). choose t (put (r - at)) (slice_index (flat_map f xs) (size * b + r))) (sym (within_here (size * b) at count r))
    ∙ ap (λ (k : ℕ). choose (nat_le (size * b + at) (size * b + r) && nat_lt (size * b + r) (size * b + at + count)) (put k) (slice_index (flat_map f xs) (size * b + r))) (sym moved) in
    subst (λ (i : ℕ). slice_index (flat_map f (set xs b v)) i ≡ choose (nat_le (size * b + at) i && nat_lt i (size * b + at + count)) (put (i - (size * b + at))) (slice_index (flat_map f xs) i)) (sym place) goal
written_byte f size xs b at q r v e count put sized whole below here inside room byte false other =
    let not_same : q ≢ b = grind (arith, nat_tests) in
    let outside = elsewhere size b at count q r inside room (nat_lt q b) refl other in
    other_buffer f size xs b q r v sized whole here inside not_same
    ∙ ap (λ (t : Bool). if t then put (size * q + r - (size * b + at)) else slice_index (flat_map f xs) (size * q + r)) (sym outside)

-- the same at a place among the bytes of all
pub written_place : {X : Type 0} (f : X → List ℕ) (size : ℕ) (xs : List X) (b at i : ℕ) (v e : X) (count : ℕ) (put : ℕ → ℕ) → 0 < size → Sized f size xs → length (f v) ≡ size → b < length xs → i < size * length xs → at + count ≤ size
    → ((k : ℕ) → slice_index (f v) k ≡ (if nat_le at k && nat_lt k (at + count) then put (k - at) else slice_index (f (get_or xs b e)) k))
    → slice_index (flat_map f (set xs b v)) i ≡ (if nat_le (size * b + at) i && nat_lt i (size * b + at + count) then put (i - (size * b + at)) else slice_index (flat_map f xs) i)
written_place f size xs b at i v e count put some sized whole below inside room bytes =
    let place : size * (i / size) + i % size ≡ i = div-add-mod i size in
    let quotient : i / size < length xs = div_below i size (length xs) some (omega arith) in
    let rest : i % size < size = mod-lt i {m = size} some in
    let at_parts = written_byte f size xs b at (i / size) (i % size) v e count put sized whole below quotient rest room (bytes (i % size)) (nat_eq (i / size) b) refl in
    subst (λ (j : ℕ). slice_index (flat_map f (set xs b v)) j ≡ (if nat_le (size * b + at) j && nat_lt j (size * b + at + count) then put (j - (size * b + at)) else slice_index (flat_map f xs) j)) place at_parts

-- one buffer more
pub one_more : {X : Type 0} (f : X → List ℕ) (size block : ℕ) (xs : List X) (x : X) (bytes : List ℕ) → flat_map f xs ≡ take (size * block) bytes → f x ≡ take size (drop (size * block) bytes) → flat_map f (xs ++ (x ∷ [])) ≡ take (size * (block + 1)) bytes
one_more f size block xs x bytes before here =
    let more : size * (block + 1) ≡ size * block + size = omega arith in
    let last : flat_map f (x ∷ []) ≡ f x = append-nil (f x) in
    flat_map-append f xs (x ∷ []) ∙ ap (λ front. front ++ flat_map f (x ∷ [])) before ∙ ap (λ back. take (size * block) bytes ++ back) (last ∙ here) ∙ sym (take-add (size * block) size bytes) ∙ ap (λ n. take n bytes) (sym more)
