-- Texts that are written piece by piece, and a list that is cut into pieces.
use Rattle.std.proofs.Common.{◌≡◌, ℕ, ◌+◌, ◌-◌, min, List, [], ◌∷◌, ◌++◌, length, map, take, drop, flat_map, Some, sym, ap, ◌∙◌, arith, length-drop}
use Rattle.std.specs.Prelude.{slice_get}
use Rattle.std.specs.List.{range_with_len}
use Rattle.std.proofs.lemmas.List.{flat_map_more, map_push, take_more, take_min}
use Rattle.std.proofs.lemmas.List.FromFn.{map-range_with_len_more}
use Rattle.std.proofs.lemmas.Option.{slice_get_within, get_or_from_slice_get}
use Rattle.trace.specs.Text.{text_of_lines}

-- one element more of a list whose elements are written in their order
pub element_next : {A : Type 0} (f : A → List ℕ) (xs : List A) (k : ℕ) (x : A) (before old new : List ℕ) → slice_get xs k ≡ Some x → old ≡ before ++ flat_map f (take k xs) → new ≡ old ++ f x → new ≡ before ++ flat_map f (take (k + 1) xs)
element_next f xs k x before old new is h made =
    let longer : take (k + 1) xs ≡ take k xs ++ x ∷ [] = take_more xs k x (slice_get_within xs k x is) ∙ ap (λ y. take k xs ++ y ∷ []) (get_or_from_slice_get xs k x x is) in
    made ∙ ap (λ l. l ++ f x) h ∙ flat_map_more f before (take k xs) x ∙ ap (λ l. before ++ flat_map f l) (sym longer)

-- one line more, of the piece with the next number
pub line_next : {A : Type 0} (f : A → List ℕ) (g : ℕ → A) (k : ℕ) (before old new : List ℕ) → old ≡ before ++ text_of_lines (map f (map g (range_with_len 0 k))) → new ≡ old ++ (f (g k) ++ 10 ∷ []) → new ≡ before ++ text_of_lines (map f (map g (range_with_len 0 (k + 1))))
line_next f g k before old new h made =
    let longer : map f (map g (range_with_len 0 (k + 1))) ≡ map f (map g (range_with_len 0 k)) ++ f (g k) ∷ [] = ap (map f) (map-range_with_len_more g 0 k k (omega arith)) ∙ map_push f (map g (range_with_len 0 k)) (g k) in
    made ∙ ap (λ l. l ++ (f (g k) ++ 10 ∷ [])) h ∙ flat_map_more (λ line. line ++ 10 ∷ []) before (map f (map g (range_with_len 0 k))) (f (g k)) ∙ ap (λ l. before ++ text_of_lines l) (sym longer)

-- a piece, cut out between two places
pub piece_cut : {A : Type 0} (xs : List A) (size from end : ℕ) → end ≡ min (from + size) (length xs) → take (end - from) (drop from xs) ≡ take size (drop from xs)
piece_cut xs size from end is =
    let same : end - from ≡ min size (length (drop from xs)) = omega (arith, is, length-drop from xs) in
    rw same (take_min size (drop from xs))
