-- Ranges in the fields that hold them.
use Rattle.std.proofs.Common.{◌≡◌, ℕ, suc, ◌+◌, ◌-◌, ◌<◌, List, [], ◌∷◌, ◌++◌, length, take, get_or, map, replicate, refl, sym, ap, ◌∙◌, arith, length-append}
use Rattle.std.proofs.lemmas.List.{take_more, length-map, length-take-le, map-append}
use Rattle.std.proofs.Math.Seq.{append_snoc, set-append_seam}
use Rattle.std.proofs.Math.ListN.{set}
use Rattle.history.specs.declared.ranges.Range.{Range}
use Rattle.lock_plan.specs.Tables.{first_blocks, padded, paired, sizes_of}

-- the first of the places that are free
free_place : (n : ℕ) → n < 8 → replicate {A = ℕ} (8 - n) 0 ≡ 0 ∷ replicate {A = ℕ} (8 - (n + 1)) 0
free_place n few =
    let one : 8 - n ≡ suc (8 - (n + 1)) = omega arith in
    ap (λ k. replicate {A = ℕ} k 0) one

set_padded : (xs : List ℕ) (v : ℕ) → length xs < 8 → set (padded xs) (length xs) v ≡ padded (xs ++ (v ∷ []))
set_padded xs v few =
    let longer : length (xs ++ (v ∷ [])) ≡ length xs + 1 = length-append xs (v ∷ []) in
    ap (λ zs. set (xs ++ zs) (length xs) v) (free_place (length xs) few)
    ∙ set-append_seam xs 0 (replicate (8 - (length xs + 1)) 0) v
    ∙ sym (append_snoc xs v (replicate (8 - (length xs + 1)) 0))
    ∙ ap (λ n. (xs ++ (v ∷ [])) ++ replicate (8 - n) 0) (sym longer)

-- one range more
pub one_place_more : (field : Range → ℕ) (list : List Range) (places : List ℕ) (place : ℕ) (d : Range) → place < length list → place < 8 → places ≡ padded (map field (take place list)) → set places place (field (get_or list place d)) ≡ padded (map field (take (place + 1) list))
one_place_more field list places place d within few are =
    let front : List ℕ = map field (take place list) in
    let count : length front ≡ place = length-map (take place list) field ∙ length-take-le place list (omega arith) in
    let v : ℕ = field (get_or list place d) in
    let more : map field (take (place + 1) list) ≡ front ++ (v ∷ []) = ap (λ (rs : List Range). map field rs) (take_more list place d within) ∙ map-append field (take place list) (get_or list place d ∷ []) in
    ap (λ ps. set ps place v) are
    ∙ ap (λ n. set (padded front) n v) (sym count)
    ∙ set_padded front v (omega arith)
    ∙ ap padded (sym more)

-- the ranges that the fields stand for
paired_front : (list : List Range) (xs ys : List ℕ) → take (length list) (paired (first_blocks list ++ xs) (sizes_of list ++ ys)) ≡ list
paired_front [] xs ys = refl
paired_front (r ∷ list) xs ys = ap (λ (rest : List Range). r ∷ rest) (paired_front list xs ys)

pub ranges_of_fields : (list : List Range) (firsts sizes : List ℕ) → firsts ≡ padded (first_blocks list) → sizes ≡ padded (sizes_of list) → take (length list) (paired firsts sizes) ≡ list
ranges_of_fields list firsts sizes are_firsts are_sizes =
    ap (λ xs. take (length list) (paired xs sizes)) are_firsts
    ∙ ap (λ ys. take (length list) (paired (padded (first_blocks list)) ys)) are_sizes
    ∙ paired_front list (replicate (8 - length (first_blocks list)) 0) (replicate (8 - length (sizes_of list)) 0)
