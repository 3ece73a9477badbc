-- What is written in parts, as far as it has come.
use Rattle.std.proofs.Common.{◌≡◌, ℕ, zero, suc, ◌+◌, List, [], ◌∷◌, ◌++◌, length, take, drop, Option, None, Some, Result, Ok, Err, OnErr, refl, sym, ap, ◌∙◌, append_assoc, arith, slice_get, length-append}
use Rattle.std.proofs.lemmas.List.{append-nil, take-append-drop, take-append-le}
use Rattle.std.proofs.Math.Seq.{take-append_seam, take-append-add}
use Rattle.std.specs.List.{concat}
use Rattle.std.specs.Result.{IsErrAnd}
use Rattle.att_base.specs.declared.faults.Failed.{Failed}
use Rattle.att_base.specs.Faults.{FaultCountRose}
use Rattle.att_base.specs.Streams.{put_after, AppendsFront, AppendsPiece}
use Rattle.att_base.specs.Files.{Contents, put_under, add_under, AddsFront, unchanged, grown, PutsFront, untouched, begun}
use Rattle.att_base.proofs.FileLemmas.{put_then_add}
use Rattle.att_base.proofs.StreamLemmas.{put_after-put_after}

-- what holds anyway holds of a refusal
pub on_err : {T E X : Type 0} (r : Result T E) → X → OnErr r X
on_err (Ok v) x = tt
on_err (Err e) x = x

-- ---- what is told

-- of what was to be told the rest is still to come, and what stands before it has been appended
pub record HasTold (whole rest : List ℕ) (old now : Option (List ℕ)) : Type 0 where
  pub front : List ℕ
  pub split : whole ≡ front ++ rest
  pub grown : now ≡ put_after old front

nothing_more : (o : Option (List ℕ)) → o ≡ put_after o []
nothing_more None = refl
nothing_more (Some held) = ap (λ (h : List ℕ). Some h) (sym (append-nil held))

pub none_told : (whole : List ℕ) (old : Option (List ℕ)) → HasTold whole whole old old
none_told whole old = record { front = []; split = refl; grown = nothing_more old }

pub more_told : (whole rest behind piece : List ℕ) (old mid now : Option (List ℕ)) → HasTold whole rest old mid → rest ≡ piece ++ behind → now ≡ put_after mid piece → HasTold whole behind old now
more_told whole rest behind piece old mid now h is put = record {
  front = h.front ++ piece;
  split = h.split ∙ ap (λ (r : List ℕ). h.front ++ r) is ∙ sym (append_assoc h.front piece behind);
  grown = put ∙ ap (λ (o : Option (List ℕ)). put_after o piece) h.grown ∙ put_after-put_after old h.front piece;
}

-- this is still to be told behind the piece
pub left_to_tell : (whole rest behind piece : List ℕ) (old mid : Option (List ℕ)) → HasTold whole rest old mid → rest ≡ piece ++ behind → (front : List ℕ) × (whole ≡ front ++ behind)
left_to_tell whole rest behind piece old mid h is = (h.front ++ piece, h.split ∙ ap (λ (r : List ℕ). h.front ++ r) is ∙ sym (append_assoc h.front piece behind))

pub all_told : (whole rest : List ℕ) (old now : Option (List ℕ)) → HasTold whole rest old now → rest ≡ [] → now ≡ put_after old whole
all_told whole rest old now h none =
    let all : h.front ≡ whole = sym (append-nil h.front) ∙ ap (λ (r : List ℕ). h.front ++ r) (sym none) ∙ sym h.split in
    h.grown ∙ ap (put_after old) all

-- it stopped in this piece
pub front_told : (whole rest behind piece : List ℕ) (old mid now : Option (List ℕ)) → HasTold whole rest old mid → rest ≡ piece ++ behind → AppendsFront mid now piece → AppendsFront old now whole
front_told whole rest behind piece old mid now h is put =
    let all : whole ≡ h.front ++ (piece ++ behind) = h.split ∙ ap (λ (r : List ℕ). h.front ++ r) is in
    let size : length whole ≡ length h.front + length (piece ++ behind) = ap length all ∙ length-append h.front (piece ++ behind) in
    let taken : take (length h.front + put.count) whole ≡ h.front ++ take put.count piece =
    ap (take (length h.front + put.count)) all ∙ take-append-add h.front (piece ++ behind) put.count ∙ ap (λ (r : List ℕ). h.front ++ r) (take-append-le put.count piece behind put.within) in
    record {
      count = length h.front + put.count;
      within = omega (arith, size, length-append piece behind, put.within);
      grown = put.grown ∙ ap (λ (o : Option (List ℕ)). put_after o (take put.count piece)) h.grown ∙ put_after-put_after old h.front (take put.count piece) ∙ ap (put_after old) (sym taken);
    }

-- what was told first was whole, and the parts behind it stopped
pub front_behind : (first whole : List ℕ) (old mid now : Option (List ℕ)) → mid ≡ put_after old first → AppendsFront mid now whole → AppendsFront old now (first ++ whole)
front_behind first whole old mid now put more =
    front_told (first ++ whole) whole [] whole old mid now (record { front = first; split = refl; grown = put }) (sym (append-nil whole)) more

-- it was appended behind what was appended first
pub puts_behind : {V : Type 0} (r : Result V Failed) (first rest : List ℕ) (old mid now : Option (List ℕ)) (before between after : ℕ) → mid ≡ put_after old first → between ≡ before
    → AppendsPiece r rest mid now between after → AppendsPiece r (first ++ rest) old now before after
puts_behind (Ok v) first rest old mid now before between after put same more =
    record { ok = more.ok ∙ ap (λ (o : Option (List ℕ)). put_after o rest) put ∙ put_after-put_after old first rest; err = tt; counted = more.counted ∙ same }
puts_behind (Err e) first rest old mid now before between after put same more =
    record { ok = tt; err = front_behind first rest old mid now put more.err; counted = rw same at more.counted }

-- it stopped, and the fault is handed on
pub puts_front : {V : Type 0} (r : Result V Failed) (P : Failed → Type 0) (piece : List ℕ) (old now : Option (List ℕ)) (before after : ℕ) → IsErrAnd r P → AppendsFront old now piece → FaultCountRose before after
    → AppendsPiece r piece old now before after
puts_front (Ok v) P piece old now before after is front rose = absurd is
puts_front (Err e) P piece old now before after is front rose = record { ok = tt; err = front; counted = rose }

-- all that stood first is told, and of the rest this is left
pub left_behind : (whole first rest kept left front : List ℕ) → whole ≡ first ++ rest → rest ≡ front ++ left → kept ≡ [] → (told : List ℕ) × (whole ≡ told ++ (kept ++ left))
left_behind whole first rest kept left front all is none = (first ++ front, all ∙ ap (λ (r : List ℕ). first ++ r) is ∙ sym (append_assoc first front left) ∙ ap (λ (k : List ℕ). (first ++ front) ++ (k ++ left)) (sym none))

pub front_before : (first whole : List ℕ) (old now : Option (List ℕ)) → AppendsFront old now first → AppendsFront old now (first ++ whole)
front_before first whole old now put = record {
  count = put.count;
  within = omega (arith, length-append first whole, put.within);
  grown = put.grown ∙ ap (put_after old) (sym (take-append-le put.count first whole put.within));
}

-- ---- a file in parts

-- of the bytes of the file the rest is still to be appended, and what stands before it is under its name
pub record HasPut (name whole rest : List ℕ) (old now : Option Contents) : Type 0 where
  pub front : List ℕ
  pub split : whole ≡ front ++ rest
  pub put : now ≡ put_under old name front

part_next : (parts : List (List ℕ)) (k : ℕ) (part : List ℕ) → slice_get parts k ≡ Some part → concat (drop k parts) ≡ part ++ concat (drop (suc k) parts)
part_next [] k part is = cc
part_next (p ∷ parts) zero part is = let same : p ≡ part = cc in ap (λ (x : List ℕ). x ++ concat parts) same
part_next (p ∷ parts) (suc k) part is = part_next parts k part is

pub part_put : (parts : List (List ℕ)) (k : ℕ) (part name whole : List ℕ) (old mid now : Option Contents) → HasPut name whole (concat (drop k parts)) old mid → slice_get parts k ≡ Some part
    → now ≡ add_under mid name part → HasPut name whole (concat (drop (k + 1) parts)) old now
part_put parts k part name whole old mid now h is added =
    let next : k + 1 ≡ suc k = omega arith in
    rw next (record {
      front = h.front ++ part;
      split = h.split ∙ ap (λ (r : List ℕ). h.front ++ r) (part_next parts k part is) ∙ sym (append_assoc h.front part (concat (drop (suc k) parts)));
      put = added ∙ ap (λ (o : Option Contents). add_under o name part) h.put ∙ put_then_add old name h.front part;
    })

pub stops_here : (name whole rest : List ℕ) (old now : Option Contents) → HasPut name whole rest old now → PutsFront old now name whole
stops_here name whole rest old now h =
    let size : length whole ≡ length h.front + length rest = ap length h.split ∙ length-append h.front rest in
    let taken : take (length h.front) whole ≡ h.front = ap (take (length h.front)) h.split ∙ take-append_seam h.front rest in
    begun (length h.front) (omega (arith, size)) (h.put ∙ ap (put_under old name) (sym taken))

-- it stopped in this part
pub part_stops : (parts : List (List ℕ)) (k : ℕ) (part name whole : List ℕ) (old mid now : Option Contents) → HasPut name whole (concat (drop k parts)) old mid → slice_get parts k ≡ Some part
    → AddsFront mid now name part → PutsFront old now name whole
part_stops parts k part name whole old mid now h is (unchanged same) = rw same (stops_here name whole (concat (drop k parts)) old mid h)
part_stops parts k part name whole old mid now h is (grown count within added) =
    let behind = concat (drop (suc k) parts) in
    let split : whole ≡ (h.front ++ take count part) ++ (drop count part ++ behind) =
    h.split ∙ ap (λ (r : List ℕ). h.front ++ r) (part_next parts k part is)
    ∙ ap (λ (p : List ℕ). h.front ++ (p ++ behind)) (sym (take-append-drop count part))
    ∙ ap (λ (p : List ℕ). h.front ++ p) (append_assoc (take count part) (drop count part) behind)
    ∙ sym (append_assoc h.front (take count part) (drop count part ++ behind)) in
    let put : now ≡ put_under old name (h.front ++ take count part) =
    added ∙ ap (λ (o : Option Contents). add_under o name (take count part)) h.put ∙ put_then_add old name h.front (take count part) in
    stops_here name whole (drop count part ++ behind) old now (record { front = h.front ++ take count part; split = split; put = put })

-- it stopped in what stands before the parts
pub first_stops : (name first rest : List ℕ) (old now : Option Contents) → PutsFront old now name first → PutsFront old now name (first ++ rest)
first_stops name first rest old now (untouched same) = untouched same
first_stops name first rest old now (begun count within put) =
    begun count (omega (arith, length-append first rest)) (put ∙ ap (put_under old name) (sym (take-append-le count first rest within)))
