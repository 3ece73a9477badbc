-- What several calls on a stream have done together.
use Rattle.std.proofs.Common.{◌≡◌, List, ◌++◌, ℕ, ◌+◌, length, take, drop, Option, None, Some, sym, refl, ap, ◌∙◌, append_assoc, arith, length-append}
use Rattle.std.proofs.lemmas.List.{take-append-drop, drop-drop, drop_at}
use Rattle.std.proofs.Math.Seq.{take-add}
use Rattle.att_base.specs.Streams.{put_before, put_after, TakesTooMany}

-- two pieces, one after the other, are one piece
pub put_before-put_before : (a b : List ℕ) (o : Option (List ℕ)) → put_before a (put_before b o) ≡ put_before (a ++ b) o
put_before-put_before a b None = refl
put_before-put_before a b (Some rest) = ap Some (sym (append_assoc a b rest))

pub put_after-put_after : (o : Option (List ℕ)) (a b : List ℕ) → put_after (put_after o a) b ≡ put_after o (a ++ b)
put_after-put_after None a b = refl
put_after-put_after (Some held) a b = ap Some (append_assoc held a b)

-- a front of a piece, and then n bytes more of it
pub put_after-more : (old mid new : Option (List ℕ)) (piece : List ℕ) (at n : ℕ) → mid ≡ put_after old (take at piece) → new ≡ put_after mid (take n (drop at piece)) → new ≡ put_after old (take (at + n) piece)
put_after-more old mid new piece at n first second =
    second ∙ ap (λ o. put_after o (take n (drop at piece))) first ∙ put_after-put_after old (take at piece) (take n (drop at piece)) ∙ ap (put_after old) (sym (take-add at n piece))

pub put_before-more : (old mid new : Option (List ℕ)) (taken piece : List ℕ) → old ≡ put_before taken mid → mid ≡ put_before piece new → old ≡ put_before (taken ++ piece) new
put_before-more old mid new taken piece first second =
    first ∙ ap (put_before taken) second ∙ put_before-put_before taken piece new

pub TakesTooMany-from_taken : (limit : ℕ) (taken : List ℕ) (old new : Option (List ℕ)) → old ≡ put_before taken new → length taken ≡ limit + 1 → TakesTooMany limit old new
TakesTooMany-from_taken limit taken old None was len bytes told = cc
TakesTooMany-from_taken limit taken old (Some rest) was len bytes told =
    let whole : bytes ≡ taken ++ rest = cc in
    (omega (arith, ap length whole, length-append taken rest), ap Some (sym (ap (drop (limit + 1)) whole ∙ drop_at taken rest (limit + 1) len)))

-- where at bytes have gone, what is left is the n that go next and what is left then
pub drop-moved : (bytes moved : List ℕ) (at n : ℕ) → moved ≡ take n (drop at bytes) → drop at bytes ≡ moved ++ drop (at + n) bytes
drop-moved bytes moved at n is =
    sym (ap (λ xs. xs ++ drop (at + n) bytes) is ∙ ap (λ xs. take n (drop at bytes) ++ xs) (sym (drop-drop n at bytes)) ∙ take-append-drop n (drop at bytes))
