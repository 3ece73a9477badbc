-- Program headers of segments, one after the other.
use Rattle.std.proofs.Common.{◌≡◌, ℕ, ◌+◌, List, [], ◌∷◌, ◌++◌, length, refl, sym, ap, ◌∙◌, append_assoc, add-zero, arith}
use Rattle.std.proofs.lemmas.List.{append-nil}
use Rattle.std.proofs.lemmas.List.Sums.{sum_by-cons}
use Rattle.executable.specs.declared.Segment.{Segment}
use Rattle.elf32.specs.Written.{segment_header, segment_headers}
use Rattle.executable.specs.Writable.{total_size}

pub headers_none : (start : ℕ) → segment_headers start [] ≡ []
unfolding segment_headers
headers_none start = refl

pub headers-cons : (start : ℕ) (s : Segment) (rest : List Segment) → segment_headers start (s ∷ rest) ≡ segment_header start s ++ segment_headers (start + length s.bytes) rest
unfolding segment_headers
headers-cons start s rest = refl

pub headers-append : (start : ℕ) (a b : List Segment) → segment_headers start (a ++ b) ≡ segment_headers start a ++ segment_headers (start + total_size a) b
headers-append start [] b =
    ap (λ (m : ℕ). segment_headers m b) (sym (add-zero start))
    ∙ ap (λ (xs : List ℕ). xs ++ segment_headers (start + 0) b) (sym (headers_none start))
headers-append start (s ∷ a) b =
    let size : start + length s.bytes + total_size a ≡ start + total_size (s ∷ a) = omega (arith, sum_by-cons (λ (t : Segment). length t.bytes) s a) in
    headers-cons start s (a ++ b)
    ∙ ap (λ (xs : List ℕ). segment_header start s ++ xs) (headers-append (start + length s.bytes) a b)
    ∙ sym (append_assoc (segment_header start s) (segment_headers (start + length s.bytes) a) (segment_headers (start + length s.bytes + total_size a) b))
    ∙ ap (λ (xs : List ℕ). xs ++ segment_headers (start + length s.bytes + total_size a) b) (sym (headers-cons start s a))
    ∙ ap (λ (m : ℕ). segment_headers start (s ∷ a) ++ segment_headers m b) size

-- one more header
pub headers_more : (old out new : List ℕ) (start offset : ℕ) (before : List Segment) (s : Segment)
    → out ≡ old ++ segment_headers start before → offset ≡ start + total_size before → new ≡ out ++ segment_header offset s
    → new ≡ old ++ segment_headers start (before ++ s ∷ [])
headers_more old out new start offset before s so_far place put =
    put
    ∙ ap (λ (m : ℕ). out ++ segment_header m s) place
    ∙ ap (λ (xs : List ℕ). xs ++ segment_header (start + total_size before) s) so_far
    ∙ append_assoc old (segment_headers start before) (segment_header (start + total_size before) s)
    ∙ ap (λ (xs : List ℕ). old ++ (segment_headers start before ++ xs)) (sym (last_header (start + total_size before) s))
    ∙ ap (λ (xs : List ℕ). old ++ xs) (sym (headers-append start before (s ∷ [])))
  where
    last_header : (m : ℕ) (t : Segment) → segment_headers m (t ∷ []) ≡ segment_header m t
    last_header m t =
        headers-cons m t []
        ∙ ap (λ (xs : List ℕ). segment_header m t ++ xs) (headers_none (m + length t.bytes))
        ∙ append-nil (segment_header m t)
