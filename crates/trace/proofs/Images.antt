-- The lines of an image, one after the other.
use Rattle.std.proofs.Common.{◌≡◌, ℕ, zero, suc, ◌+◌, ◌-◌, ◌*◌, ◌/◌, ◌<◌, ◌≤◌, min, List, [], ◌∷◌, ◌++◌, length, map, take, drop, All, refl, sym, ap, ◌∙◌, subst, arith, append_assoc, length-append, length-take, length-drop, take_all}
use Rattle.std.specs.Prelude.{replicate}
use Rattle.std.specs.List.{range_with_len}
use Rattle.std.specs.Fork.{slice_chunk}
use Rattle.std.specs.Slice.Iter.{chunk_count}
use Rattle.std.proofs.lemmas.List.{append-nil, take-append-le, drop-append-le, drop-drop, drop_all, length-map, length-replicate}
use Rattle.std.proofs.lemmas.List.FromFn.{length-map-range_with_len}
use Rattle.std.proofs.lemmas.List.Elements.{All-nil, All-append, All-replicate, All-take, All-drop}
use Rattle.std.proofs.Math.Seq.{take-length, take-append-add, take-append_seam}
use Rattle.hex.specs.Hex.{IsBytes, encode_lower, lower_digits}
use Rattle.hex.proofs.HexLemmas.{length-encode_with}
use Rattle.history.specs.declared.events.Entry.{Entry}
use Rattle.history.specs.Layout.{Setting, IsSetting, byte_count}
use Rattle.chronicle.specs.Settings.{setting_of}
use Rattle.chronicle.specs.Worlds.{Recorded}
use Rattle.trace.specs.Text.{text_of_lines, entry_text, head_lines, image_lines, end_line, trace_lines}
use Rattle.trace.specs.Printable.{IsPrintable}
use Rattle.trace.specs.Whole.{IsTraceable, BeginsTrace, LeavesAt}
use Rattle.trace.proofs.Pieces.{lines_append}
use Rattle.trace.proofs.Unique.{regroup, same_front}
use Rattle.trace.proofs.OneTrace.{SameHead, head_front, bytes_of_all}
use Rattle.trace.proofs.Begun.{body_lines, lines_head, lines_count, leaves}

pieces_shift : (b : List ℕ) (s a n : ℕ) → map (slice_chunk b s) (range_with_len (a + 1) n) ≡ map (slice_chunk (drop s b) s) (range_with_len a n)
pieces_shift b s a zero = refl
pieces_shift b s a (suc n) =
    let place : (a + 1) * s ≡ s + a * s = omega arith in
    let first : slice_chunk b s (a + 1) ≡ slice_chunk (drop s b) s a = ap (λ m. take s (drop m b)) place ∙ ap (take s) (sym (drop-drop (a * s) s b)) in
    ap (λ x. x ∷ map (slice_chunk b s) (range_with_len (a + 1 + 1) n)) first ∙ ap (λ l. slice_chunk (drop s b) s a ∷ l) (pieces_shift b s (a + 1) n)

pub image_nil : image_lines [] ≡ []
unfolding image_lines
image_nil = refl

-- the first line, and those of the rest
pub image_cons : (b : List ℕ) → 0 < length b → image_lines b ≡ encode_lower (take 32 b) ∷ image_lines (drop 32 b)
unfolding image_lines
image_cons b some =
    let m = chunk_count (length (drop 32 b)) 32 in
    let count : chunk_count (length b) 32 ≡ suc m = omega (arith, some, length-drop 32 b) in
    ap (λ n. map encode_lower (map (slice_chunk b 32) (range_with_len 0 n))) count ∙ ap (λ l. encode_lower (take 32 b) ∷ map encode_lower l) (pieces_shift b 32 0 m)

pub image_count : (b : List ℕ) → length (image_lines b) ≡ chunk_count (length b) 32
unfolding image_lines
image_count b = length-map (map (slice_chunk b 32) (range_with_len 0 (chunk_count (length b) 32))) encode_lower ∙ length-map-range_with_len (slice_chunk b 32) 0 (chunk_count (length b) 32)

pub image_number : (b : List ℕ) → length (image_lines b) ≡ (length b + 31) / 32
image_number b = omega (arith, image_count b)

-- lines of whole pieces, and those of the rest
pub image_append : (k : ℕ) (a b : List ℕ) → length a ≡ k * 32 → image_lines (a ++ b) ≡ image_lines a ++ image_lines b
image_append zero [] b size = ap (λ l. l ++ image_lines b) (sym image_nil)
image_append zero (x ∷ a) b size = absurd (omega (arith, size))
image_append (suc k) a b size =
    let some : 0 < length a = omega (arith, size) in
    let longer : 0 < length (a ++ b) = omega (arith, some, length-append a b) in
    let enough : 32 ≤ length a = omega (arith, size) in
    let left : length (drop 32 a) ≡ k * 32 = omega (arith, size, length-drop 32 a) in
    image_cons (a ++ b) longer
    ∙ ap (λ t. encode_lower t ∷ image_lines (drop 32 (a ++ b))) (take-append-le 32 a b enough)
    ∙ ap (λ t. encode_lower (take 32 a) ∷ image_lines t) (drop-append-le 32 a b enough)
    ∙ ap (λ l. encode_lower (take 32 a) ∷ l) (image_append k (drop 32 a) b left)
    ∙ ap (λ l. l ++ image_lines b) (sym (image_cons a some))

-- one line more
pub image_more : (k : ℕ) (a b : List ℕ) → length a ≡ k * 32 → 0 < length b → length b ≤ 32 → image_lines (a ++ b) ≡ image_lines a ++ encode_lower b ∷ []
image_more k a b size some few =
    image_append k a b size ∙ ap (λ l. image_lines a ++ l) (image_cons b some ∙ ap (λ t. encode_lower t ∷ image_lines (drop 32 b)) (take_all 32 b few) ∙ ap (λ t. encode_lower b ∷ image_lines t) (drop_all 32 b few) ∙ ap (λ l. encode_lower b ∷ l) image_nil)

pub text_more : (k : ℕ) (a b text left rest : List ℕ) → length a ≡ k * 32 → 0 < length b → length b ≤ 32 → text ≡ text_of_lines (image_lines a) ++ left → left ≡ encode_lower b ++ 10 ∷ rest → text ≡ text_of_lines (image_lines (a ++ b)) ++ rest
text_more k a b text left rest size some few is next =
    is ∙ ap (λ t. text_of_lines (image_lines a) ++ t) (next ∙ sym (regroup 10 (encode_lower b) [] rest))
    ∙ sym (append_assoc (text_of_lines (image_lines a)) (text_of_lines (encode_lower b ∷ [])) rest)
    ∙ ap (λ t. t ++ rest) (sym (lines_append (image_lines a) (encode_lower b ∷ [])))
    ∙ ap (λ l. text_of_lines l ++ rest) (sym (image_more k a b size some few))

line_length : (b : List ℕ) → 32 ≤ length b → length (encode_lower (take 32 b)) ≡ 64
line_length b enough = omega (arith, length-encode_with lower_digits (take 32 b), length-take 32 b, enough)

-- behind so many whole lines the next line of a longer image stands
pub image_ahead : (k : ℕ) (image other : List ℕ) (more : List (List ℕ)) (rest r : List ℕ) → length image ≡ k * 32 → k * 32 < length other
    → text_of_lines (image_lines image) ++ rest ≡ text_of_lines (take (suc k) (image_lines other ++ more)) ++ r → rest ≡ encode_lower (take 32 (drop (k * 32) other)) ++ 10 ∷ r
image_ahead zero (x ∷ image) other more rest r size some h = absurd (omega (arith, size))
image_ahead zero [] other more rest r size some h =
    let first = encode_lower (take 32 other) in
    ap (λ l. text_of_lines l ++ rest) (sym image_nil) ∙ h ∙ ap (λ l. text_of_lines (take 1 (l ++ more)) ++ r) (image_cons other some) ∙ regroup 10 first [] r
image_ahead (suc k) image other more rest r size some h =
    let mine : 0 < length image = omega (arith, size) in
    let theirs : 0 < length other = omega (arith, some) in
    let x = encode_lower (take 32 image) in
    let y = encode_lower (take 32 other) in
    let xs = image_lines (drop 32 image) in
    let ys = take (suc k) (image_lines (drop 32 other) ++ more) in
    let same : x ++ 10 ∷ (text_of_lines xs ++ rest) ≡ y ++ 10 ∷ (text_of_lines ys ++ r) =
    sym (regroup 10 x (text_of_lines xs) rest) ∙ ap (λ l. text_of_lines l ++ rest) (sym (image_cons image mine)) ∙ h
    ∙ ap (λ l. text_of_lines (take (suc (suc k)) (l ++ more)) ++ r) (image_cons other theirs) ∙ regroup 10 y (text_of_lines ys) r in
    let long : 32 ≤ length other = omega (arith, some) in
    let whole : 32 ≤ length image = omega (arith, size) in
    let front = same_front x y (10 ∷ (text_of_lines xs ++ rest)) (10 ∷ (text_of_lines ys ++ r)) (line_length image whole ∙ sym (line_length other long)) same in
    let left : length (drop 32 image) ≡ k * 32 = omega (arith, size, length-drop 32 image) in
    let more_left : k * 32 < length (drop 32 other) = omega (arith, some, length-drop 32 other) in
    let place : 32 + k * 32 ≡ suc k * 32 = omega arith in
    image_ahead k (drop 32 image) (drop 32 other) more rest r left more_left (ap (drop 1) front.1)
    ∙ ap (λ t. encode_lower (take 32 t) ++ 10 ∷ r) (drop-drop (k * 32) 32 other ∙ ap (λ n. drop n other) place)

pub head_length : (w : Setting) → length (head_lines w) ≡ 4
unfolding head_lines
head_length w = refl

-- a head doesn't tell the image
pub head_same : (w : Setting) (image : List ℕ) → head_lines (setting_of w.layout w.ranges image w.cap) ≡ head_lines w
unfolding head_lines
head_same w image = refl

pub take_lines : (w : Setting) (h : List Entry) (n : ℕ) → take (4 + n) (trace_lines w h) ≡ head_lines w ++ take n (body_lines w h)
take_lines w h n =
    ap (λ l. take (4 + n) l) (lines_head w h) ∙ ap (λ m. take (m + n) (head_lines w ++ body_lines w h)) (sym (head_length w)) ∙ take-append-add (head_lines w) (body_lines w h) n

-- behind a head, a trace that begins there has the same, and goes on with its body
pub body_stands : (w : Setting) (kept : Recorded) (whole text r : List ℕ) (n : ℕ) → IsSetting w → IsTraceable kept → whole ≡ text_of_lines (head_lines w) ++ text
    → whole ≡ text_of_lines (take (4 + n) (trace_lines kept.world kept.entries)) ++ r → SameHead w kept.world text (text_of_lines (take n (body_lines kept.world kept.entries)) ++ r)
body_stands w kept whole text r n s t is spelled =
    let u = kept.world in
    let h = kept.entries in
    let body = take n (body_lines u h) in
    let stands : whole ≡ text_of_lines (head_lines u) ++ (text_of_lines body ++ r) =
    spelled ∙ ap (λ l. text_of_lines l ++ r) (take_lines u h n) ∙ ap (λ l. l ++ r) (lines_append (head_lines u) body) ∙ append_assoc (text_of_lines (head_lines u)) (text_of_lines body) r in
    head_front w u text (text_of_lines body ++ r) s t.setting (sym is ∙ stands)

-- images of the same layout have as many lines
pub same_count : (w u : Setting) → IsSetting w → IsSetting u → w.layout ≡ u.layout → length u.image ≡ byte_count w.layout
same_count w u s t same = t.image_length ∙ ap byte_count (sym same)

-- the image that was read so far, and zeros
abbrev padded : Setting → List ℕ → ℕ → Setting
padded w image n = setting_of w.layout w.ranges (image ++ replicate n 0) w.cap

padded_setting : (w : Setting) (image : List ℕ) (n : ℕ) → IsSetting w → All (λ byte. byte < 256) image → length image + n ≡ byte_count w.layout → IsSetting (padded w image n)
padded_setting w image n s bytes size = record {
  layout = s.layout;
  ranges = s.ranges;
  inside = s.inside;
  image_length = length-append image (replicate n 0) ∙ ap (λ m. length image + m) (length-replicate n 0) ∙ size;
  image_bytes = All-append (λ byte. byte < 256) image (replicate n 0) bytes (All-replicate (λ byte. byte < 256) n 0 (omega arith));
  some_entry = s.some_entry;
  few_entries = s.few_entries;
}

-- some trace begins with the head and the lines of an image that were read so far
begins_image : (w : Setting) (whole text rest image : List ℕ) (k : ℕ) → IsSetting w → whole ≡ text_of_lines (head_lines w) ++ text → length image ≡ k * 32 → k * 32 ≤ byte_count w.layout → All (λ byte. byte < 256) image → text ≡ text_of_lines (image_lines image) ++ rest → BeginsTrace whole (4 + k)
begins_image w whole text rest image k s is size within bytes next =
    let n = byte_count w.layout - k * 32 in
    let u = padded w image n in
    let kept : Recorded = record { world = u; entries = [] } in
    let zeros = image_lines (replicate n 0) in
    let lines = image_lines image in
    let end = end_line [] ∷ [] in
    let whole_size : length image + n ≡ byte_count w.layout = omega (arith, size, within) in
    let number : length lines ≡ k = image_count image ∙ omega (arith, size) in
    let body : body_lines u [] ≡ lines ++ (zeros ++ end) = ap (λ l. l ++ end) (image_append k image (replicate n 0) size) ∙ append_assoc lines zeros end in
    let first : take k (body_lines u []) ≡ lines = ap (take k) body ∙ ap (λ m. take m (lines ++ (zeros ++ end))) (sym number) ∙ take-append_seam lines (zeros ++ end) in
    let taken : take (4 + k) (trace_lines u []) ≡ head_lines w ++ lines = take_lines u [] k ∙ ap (λ l. head_lines u ++ l) first ∙ ap (λ l. l ++ lines) (head_same w (image ++ replicate n 0)) in
    let count : length (body_lines u []) ≡ length lines + length (zeros ++ end) = ap length body ∙ length-append lines (zeros ++ end) in
    record {
      kept = kept;
      traceable = record { setting = padded_setting w image n s bytes whole_size; few = omega arith; printable = All-nil IsPrintable };
      enough = omega (arith, ap length (lines_head u []), length-append (head_lines u) (body_lines u []), head_length u, count, number);
      rest = rest;
      spelled = is ∙ ap (λ t. text_of_lines (head_lines w) ++ t) next ∙ sym (append_assoc (text_of_lines (head_lines w)) (text_of_lines lines) rest) ∙ ap (λ t. t ++ rest) (sym (lines_append (head_lines w) lines)) ∙ ap (λ l. text_of_lines l ++ rest) (sym taken);
    }

-- a line of the image that doesn't stand there
pub leaves_image : (w : Setting) (whole text rest image : List ℕ) (k : ℕ) → IsSetting w → whole ≡ text_of_lines (head_lines w) ++ text → length image ≡ k * 32 → k * 32 < byte_count w.layout → All (λ byte. byte < 256) image → text ≡ text_of_lines (image_lines image) ++ rest
    → ((bytes r : List ℕ) → IsBytes bytes → length bytes ≡ min 32 (byte_count w.layout - k * 32) → rest ≡ encode_lower bytes ++ 10 ∷ r → ⊥) → LeavesAt whole (suc (4 + k))
leaves_image w whole text rest image k s is size within bytes next none =
    let fewer : k * 32 ≤ byte_count w.layout = omega (arith, within) in
    let here : BeginsTrace whole (4 + suc k) → ⊥ = λ b.
    let u = b.kept.world in
    let h = b.kept.entries in
    let same = body_stands w b.kept whole text b.rest (suc k) s b.traceable is b.spelled in
    let long : length u.image ≡ byte_count w.layout = same_count w u s b.traceable.setting same.layout in
    let longer : k * 32 < length u.image = omega (arith, within, long) in
    let ahead = image_ahead k image u.image (map entry_text h ++ end_line h ∷ []) rest b.rest size longer (sym next ∙ same.rest) in
    let piece = take 32 (drop (k * 32) u.image) in
    let piece_bytes = bytes_of_all piece (All-take (λ byte. byte < 256) 32 (drop (k * 32) u.image) (All-drop (λ byte. byte < 256) (k * 32) u.image b.traceable.setting.image_bytes)) in
    none piece b.rest piece_bytes (length-take 32 (drop (k * 32) u.image) ∙ ap (λ m. min 32 m) (length-drop (k * 32) u.image ∙ ap (λ m. m - k * 32) long)) ahead in
    let next_line : suc (4 + k) ≡ 4 + suc k = omega arith in
    leaves whole (4 + k) (begins_image w whole text rest image k s is size fewer bytes next)
    (λ b. here (subst (BeginsTrace whole) next_line b))
    (λ kept whole_is.
    let u = kept.world in
    let count = lines_count u kept.entries in
    let lines = trace_lines u kept.entries in
    let body = length (image_lines u.image) + suc (length kept.entries) in
    let total : 4 + body ≡ length lines = omega (arith, count) in
    let every : take (4 + body) lines ≡ lines = ap (λ m. take m lines) total ∙ take-length lines in
    let all : whole ≡ text_of_lines (take (4 + body) lines) ++ [] = whole_is.spelled ∙ sym (append-nil (text_of_lines lines)) ∙ ap (λ l. text_of_lines l ++ []) (sym every) in
    let same = body_stands w kept whole text [] body s whole_is.traceable is all in
    let long : length u.image ≡ byte_count w.layout = same_count w u s whole_is.traceable.setting same.layout in
    omega (arith, count, image_count u.image, long, within))
