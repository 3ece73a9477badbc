-- What is left of a listing, before and behind a step.
use Rattle.std.proofs.Common.{◌≡◌, ℕ, suc, ◌+◌, ◌-◌, ◌≤◌, List, [], ◌∷◌, ◌++◌, append_assoc, length, take, drop, get_or, slice_get, Some, refl, ap, sym, ◌∙◌, arith, add-zero}
use Rattle.std.proofs.Math.Seq.{drop-cons}
use Rattle.std.proofs.lemmas.List.{drop_all, take-append-drop, drop-drop, length-drop, length-take-le}
use Rattle.std.proofs.lemmas.Option.{slice_get_within, get_or_from_slice_get}
use Rattle.std.proofs.lemmas.Grind.{flat_map-append}
use Rattle.elf32.specs.Files.{FileSegment}
use Rattle.listing.specs.declared.cursor.Cursor.{Cursor}
use Rattle.listing.specs.Listing.{items, item_line, lines_text, items_of}
use Rattle.listing.specs.Left.{items_after, text_left, lines_left}
use Rattle.listing.proofs.Firsts.{none_left}

append_nil : (xs : List ℕ) → xs ++ [] ≡ xs
append_nil [] = refl
append_nil (x ∷ xs) = ap (λ ys. x ∷ ys) (append_nil xs)

-- ---- a line that is told

-- so many bytes of a line are told, and the rest is left
pub told_more : (line slice into new : List ℕ) (told count done : ℕ) → slice ≡ line → count ≤ length line - told
    → take (done + length (take (told + count - told) (drop told slice))) new ≡ take done into ++ take (told + count - told) (drop told slice)
    → take done into ++ drop told line ≡ take (done + count) new ++ drop (told + count) line
told_more line slice into new told count done same within h =
    let e : told + count - told ≡ count = omega arith in
    let copied : take (done + length (take count (drop told line))) new ≡ take done into ++ take count (drop told line) = rw (same, e) at h in
    let long : length (take count (drop told line)) ≡ count = length-take-le count (drop told line) (omega (arith, within, length-drop told line)) in
    let put : take (done + count) new ≡ take done into ++ take count (drop told line) = ap (λ n. take (done + n) new) (sym long) ∙ copied in
    let parts : take count (drop told line) ++ drop count (drop told line) ≡ drop told line = take-append-drop count (drop told line) in
    ap (λ l. take done into ++ l) (sym parts) ∙ sym (append_assoc (take done into) (take count (drop told line)) (drop count (drop told line)))
    ∙ ap (λ l. l ++ drop count (drop told line)) (sym put) ∙ ap (λ l. take (done + count) new ++ l) (drop-drop count told line)

-- ---- segments

pub items_whole : (segments : List FileSegment) → items_after segments 0 ≡ items_of segments
items_whole [] = refl
items_whole (s ∷ more) = ap (λ n. items n s.bytes ++ items_of more) (add-zero s.addr)

segment_first : (segments : List FileSegment) (k : ℕ) (s : FileSegment) → slice_get segments k ≡ Some s → drop k segments ≡ s ∷ drop (k + 1) segments
segment_first segments k s h =
    let here : get_or segments k s ≡ s = get_or_from_slice_get segments k s s h in
    let e : suc k ≡ k + 1 = omega arith in
    drop-cons segments k s (slice_get_within segments k s h) ∙ ap (λ t. t ∷ drop (suc k) segments) here ∙ ap (λ n. s ∷ drop n segments) e

-- what is left of this segment, and the segments after it
pub text_split : (segments : List FileSegment) (cursor : Cursor) (s : FileSegment) → slice_get segments cursor.segment ≡ Some s
    → text_left segments cursor ≡ lines_left s.addr s.bytes cursor ++ lines_text (items_of (drop (cursor.segment + 1) segments))
text_split segments cursor s h =
    let line = drop cursor.told cursor.line.items in
    let these = items (s.addr + cursor.at) (drop cursor.at s.bytes) in
    let more = items_of (drop (cursor.segment + 1) segments) in
    ap (λ (left : List FileSegment). line ++ lines_text (items_after left cursor.at)) (segment_first segments cursor.segment s h)
    ∙ ap (λ l. line ++ l) (flat_map-append item_line these more) ∙ sym (append_assoc line (lines_text these) (lines_text more))

-- the segment has no lines left, so the next one begins
pub text_next : (segments : List FileSegment) (cursor next : Cursor) (s : FileSegment) → length s.bytes ≤ cursor.at → next.line ≡ cursor.line → next.told ≡ cursor.told → next.segment ≡ cursor.segment + 1 → next.at ≡ 0
    → lines_left s.addr s.bytes cursor ++ lines_text (items_of (drop (cursor.segment + 1) segments)) ≡ text_left segments next
text_next segments cursor next s done line told segment at =
    let rest = lines_text (items_of (drop (cursor.segment + 1) segments)) in
    let none : lines_left s.addr s.bytes cursor ≡ drop cursor.told cursor.line.items =
    ap (λ l. drop cursor.told cursor.line.items ++ lines_text l) (none_left s.addr cursor.at s.bytes done) ∙ append_nil (drop cursor.told cursor.line.items) in
    ap (λ l. l ++ rest) none
    ∙ ap (λ l. drop cursor.told cursor.line.items ++ lines_text l) (sym (items_whole (drop (cursor.segment + 1) segments)))
    ∙ cc

-- no segment is left
pub text_none : (segments : List FileSegment) (cursor : Cursor) → length segments ≤ cursor.segment → drop cursor.told cursor.line.items ≡ [] → text_left segments cursor ≡ []
text_none segments cursor past whole =
    ap (λ l. l ++ lines_text (items_after (drop cursor.segment segments) cursor.at)) whole ∙ ap (λ (left : List FileSegment). lines_text (items_after left cursor.at)) (drop_all cursor.segment segments past)

-- ---- lines of a segment that are told

steps : (whole before mid after left back : List ℕ) → whole ≡ before ++ (mid ++ back) → before ++ mid ≡ after ++ left → whole ≡ after ++ (left ++ back)
steps whole before mid after left back e h = e ∙ sym (append_assoc before mid back) ∙ ap (λ l. l ++ back) h ∙ append_assoc after left back

pub record IsTold (segments : List FileSegment) (s : FileSegment) (old new : Cursor) (whole before after : List ℕ) : Type 0 where
  pub was : whole ≡ before ++ text_left segments old
  pub found : slice_get segments old.segment ≡ Some s
  pub same : new.segment ≡ old.segment
  pub step : before ++ lines_left s.addr s.bytes old ≡ after ++ lines_left s.addr s.bytes new

now_found : (segments : List FileSegment) (s : FileSegment) (old new : Cursor) (whole before after : List ℕ) → IsTold segments s old new whole before after → slice_get segments new.segment ≡ Some s
now_found segments s old new whole before after t = ap (λ k. slice_get segments k) t.same ∙ t.found

-- the segment has lines left
pub segment_goes_on : (segments : List FileSegment) (s : FileSegment) (old new : Cursor) (whole before after : List ℕ) → IsTold segments s old new whole before after → whole ≡ after ++ text_left segments new
segment_goes_on segments s old new whole before after t =
    let back : List ℕ = lines_text (items_of (drop (old.segment + 1) segments)) in
    steps whole before (lines_left s.addr s.bytes old) after (lines_left s.addr s.bytes new) back (t.was ∙ ap (λ l. before ++ l) (text_split segments old s t.found)) t.step
    ∙ ap (λ k. after ++ (lines_left s.addr s.bytes new ++ lines_text (items_of (drop (k + 1) segments)))) (sym t.same)
    ∙ ap (λ l. after ++ l) (sym (text_split segments new s (now_found segments s old new whole before after t)))

-- it has none
pub segment_ends : (segments : List FileSegment) (s : FileSegment) (old new next : Cursor) (whole before after : List ℕ) → IsTold segments s old new whole before after → length s.bytes ≤ new.at
    → next.line ≡ new.line → next.told ≡ new.told → next.segment ≡ new.segment + 1 → next.at ≡ 0 → whole ≡ after ++ text_left segments next
segment_ends segments s old new next whole before after t done line told segment at =
    segment_goes_on segments s old new whole before after t
    ∙ ap (λ l. after ++ l) (text_split segments new s (now_found segments s old new whole before after t) ∙ text_next segments new next s done line told segment at)
