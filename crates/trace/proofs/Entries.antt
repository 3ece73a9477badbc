-- The lines of entries and the last line, behind a head and an image.
use Rattle.std.proofs.Common.{◌≡◌, ℕ, zero, suc, ◌+◌, ◌-◌, ◌<◌, ◌≤◌, min, List, [], ◌∷◌, ◌++◌, length, map, take, drop, get_or, All, refl, sym, ap, ◌∙◌, subst, arith, inl, inr, append_assoc, length-append}
use Rattle.std.specs.Prelude.{◌⊎◌, codes}
use Rattle.std.specs.Fmt.{decimal}
use Rattle.std.specs.List.{AllByRecursion}
use Rattle.std.specs.Slice.Iter.{chunk_count}
use Rattle.std.proofs.lemmas.List.{append-nil, length-map, map-append}
use Rattle.std.proofs.lemmas.List.Elements.{recursion_from_All}
use Rattle.std.proofs.Math.Seq.{take-nil, take-length, take-append-add, take-append_seam}
use Rattle.history.specs.declared.events.Entry.{Entry}
use Rattle.history.specs.Layout.{Setting, IsSetting}
use Rattle.chronicle.specs.Worlds.{Recorded}
use Rattle.trace.specs.Text.{text_of_lines, entry_text, entries_text, head_lines, image_lines, end_line, trace_lines}
use Rattle.trace.specs.Printable.{IsPrintable}
use Rattle.trace.specs.Whole.{IsTraceable, IsTrace, BeginsTrace, LeavesAt}
use Rattle.trace.proofs.Pieces.{lines_append}
use Rattle.trace.proofs.Unique.{regroup, entry_front, entry_first}
use Rattle.trace.proofs.OneTrace.{image_same}
use Rattle.trace.proofs.Begun.{lines_head, lines_count, leaves}
use Rattle.trace.proofs.Images.{body_stands, same_count, image_count, take_lines}

-- what stands behind entries that were read: one more of a longer list, or the last line of this one
abbrev pub Ahead : List Entry → List Entry → List ℕ → List ℕ → List ℕ → Type 0
Ahead es hs last text r = ((e : Entry) × IsPrintable e × (t : List ℕ) × (length es < length hs) × (text ≡ entry_text e ++ 10 ∷ t)) ⊎ ((es ≡ hs) × (text ≡ last ++ 10 ∷ r))

entries_ahead : (es hs : List Entry) (n : ℕ) (last text r : List ℕ) → AllByRecursion IsPrintable es → AllByRecursion IsPrintable hs → suc (min (length es) (length hs)) ≤ n
    → entries_text es ++ text ≡ text_of_lines (take n (map entry_text hs ++ (101 ∷ last) ∷ [])) ++ r → Ahead es hs (101 ∷ last) text r
entries_ahead es hs zero last text r p q some h = absurd (omega (arith, some))
entries_ahead [] [] (suc n) last text r p q some h =
    let line = 101 ∷ last in
    inr (refl, h ∙ ap (λ l. text_of_lines (line ∷ l) ++ r) (take-nil n) ∙ regroup 10 line [] r)
entries_ahead [] (e ∷ hs) (suc n) last text r p q some h =
    let more = text_of_lines (take n (map entry_text hs ++ (101 ∷ last) ∷ [])) in
    inl (e, q.0, more ++ r, omega arith, h ∙ regroup 10 (entry_text e) more r)
entries_ahead (x ∷ es) [] (suc n) last text r p q some h =
    let line = 101 ∷ last in
    let first = entry_first x (10 ∷ (entries_text es ++ text)) p.0 in
    let same = sym (regroup 10 (entry_text x) (entries_text es) text) ∙ h ∙ regroup 10 line (text_of_lines (take n [])) r in
    let here : get_or (entry_text x ++ 10 ∷ (entries_text es ++ text)) 0 0 ≡ 101 = ap (λ l. get_or l 0 0) same in
    absurd (omega (arith, first, here))
entries_ahead (x ∷ es) (y ∷ hs) (suc n) last text r p q some h =
    let more = text_of_lines (take n (map entry_text hs ++ (101 ∷ last) ∷ [])) in
    let same = sym (regroup 10 (entry_text x) (entries_text es) text) ∙ h ∙ regroup 10 (entry_text y) more r in
    let front = entry_front x y (entries_text es ++ text) (more ++ r) p.0 q.0 same in
    elim (entries_ahead es hs n last text r p.1 q.1 (omega (arith, some)) front.1) [
      | inl next ↦ inl (next.0, next.1, next.2, omega (arith, next.3), next.4)
      | inr end ↦ inr (ap (λ z. z ∷ es) front.0 ∙ ap (λ l. y ∷ l) end.0, end.1)
    ]

end_begins : (h : List Entry) → end_line h ≡ 101 ∷ drop 1 (end_line h)
unfolding end_line
end_begins h = refl

-- what stands behind a head and an image, in a trace that begins with them
record RestStands (w : Setting) (kept : Recorded) (text r : List ℕ) (n : ℕ) : Type 0 where
  pub count : length (image_lines w.image) ≡ length (image_lines kept.world.image)
  pub stands : text ≡ text_of_lines (take n (map entry_text kept.entries ++ end_line kept.entries ∷ [])) ++ r

rest_stands : (w : Setting) (kept : Recorded) (whole text r : List ℕ) (n : ℕ) → IsSetting w → IsTraceable kept → whole ≡ text_of_lines (head_lines w ++ image_lines w.image) ++ text
    → whole ≡ text_of_lines (take (4 + (length (image_lines w.image) + n)) (trace_lines kept.world kept.entries)) ++ r → RestStands w kept text r n
rest_stands w kept whole text r n s t is spelled =
    let u = kept.world in
    let image = image_lines w.image in
    let theirs = image_lines u.image in
    let tail = map entry_text kept.entries ++ end_line kept.entries ∷ [] in
    let is_head : whole ≡ text_of_lines (head_lines w) ++ (text_of_lines image ++ text) = is ∙ ap (λ l. l ++ text) (lines_append (head_lines w) image) ∙ append_assoc (text_of_lines (head_lines w)) (text_of_lines image) text in
    let same = body_stands w kept whole (text_of_lines image ++ text) r (length image + n) s t is_head spelled in
    let lengths : length w.image ≡ length u.image = s.image_length ∙ sym (same_count w u s t.setting same.layout) in
    let count : length image ≡ length theirs = image_count w.image ∙ ap (λ m. chunk_count m 32) lengths ∙ sym (image_count u.image) in
    let taken : take (length image + n) (theirs ++ tail) ≡ theirs ++ take n tail = ap (λ m. take (m + n) (theirs ++ tail)) count ∙ take-append-add theirs tail n in
    let stands : text_of_lines image ++ text ≡ text_of_lines theirs ++ (text_of_lines (take n tail) ++ r) =
    same.rest ∙ ap (λ l. text_of_lines l ++ r) taken ∙ ap (λ l. l ++ r) (lines_append theirs (take n tail)) ∙ append_assoc (text_of_lines theirs) (text_of_lines (take n tail)) r in
    record { count = count; stands = (image_same w.image u.image text (text_of_lines (take n tail) ++ r) s.image_bytes t.setting.image_bytes lengths stands).1 }

-- entries that were read behind a head and an image
record Taken (w : Setting) (whole text : List ℕ) (es : List Entry) : Type 0 where
  pub setting : IsSetting w
  pub few : length es ≤ 4000000
  pub printable : All IsPrintable es
  pub spelled : whole ≡ text_of_lines (head_lines w ++ image_lines w.image) ++ (entries_text es ++ text)

next_stands : (w : Setting) (whole text r : List ℕ) (es : List Entry) (kept : Recorded) (n : ℕ) → Taken w whole text es → IsTraceable kept → suc (min (length es) (length kept.entries)) ≤ n
    → whole ≡ text_of_lines (take (4 + (length (image_lines w.image) + n)) (trace_lines kept.world kept.entries)) ++ r → Ahead es kept.entries (end_line kept.entries) text r
next_stands w whole text r es kept n t is some spelled =
    let h = kept.entries in
    let last = drop 1 (end_line h) in
    let rest = rest_stands w kept whole (entries_text es ++ text) r n t.setting is t.spelled spelled in
    let stands = rest.stands ∙ ap (λ l. text_of_lines (take n (map entry_text h ++ l ∷ [])) ++ r) (end_begins h) in
    let ahead = entries_ahead es h n last text r (recursion_from_All IsPrintable es t.printable) (recursion_from_All IsPrintable h is.printable) some stands in
    subst (λ l. Ahead es h l text r) (sym (end_begins h)) ahead

-- the same where the text is a whole trace
record WholeStands (w : Setting) (text : List ℕ) (es : List Entry) (kept : Recorded) : Type 0 where
  pub count : length (trace_lines kept.world kept.entries) ≡ 5 + length (image_lines w.image) + length kept.entries
  pub ahead : Ahead es kept.entries (end_line kept.entries) text []

whole_stands : (w : Setting) (whole text : List ℕ) (es : List Entry) (kept : Recorded) → Taken w whole text es → IsTrace whole kept → WholeStands w text es kept
whole_stands w whole text es kept t is =
    let h = kept.entries in
    let lines = trace_lines kept.world h in
    let image = image_lines w.image in
    let total = lines_count kept.world h in
    let all : whole ≡ text_of_lines lines ++ [] = is.spelled ∙ sym (append-nil (text_of_lines lines)) in
    let is_head : whole ≡ text_of_lines (head_lines w) ++ (text_of_lines image ++ (entries_text es ++ text)) = t.spelled ∙ ap (λ l. l ++ (entries_text es ++ text)) (lines_append (head_lines w) image) ∙ append_assoc (text_of_lines (head_lines w)) (text_of_lines image) (entries_text es ++ text) in
    let body = length (image_lines kept.world.image) + suc (length h) in
    let size : 4 + body ≡ length lines = omega (arith, total) in
    let every : take (4 + body) lines ≡ lines = ap (λ m. take m lines) size ∙ take-length lines in
    let same = body_stands w kept whole (text_of_lines image ++ (entries_text es ++ text)) [] body t.setting is.traceable is_head (all ∙ ap (λ l. text_of_lines l ++ []) (sym every)) in
    let lengths : length w.image ≡ length kept.world.image = t.setting.image_length ∙ sym (same_count w kept.world t.setting is.traceable.setting same.layout) in
    let count : length image ≡ length (image_lines kept.world.image) = image_count w.image ∙ ap (λ m. chunk_count m 32) lengths ∙ sym (image_count kept.world.image) in
    let mine : 4 + (length image + suc (length h)) ≡ length lines = omega (arith, total, count) in
    let taken : take (4 + (length image + suc (length h))) lines ≡ lines = ap (λ m. take m lines) mine ∙ take-length lines in
    record {
      count = omega (arith, total, count);
      ahead = next_stands w whole text [] es kept (suc (length h)) t is.traceable (omega arith) (all ∙ ap (λ l. text_of_lines l ++ []) (sym taken));
    }

-- some trace begins with the lines of entries that were read
begins_entries : (w : Setting) (whole text : List ℕ) (es : List Entry) → Taken w whole text es → BeginsTrace whole (4 + (length (image_lines w.image) + length es))
begins_entries w whole text es t =
    let image = image_lines w.image in
    let entries = map entry_text es in
    let end = end_line es ∷ [] in
    let front = head_lines w ++ image in
    let size : length entries ≡ length es = length-map es entry_text in
    let inner : take (length es) (entries ++ end) ≡ entries = ap (λ m. take m (entries ++ end)) (sym size) ∙ take-append_seam entries end in
    let taken : take (4 + (length image + length es)) (trace_lines w es) ≡ front ++ entries =
    take_lines w es (length image + length es) ∙ ap (λ l. head_lines w ++ l) (take-append-add image (entries ++ end) (length es) ∙ ap (λ l. image ++ l) inner) ∙ sym (append_assoc (head_lines w) image entries) in
    record {
      kept = record { world = w; entries = es };
      traceable = record { setting = t.setting; few = t.few; printable = t.printable };
      enough = omega (arith, lines_count w es);
      rest = text;
      spelled = t.spelled ∙ sym (append_assoc (text_of_lines front) (entries_text es) text) ∙ ap (λ l. l ++ text) (sym (lines_append front entries)) ∙ ap (λ l. text_of_lines l ++ text) (sym taken);
    }

-- a line that is neither an entry's nor the end's
pub leaves_entries : (w : Setting) (whole text : List ℕ) (es : List Entry) → IsSetting w → All IsPrintable es → length es ≤ 4000000 → whole ≡ text_of_lines (head_lines w ++ image_lines w.image) ++ (entries_text es ++ text)
    → ((e : Entry) (t : List ℕ) → IsPrintable e → length es < 4000000 → text ≡ entry_text e ++ 10 ∷ t → ⊥) → ((r : List ℕ) → text ≡ end_line es ++ 10 ∷ r → ⊥)
    → (line : ℕ) → line ≡ 5 + length (image_lines w.image) + length es → LeavesAt whole line
leaves_entries w whole text es s printable few is no_entry no_end line number =
    let k = length (image_lines w.image) in
    let t : Taken w whole text es = record { setting = s; few = few; printable = printable; spelled = is } in
    let next : suc (4 + (k + length es)) ≡ 4 + (k + suc (length es)) = omega arith in
    let here : BeginsTrace whole (4 + (k + suc (length es))) → ⊥ = λ b.
    elim (next_stands w whole text b.rest es b.kept (suc (length es)) t b.traceable (omega arith) b.spelled) [
      | inl more ↦ no_entry more.0 more.2 more.1 (let most = b.traceable.few in omega (arith, more.3, most)) more.4
      | inr end ↦ no_end b.rest (end.1 ∙ ap (λ l. end_line l ++ 10 ∷ b.rest) (sym end.0))
    ] in
    let left = leaves whole (4 + (k + length es)) (begins_entries w whole text es t) (λ b. here (subst (BeginsTrace whole) next b))
    (λ kept whole_is.
    let stands = whole_stands w whole text es kept t whole_is in
    elim stands.ahead [
      | inl more ↦ omega (arith, stands.count, more.3)
      | inr end ↦ omega (arith, stands.count, ap length end.0)
    ]) in
    let same : suc (4 + (k + length es)) ≡ line = omega (arith, number) in
    subst (LeavesAt whole) same left

-- no entry begins as the end's line does
pub no_entry_ends : (e : Entry) (es : List Entry) (t r : List ℕ) → IsPrintable e → entry_text e ++ 10 ∷ t ≡ end_line es ++ 10 ∷ r → ⊥
no_entry_ends e es t r p h =
    let first = entry_first e (10 ∷ t) p in
    let here : get_or (entry_text e ++ 10 ∷ t) 0 0 ≡ 101 = ap (λ l. get_or l 0 0) (h ∙ ap (λ l. l ++ 10 ∷ r) (end_begins es)) in
    omega (arith, first, here)

-- something stands behind the end's line
pub leaves_end : (w : Setting) (whole text rest : List ℕ) (es : List Entry) → IsSetting w → All IsPrintable es → length es ≤ 4000000 → whole ≡ text_of_lines (head_lines w ++ image_lines w.image) ++ (entries_text es ++ text)
    → text ≡ end_line es ++ 10 ∷ rest → 0 < length rest → (line : ℕ) → line ≡ 6 + length (image_lines w.image) + length es → LeavesAt whole line
leaves_end w whole text rest es s printable few is ends some line number =
    let image = image_lines w.image in
    let k = length image in
    let lines = trace_lines w es in
    let t : Taken w whole text es = record { setting = s; few = few; printable = printable; spelled = is } in
    let total = lines_count w es in
    let back : line - 1 ≡ length lines = omega (arith, number, total) in
    let front = head_lines w ++ image in
    let all_lines : lines ≡ front ++ (map entry_text es ++ end_line es ∷ []) = lines_head w es ∙ sym (append_assoc (head_lines w) image (map entry_text es ++ end_line es ∷ [])) in
    let tail : entries_text es ++ text ≡ text_of_lines (map entry_text es ++ end_line es ∷ []) ++ rest =
    ap (λ l. entries_text es ++ l) (ends ∙ sym (regroup 10 (end_line es) [] rest)) ∙ sym (append_assoc (entries_text es) (text_of_lines (end_line es ∷ [])) rest) ∙ ap (λ l. l ++ rest) (sym (lines_append (map entry_text es) (end_line es ∷ []))) in
    let spelled : whole ≡ text_of_lines lines ++ rest =
    is ∙ ap (λ l. text_of_lines front ++ l) tail ∙ sym (append_assoc (text_of_lines front) (text_of_lines (map entry_text es ++ end_line es ∷ [])) rest)
    ∙ ap (λ l. l ++ rest) (sym (lines_append front (map entry_text es ++ end_line es ∷ []))) ∙ ap (λ l. text_of_lines l ++ rest) (sym all_lines) in
    let next : line ≡ 4 + (k + suc (suc (length es))) = omega (arith, number) in
    let before : BeginsTrace whole (length lines) = record {
      kept = record { world = w; entries = es };
      traceable = record { setting = s; few = few; printable = printable };
      enough = omega arith;
      rest = rest;
      spelled = spelled ∙ ap (λ l. text_of_lines l ++ rest) (sym (take-length lines));
    } in
    record {
      from = omega (arith, number);
      before = subst (BeginsTrace whole) (sym back) before;
      here = λ b.
          let stands = ap (λ m. text_of_lines (take m (trace_lines b.kept.world b.kept.entries)) ++ b.rest) next in
          elim (next_stands w whole text b.rest es b.kept (suc (suc (length es))) t b.traceable (omega arith) (b.spelled ∙ stands)) [
            | inl more ↦ no_entry_ends more.0 es more.2 rest more.1 (sym more.4 ∙ ends)
            | inr end ↦
                let same = rest_stands w b.kept whole (entries_text es ++ text) b.rest (suc (suc (length es))) s b.traceable is (b.spelled ∙ stands) in
                let enough = b.enough in
                omega (arith, enough, lines_count b.kept.world b.kept.entries, same.count, ap length end.0, number)
          ];
      none = λ kept whole_is.
          let stands = whole_stands w whole text es kept t whole_is in
          elim stands.ahead [
            | inl more ↦ no_entry_ends more.0 es more.2 rest more.1 (sym more.4 ∙ ends)
            | inr end ↦
                let same : end_line es ++ 10 ∷ rest ≡ end_line es ++ 10 ∷ [] = sym ends ∙ end.1 ∙ ap (λ l. end_line l ++ 10 ∷ []) (sym end.0) in
                omega (arith, some, ap length same, length-append (end_line es) (10 ∷ rest), length-append (end_line es) (10 ∷ []))
          ];
    }

-- one entry more
pub entries_more : (es : List Entry) (e : Entry) (text left rest : List ℕ) → text ≡ entries_text es ++ left → left ≡ entry_text e ++ 10 ∷ rest → text ≡ entries_text (es ++ e ∷ []) ++ rest
entries_more es e text left rest is next =
    is ∙ ap (λ l. entries_text es ++ l) (next ∙ sym (regroup 10 (entry_text e) [] rest)) ∙ sym (append_assoc (entries_text es) (text_of_lines (entry_text e ∷ [])) rest)
    ∙ ap (λ l. l ++ rest) (sym (lines_append (map entry_text es) (entry_text e ∷ [])) ∙ ap text_of_lines (sym (map-append entry_text es (e ∷ []))))

-- the last line by its number
pub end_is : (es : List Entry) (count : ℕ) → count ≡ length es → codes "end " ++ decimal count ≡ end_line es
unfolding end_line
end_is es count is = ap (λ n. codes "end " ++ decimal n) is
