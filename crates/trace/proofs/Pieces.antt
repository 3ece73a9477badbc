-- The parts of a text, joined and one by one.
use Rattle.std.proofs.Common.{◌≡◌, ℕ, zero, suc, ◌+◌, ◌*◌, ◌/◌, ◌<◌, ◌≤◌, List, [], ◌∷◌, ◌++◌, length, map, take, drop, get_or, Some, Result, Ok, Err, IfOk, refl, sym, ap, ◌∙◌, arith, length-append, take_all, append_assoc}
use Rattle.std.specs.Prelude.{slice_get, Vec}
use Rattle.std.specs.declared.alloc.Global.{Global}
use Rattle.std.specs.List.{range_with_len, concat}
use Rattle.std.specs.Fork.{slice_chunk}
use Rattle.std.specs.Slice.Iter.{chunk_count}
use Rattle.std.proofs.lemmas.Grind.{flat_map-append}
use Rattle.std.proofs.lemmas.List.{append-nil, map-append, length-map, take-append-drop, take-take, drop-take, drop-drop, get_or_append_left, get_or-map, get_or_at}
use Rattle.std.proofs.lemmas.List.Folds.{concat-append}
use Rattle.std.proofs.lemmas.List.FromFn.{get_or-map-range_with_len, length-map-range_with_len}
use Rattle.std.proofs.lemmas.Option.{slice_get-get_or}
use Rattle.history.specs.declared.events.Entry.{Entry}
use Rattle.history.specs.Layout.{Setting}
use Rattle.trace.specs.Text.{text_of_lines, pieces_of, entry_text, entries_text, head_lines, image_lines, end_line, trace_lines, trace_text, trace_parts}

-- the first elements, in two steps
pub take_twice : {A : Type 0} (s m : ℕ) (ys : List A) → take (s + m) ys ≡ take s ys ++ take m (drop s ys)
take_twice s m ys = sym (take-append-drop s (take (s + m) ys)) ∙ ap (λ l. l ++ drop s (take (s + m) ys)) (take-take s (s + m) ys (omega arith)) ∙ ap (λ l. take s ys ++ l) (drop-take s m ys)

-- the lines of pieces in a row
pieces_joined : {A : Type 0} (f : A → List ℕ) (xs : List A) (size a n : ℕ) → concat (map (λ piece. text_of_lines (map f piece)) (map (slice_chunk xs size) (range_with_len a n))) ≡ text_of_lines (map f (take (n * size) (drop (a * size) xs)))
pieces_joined f xs size a zero = let none : zero * size ≡ 0 = omega arith in rw none refl
pieces_joined f xs size a (suc n) =
    let ys = drop (a * size) xs in
    let sizes : suc n * size ≡ size + n * size = omega arith in
    let place : (a + 1) * size ≡ a * size + size = omega arith in
    let rest : drop ((a + 1) * size) xs ≡ drop size ys = ap (λ m. drop m xs) place ∙ sym (drop-drop size (a * size) xs) in
    let later = pieces_joined f xs size (a + 1) n ∙ ap (λ l. text_of_lines (map f (take (n * size) l))) rest in
    ap (λ t. text_of_lines (map f (take size ys)) ++ t) later
    ∙ sym (ap (λ m. text_of_lines (map f (take m ys))) sizes ∙ ap (λ l. text_of_lines (map f l)) (take_twice size (n * size) ys)
    ∙ ap text_of_lines (map-append f (take size ys) (take (n * size) (drop size ys)))
    ∙ flat_map-append (λ line. line ++ 10 ∷ []) (map f (take size ys)) (map f (take (n * size) (drop size ys))))

-- the lines of all entries, from their pieces
entries_joined : (history : List Entry) → concat (map entries_text (pieces_of 1024 history)) ≡ text_of_lines (map entry_text history)
entries_joined history =
    let count = chunk_count (length history) 1024 in
    let enough : length history ≤ count * 1024 = omega arith in
    pieces_joined entry_text history 1024 0 count ∙ ap (λ l. text_of_lines (map entry_text l)) (take_all (count * 1024) history enough)

pub lines_append : (a b : List (List ℕ)) → text_of_lines (a ++ b) ≡ text_of_lines a ++ text_of_lines b
lines_append a b = flat_map-append (λ line. line ++ 10 ∷ []) a b

-- the parts are the text
pub parts_joined : (w : Setting) (history : List Entry) → concat (trace_parts w history) ≡ trace_text w history
unfolding trace_parts trace_lines
parts_joined w history =
    let head = head_lines w in
    let image = image_lines w.image in
    let end = end_line history ∷ [] in
    let middle : concat (map entries_text (pieces_of 1024 history) ++ text_of_lines end ∷ []) ≡ text_of_lines (map entry_text history ++ end) =
    concat-append (map entries_text (pieces_of 1024 history)) (text_of_lines end ∷ [])
    ∙ ap (λ l. l ++ concat (text_of_lines end ∷ [])) (entries_joined history)
    ∙ ap (λ l. text_of_lines (map entry_text history) ++ l) (append-nil (text_of_lines end))
    ∙ sym (lines_append (map entry_text history) end) in
    ap (λ l. text_of_lines (head ++ image) ++ l) middle ∙ sym (lines_append (head ++ image) (map entry_text history ++ end)) ∙ ap text_of_lines (sym (append_assoc (head ++ image) (map entry_text history) end))

-- how many parts there are
pub parts_count : (w : Setting) (history : List Entry) → length (trace_parts w history) ≡ (length history + 1023) / 1024 + 2
unfolding trace_parts
parts_count w history =
    let middle = map entries_text (pieces_of 1024 history) in
    let count : length middle ≡ chunk_count (length history) 1024 = length-map (pieces_of 1024 history) entries_text ∙ length-map-range_with_len (slice_chunk history 1024) 0 (chunk_count (length history) 1024) in
    omega (arith, count, length-append middle (text_of_lines (end_line history ∷ []) ∷ []))

-- the part before the entries
pub part_first : (w : Setting) (history : List Entry) → slice_get (trace_parts w history) 0 ≡ Some (text_of_lines (head_lines w ++ image_lines w.image))
unfolding trace_parts
part_first w history = refl

-- a part of entries
pub part_between : (w : Setting) (history : List Entry) (k piece : ℕ) → k ≡ suc piece → piece < chunk_count (length history) 1024 → slice_get (trace_parts w history) k ≡ Some (text_of_lines (map entry_text (slice_chunk history 1024 piece)))
unfolding trace_parts
part_between w history k piece is inside =
    let f = entries_text in
    let cut = slice_chunk history 1024 in
    let count = chunk_count (length history) 1024 in
    let pieces = pieces_of 1024 history in
    let last = text_of_lines (end_line history ∷ []) ∷ [] in
    let pieces_length : length pieces ≡ count = length-map-range_with_len cut 0 count in
    let length_is : length (map f pieces) ≡ count = length-map pieces f ∙ pieces_length in
    let within : piece < length (map f pieces ++ last) = omega (arith, length_is, inside, length-append (map f pieces) last) in
    let here : get_or (map f pieces ++ last) piece [] ≡ f (cut piece) =
    get_or_append_left (map f pieces) last [] piece (omega (arith, length_is, inside))
    ∙ get_or-map f pieces piece [] [] (omega (arith, pieces_length, inside))
    ∙ ap f (get_or-map-range_with_len cut 0 count piece piece [] inside (omega arith)) in
    rw is (slice_get-get_or (map f pieces ++ last) piece [] within ∙ ap Some here)

-- the part after the entries
pub part_last : (w : Setting) (history : List Entry) (k : ℕ) → k ≡ suc ((length history + 1023) / 1024) → slice_get (trace_parts w history) k ≡ Some (text_of_lines (end_line history ∷ []))
unfolding trace_parts
part_last w history k is =
    let f = entries_text in
    let count = (length history + 1023) / 1024 in
    let pieces = pieces_of 1024 history in
    let last = text_of_lines (end_line history ∷ []) in
    let length_is : length (map f pieces) ≡ count = length-map pieces f ∙ length-map-range_with_len (slice_chunk history 1024) 0 (chunk_count (length history) 1024) ∙ omega arith in
    rw is (slice_get-get_or (map f pieces ++ last ∷ []) count [] (omega (arith, length_is, length-append (map f pieces) (last ∷ []))) ∙ ap Some (get_or_at (map f pieces) last [] [] count length_is))

-- what is made is the part
pub part_made : {E : Type 0} (r : Result (Vec ℕ Global) E) (parts : List (List ℕ)) (k : ℕ) (text : List ℕ) → slice_get parts k ≡ Some text → IfOk r (λ bytes. bytes.items ≡ text) → IfOk r (λ bytes. slice_get parts k ≡ Some bytes.items)
part_made (Ok bytes) parts k text is made = is ∙ ap Some (sym made)
part_made (Err e) parts k text is made = made
