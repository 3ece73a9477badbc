-- Tests one after the other.
use Rattle.std.proofs.Common.{◌≡◌, ℕ, suc, ◌+◌, Bool, true, false, ◌<◌, ◌≤◌, List, [], ◌∷◌, ◌++◌, length, take, drop, Option, Some, None, refl, sym, ap, subst, ◌∙◌, append_assoc, add-zero, arith}
use Rattle.std.specs.Option.{option_or, option_map}
use Rattle.std.specs.Prelude.{All, slice_get, find, if◌then◌else◌, Result, Ok, Err, OnOk, IfErr}
use Rattle.std.proofs.lemmas.List.{append-nil, take_more, take-append-drop, length-take-le}
use Rattle.std.proofs.lemmas.Option.{slice_get_within, get_or_from_slice_get}
use Rattle.history.specs.Layout.{Layout}
use Rattle.elf32.specs.Files.{FileSegment, Executable}
use Rattle.loader.specs.declared.faults.PlaceFault.{PlaceFault}
use Rattle.loader.specs.declared.faults.PlaceFault.TheVariants.{OutsideMemory, Overlap, EntryOutside, Memory}
use Rattle.loader.specs.declared.spans.Span.{Span}
use Rattle.loader.specs.declared.placing.Placing.{Placing}
use Rattle.loader.specs.Placing.{is_entry, Holds, segment_fault, is_inside, overlaps, Test, fault_of, first_misplaced, spans, segments, entries, span, segment_tests, tests_of}
use Rattle.loader.specs.Placing.Test.{TrySegment, TryEntry}
use Rattle.loader.specs.Steps.{Passed, Fails, Outcome, Writes}
use Rattle.loader.proofs.Image.{holds_more}

none_or : {X : Type 0} (x : Option X) → option_or x None ≡ x
none_or None = refl
none_or (Some x) = refl

or_assoc : {X : Type 0} (x y z : Option X) → option_or x (option_or y z) ≡ option_or (option_or x y) z
or_assoc None y z = refl
or_assoc (Some x) y z = refl

pub no_test : (l : Layout) (before : List Test) → first_misplaced l before [] ≡ None
unfolding first_misplaced
no_test l before = refl

one_test : (l : Layout) (before : List Test) (t : Test) (rest : List Test) → first_misplaced l before (t ∷ rest) ≡ option_or (fault_of l before t) (first_misplaced l (before ++ t ∷ []) rest)
unfolding first_misplaced
one_test l before t rest = refl

pub first_misplaced-append : (l : Layout) (before a b : List Test) → first_misplaced l before (a ++ b) ≡ option_or (first_misplaced l before a) (first_misplaced l (before ++ a) b)
first_misplaced-append l before [] b =
    ap (λ (e : List Test). first_misplaced l e b) (sym (append-nil before))
    ∙ ap (λ (x : Option PlaceFault). option_or x (first_misplaced l (before ++ []) b)) (sym (no_test l before))
first_misplaced-append l before (t ∷ a) b =
    one_test l before t (a ++ b)
    ∙ ap (λ (x : Option PlaceFault). option_or (fault_of l before t) x) (first_misplaced-append l (before ++ t ∷ []) a b)
    ∙ ap (λ (e : List Test). option_or (fault_of l before t) (option_or (first_misplaced l (before ++ t ∷ []) a) (first_misplaced l e b))) (append_assoc before (t ∷ []) a)
    ∙ or_assoc (fault_of l before t) (first_misplaced l (before ++ t ∷ []) a) (first_misplaced l (before ++ t ∷ a) b)
    ∙ ap (λ (x : Option PlaceFault). option_or x (first_misplaced l (before ++ t ∷ a) b)) (sym (one_test l before t a))

-- where the tests so far have passed, the next one decides
pub next_test : (l : Layout) (done : List Test) (t : Test) → first_misplaced l [] done ≡ None → first_misplaced l [] (done ++ t ∷ []) ≡ fault_of l done t
next_test l done t sound =
    first_misplaced-append l [] done (t ∷ [])
    ∙ ap (λ (x : Option PlaceFault). option_or x (first_misplaced l done (t ∷ []))) sound
    ∙ one_test l done t []
    ∙ ap (λ (x : Option PlaceFault). option_or (fault_of l done t) x) (no_test l (done ++ t ∷ []))
    ∙ none_or (fault_of l done t)

-- a fault that was found stays the first
pub stays_first : (l : Layout) (a b : List Test) (fault : PlaceFault) → first_misplaced l [] a ≡ Some fault → first_misplaced l [] (a ++ b) ≡ Some fault
stays_first l a b fault found =
    first_misplaced-append l [] a b ∙ ap (λ (x : Option PlaceFault). option_or x (first_misplaced l a b)) found

pub fails_with : (fault : PlaceFault) (l : Layout) (ts : List Test) → first_misplaced l [] ts ≡ Some fault → Fails fault l ts
fails_with Memory l ts found = tt
fails_with (OutsideMemory a s) l ts found = found
fails_with (Overlap a s w x) l ts found = found
fails_with (EntryOutside a) l ts found = found

pub fails_more : (fault : PlaceFault) (l : Layout) (a b : List Test) → Fails fault l a → Fails fault l (a ++ b)
fails_more Memory l a b fails = tt
fails_more (OutsideMemory x s) l a b fails = stays_first l a b (OutsideMemory x s) fails
fails_more (Overlap x s w y) l a b fails = stays_first l a b (Overlap x s w y) fails
fails_more (EntryOutside x) l a b fails = stays_first l a b (EntryOutside x) fails

pub spans-append : (a b : List Test) → spans (a ++ b) ≡ spans a ++ spans b
spans-append [] b = refl
spans-append (TrySegment app number s ∷ a) b = ap (λ (xs : List Span). span app number s ∷ xs) (spans-append a b)
spans-append (TryEntry app entry ∷ a) b = spans-append a b

pub segments-append : (a b : List Test) → segments (a ++ b) ≡ segments a ++ segments b
segments-append [] b = refl
segments-append (TrySegment app number s ∷ a) b = ap (λ (xs : List FileSegment). s ∷ xs) (segments-append a b)
segments-append (TryEntry app entry ∷ a) b = segments-append a b

pub entries-append : (a b : List Test) → entries (a ++ b) ≡ entries a ++ entries b
entries-append [] b = refl
entries-append (TrySegment app number s ∷ a) b = entries-append a b
entries-append (TryEntry app entry ∷ a) b = ap (λ (xs : List ℕ). entry ∷ xs) (entries-append a b)

pub segment_tests-append : (app number : ℕ) (a b : List FileSegment) → segment_tests app number (a ++ b) ≡ segment_tests app number a ++ segment_tests app (number + length a) b
segment_tests-append app number [] b = ap (λ (n : ℕ). segment_tests app n b) (sym (add-zero number))
segment_tests-append app number (s ∷ a) b =
    let count : number + 1 + length a ≡ number + length (s ∷ a) = omega arith in
    ap (λ (ts : List Test). TrySegment app number s ∷ ts) (segment_tests-append app (number + 1) a b)
    ∙ ap (λ (n : ℕ). TrySegment app number s ∷ (segment_tests app (number + 1) a ++ segment_tests app n b)) count

pub tests_of-append : (app : ℕ) (a b : List Executable) → tests_of app (a ++ b) ≡ tests_of app a ++ tests_of (app + length a) b
tests_of-append app [] b = ap (λ (n : ℕ). tests_of n b) (sym (add-zero app))
tests_of-append app (x ∷ a) b =
    let count : app + 1 + length a ≡ app + length (x ∷ a) = omega arith in
    let own : List Test = segment_tests app 0 x.segments in
    ap (λ (ts : List Test). own ++ TryEntry app x.entry ∷ ts) (tests_of-append (app + 1) a b)
    ∙ ap (λ (n : ℕ). own ++ TryEntry app x.entry ∷ (tests_of (app + 1) a ++ tests_of n b)) count
    ∙ sym (append_assoc own (TryEntry app x.entry ∷ tests_of (app + 1) a) (tests_of (app + length (x ∷ a)) b))

-- the tests of the segments up to the one at k
pub up_to_segment : (app k : ℕ) (ss : List FileSegment) (s : FileSegment) → slice_get ss k ≡ Some s → segment_tests app 0 (take (k + 1) ss) ≡ segment_tests app 0 (take k ss) ++ TrySegment app k s ∷ []
up_to_segment app k ss s at =
    let below : k < length ss = slice_get_within ss k s at in
    let count : 0 + length (take k ss) ≡ k = omega (arith, length-take-le k ss (omega (arith, below))) in
    ap (segment_tests app 0) (take_more ss k s below ∙ ap (λ (t : FileSegment). take k ss ++ t ∷ []) (get_or_from_slice_get ss k s s at))
    ∙ segment_tests-append app 0 (take k ss) (s ∷ [])
    ∙ ap (λ (n : ℕ). segment_tests app 0 (take k ss) ++ TrySegment app n s ∷ []) count

pub next_segment : (done : List Test) (app k : ℕ) (ss : List FileSegment) (s : FileSegment) → slice_get ss k ≡ Some s → done ++ segment_tests app 0 (take k ss) ++ TrySegment app k s ∷ [] ≡ done ++ segment_tests app 0 (take (k + 1) ss)
next_segment done app k ss s at =
    append_assoc done (segment_tests app 0 (take k ss)) (TrySegment app k s ∷ []) ∙ ap (λ (ts : List Test). done ++ ts) (sym (up_to_segment app k ss s at))

-- a fault at the segment at k is the first of all segments
pub fails_at_segment : (fault : PlaceFault) (l : Layout) (done : List Test) (app k : ℕ) (ss : List FileSegment) (s : FileSegment) → slice_get ss k ≡ Some s
    → Fails fault l (done ++ segment_tests app 0 (take k ss) ++ TrySegment app k s ∷ []) → Fails fault l (done ++ segment_tests app 0 ss)
fails_at_segment fault l done app k ss s at fails =
    let front = take (k + 1) ss in
    let back = segment_tests app (0 + length front) (drop (k + 1) ss) in
    let here : Fails fault l (done ++ segment_tests app 0 front) = subst (λ (ts : List Test). Fails fault l ts) (next_segment done app k ss s at) fails in
    let all : segment_tests app 0 front ++ back ≡ segment_tests app 0 ss = sym (segment_tests-append app 0 front (drop (k + 1) ss)) ∙ ap (segment_tests app 0) (take-append-drop (k + 1) ss) in
    let whole : (done ++ segment_tests app 0 front) ++ back ≡ done ++ segment_tests app 0 ss = append_assoc done (segment_tests app 0 front) back ∙ ap (λ (ts : List Test). done ++ ts) all in
    subst (λ (ts : List Test). Fails fault l ts) whole (fails_more fault l (done ++ segment_tests app 0 front) back here)

-- the end of a step that can fail for memory alone
pub outcome_of : (l : Layout) (ts : List Test) (state : Placing) (r : Result (Unit {0}) PlaceFault) → OnOk r (Passed l ts state) → IfErr r (λ fault. fault ≡ Memory) → Outcome l ts state r
outcome_of l ts state (Ok x) passed err = passed
outcome_of l ts state (Err Memory) passed err = tt
outcome_of l ts state (Err (OutsideMemory a s)) passed err = absurd cc
outcome_of l ts state (Err (Overlap a s w x)) passed err = absurd cc
outcome_of l ts state (Err (EntryOutside a)) passed err = absurd cc

-- a segment without a fault lies in memory, and overlaps none before
pub no_fault : (l : Layout) (earlier : List Span) (s : Span) → segment_fault l earlier s ≡ None → (is_inside l s ≡ true) × (find (λ e. overlaps e s) earlier ≡ None)
no_fault l earlier s none = parts (is_inside l s) (find (λ e. overlaps e s) earlier) none
  where
    parts : (inside : Bool) (found : Option Span) → (if inside then option_map (λ e. Overlap s.app s.segment e.app e.segment) found else Some (OutsideMemory s.app s.segment)) ≡ None → (inside ≡ true) × (found ≡ None)
    parts true None h = (refl, refl)
    parts true (Some e) h = absurd cc
    parts false found h = absurd cc

-- a segment that is put has passed
pub segment_passed : (l : Layout) (done : List Test) (app number : ℕ) (s : FileSegment) (old new : Placing) (r : Result (Unit {0}) PlaceFault)
    → Passed l done old → segment_fault l (spans done) (span app number s) ≡ None → length s.bytes ≤ s.size
    → OnOk r (new.spans.items ≡ old.spans.items ++ span app number s ∷ []) → OnOk r (new.entries.items ≡ old.entries.items) → OnOk r (Writes l.base s.addr s.bytes old.image.items new.image.items)
    → OnOk r (Passed l (done ++ TrySegment app number s ∷ []) new)
segment_passed l done app number s old new (Err e) passed free fits put_span same_entries writes = tt
segment_passed l done app number s old new (Ok x) passed free fits put_span same_entries writes =
    let t = TrySegment app number s in
    let sound = no_fault l (spans done) (span app number s) free in
    record {
      sound = next_test l done t passed.sound ∙ free;
      spans_are = put_span ∙ ap (λ (xs : List Span). xs ++ span app number s ∷ []) passed.spans_are ∙ sym (spans-append done (t ∷ []));
      entries_are = same_entries ∙ passed.entries_are ∙ sym (append-nil (entries done)) ∙ sym (entries-append done (t ∷ []));
      entries_fit = subst (λ (es : List ℕ). All (λ e. is_entry l e ≡ true) es) (sym (append-nil (entries done)) ∙ sym (entries-append done (t ∷ []))) passed.entries_fit;
      image_holds = subst (λ (ss : List FileSegment). Holds l new.image.items ss) (sym (segments-append done (t ∷ [])))
          (holds_more l old.image.items new.image.items done app number s passed.image_holds sound.0 sound.1 fits writes);
    }

segments_have_no_entry : (app number : ℕ) (ss : List FileSegment) → entries (segment_tests app number ss) ≡ []
segments_have_no_entry app number [] = refl
segments_have_no_entry app number (s ∷ ss) = segments_have_no_entry app (number + 1) ss

-- one entry for each application
pub length-entries : (app : ℕ) (xs : List Executable) → length (entries (tests_of app xs)) ≡ length xs
length-entries app [] = refl
length-entries app (x ∷ xs) =
    ap length (entries-append (segment_tests app 0 x.segments) (TryEntry app x.entry ∷ tests_of (app + 1) xs))
    ∙ ap (λ (es : List ℕ). length (es ++ x.entry ∷ entries (tests_of (app + 1) xs))) (segments_have_no_entry app 0 x.segments)
    ∙ ap suc (length-entries (app + 1) xs)
