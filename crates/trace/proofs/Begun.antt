-- The first lines of a trace: what they say, and that a trace begins with them.
use Rattle.std.proofs.Common.{◌≡◌, ◌==◌, ℕ, suc, ◌+◌, ◌-◌, ◌<◌, ◌≤◌, Bool, true, false, List, [], ◌∷◌, ◌++◌, length, map, take, drop, get_or, codes, refl, sym, ap, ◌∙◌, subst, arith, inl, inr, append_assoc, length-append}
use Rattle.std.specs.Prelude.{replicate, nat_lt, not}
use Rattle.std.proofs.Math.Bool.{beq}
use Rattle.std.proofs.lemmas.Bool.{false≢true, cases_Bool, cases_lt, cond-true, cond-false, eqb-false, eq-eqb, ne_eqb, lt-ltb, le-ltb}
use Rattle.std.proofs.lemmas.List.{append-nil, length-map, length-replicate}
use Rattle.std.proofs.lemmas.List.Elements.{All-nil, All-replicate}
use Rattle.std.proofs.Math.Seq.{take-length}
use Rattle.history.specs.declared.events.Entry.{Entry}
use Rattle.history.specs.declared.ranges.Range.{Range}
use Rattle.history.specs.Attested.{AreApart, IsRanges, last_end}
use Rattle.history.specs.Layout.{Layout, Setting, IsLayout, IsSetting, byte_count}
use Rattle.chronicle.specs.Settings.{setting_of}
use Rattle.chronicle.specs.Worlds.{Recorded}
use Rattle.trace.specs.Text.{text_of_lines, entry_text, version_line, memory_line, attest_line, cap_line, head_lines, image_lines, end_line, trace_lines}
use Rattle.trace.specs.Printable.{IsPrintable}
use Rattle.trace.specs.HeadReading.{version_word}
use Rattle.trace.specs.Whole.{IsTraceable, IsTrace, BeginsTrace, LeavesAt}
use Rattle.trace.proofs.Pieces.{take_twice, lines_append}
use Rattle.trace.proofs.Unique.{regroup, same_front}
use Rattle.trace.proofs.OneTrace.{memory_front, version_length, ranges_front, ranges_low, head_regroup}

-- the lines behind the head
abbrev pub body_lines : Setting → List Entry → List (List ℕ)
body_lines w h = image_lines w.image ++ (map entry_text h ++ end_line h ∷ [])

pub lines_are : (w : Setting) (h : List Entry) → trace_lines w h ≡ version_line w.ranges ∷ memory_line w.layout ∷ attest_line w.ranges ∷ cap_line w.cap ∷ body_lines w h
unfolding trace_lines head_lines
lines_are w h = ap (λ l. version_line w.ranges ∷ memory_line w.layout ∷ attest_line w.ranges ∷ cap_line w.cap ∷ l) (append_assoc (image_lines w.image) (map entry_text h) (end_line h ∷ []))

pub lines_head : (w : Setting) (h : List Entry) → trace_lines w h ≡ head_lines w ++ body_lines w h
unfolding trace_lines
lines_head w h = append_assoc (head_lines w ++ image_lines w.image) (map entry_text h) (end_line h ∷ []) ∙ append_assoc (head_lines w) (image_lines w.image) (map entry_text h ++ end_line h ∷ [])

pub lines_count : (w : Setting) (h : List Entry) → length (trace_lines w h) ≡ 5 + length (image_lines w.image) + length h
lines_count w h =
    let image = image_lines w.image in
    let entries = map entry_text h in
    omega (arith, ap length (lines_are w h), length-append image (entries ++ end_line h ∷ []), length-append entries (end_line h ∷ []), length-map h entry_text)

-- a whole trace is its lines
pub trace_begins : (text : List ℕ) (kept : Recorded) → IsTrace text kept → (n : ℕ) → n ≡ length (trace_lines kept.world kept.entries) → BeginsTrace text n
trace_begins text kept is n count =
    let lines = trace_lines kept.world kept.entries in
    record {
      kept = kept;
      traceable = is.traceable;
      enough = omega (arith, count);
      rest = [];
      spelled = is.spelled ∙ ap text_of_lines (sym (ap (λ m. take m lines) count ∙ take-length lines)) ∙ sym (append-nil (text_of_lines (take n lines)));
    }

-- fewer lines begin the same trace
pub begins_less : (text : List ℕ) (m n : ℕ) → m ≤ n → BeginsTrace text n → BeginsTrace text m
begins_less text m n less b =
    let lines = trace_lines b.kept.world b.kept.entries in
    let more = take (n - m) (drop m lines) in
    let sum : m + (n - m) ≡ n = omega (arith, less) in
    let cut : take n lines ≡ take m lines ++ more = ap (λ k. take k lines) (sym sum) ∙ take_twice m (n - m) lines in
    record {
      kept = b.kept;
      traceable = b.traceable;
      enough = omega (arith, less, b.enough);
      rest = text_of_lines more ++ b.rest;
      spelled = b.spelled ∙ ap (λ l. text_of_lines l ++ b.rest) cut ∙ ap (λ l. l ++ b.rest) (lines_append (take m lines) more) ∙ append_assoc (text_of_lines (take m lines)) (text_of_lines more) b.rest;
    }

-- it is left where no trace begins with that line, and none ends before it
pub leaves : (text : List ℕ) (n : ℕ) → BeginsTrace text n → (BeginsTrace text (suc n) → ⊥) → ((kept : Recorded) → IsTrace text kept → suc n ≤ length (trace_lines kept.world kept.entries)) → LeavesAt text (suc n)
leaves text n before here longer =
    let back : suc n - 1 ≡ n = omega arith in
    record {
      from = omega arith;
      before = subst (BeginsTrace text) (sym back) before;
      here = here;
      none = λ kept is. here (begins_less text (suc n) (length (trace_lines kept.world kept.entries)) (longer kept is) (trace_begins text kept is (length (trace_lines kept.world kept.entries)) refl));
    }

-- a trace with no entry and an image of zeros
abbrev pub plain : Layout → List Range → ℕ → Recorded
plain l ranges cap = record { world = setting_of l ranges (replicate (byte_count l) 0) cap; entries = [] }

pub plain_setting : (l : Layout) (ranges : List Range) (cap : ℕ) → IsLayout l → IsRanges ranges → last_end ranges ≤ l.blocks → 1 ≤ cap → cap ≤ 4000000 → IsSetting (setting_of l ranges (replicate (byte_count l) 0) cap)
plain_setting l ranges cap layout is inside some few = record {
  layout = layout;
  ranges = is;
  inside = inside;
  image_length = length-replicate (byte_count l) 0;
  image_bytes = All-replicate (λ byte. byte < 256) (byte_count l) 0 (omega arith);
  some_entry = some;
  few_entries = few;
}

pub plain_traceable : (l : Layout) (ranges : List Range) (cap : ℕ) → IsLayout l → IsRanges ranges → last_end ranges ≤ l.blocks → 1 ≤ cap → cap ≤ 4000000 → IsTraceable (plain l ranges cap)
plain_traceable l ranges cap layout is inside some few = record {
  setting = plain_setting l ranges cap layout is inside some few;
  few = omega arith;
  printable = All-nil IsPrintable;
}

-- ranges of either kind that any memory with room for them has
abbrev pub first_ranges : Bool → List Range
first_ranges true = (record { first = 0; attested = 1 }) ∷ (record { first = 2; attested = 1 }) ∷ []
first_ranges false = (record { first = 0; attested = 1 }) ∷ []

first_are : (several : Bool) → IsRanges (first_ranges several)
first_are true = record { some = omega arith; few = omega arith; apart = (omega arith, omega arith, omega arith); low = omega arith }
first_are false = record { some = omega arith; few = omega arith; apart = omega arith; low = omega arith }

first_word : (several : Bool) → version_line (first_ranges several) ≡ version_word several
first_word true = refl
first_word false = refl

first_inside : (several : Bool) (l : Layout) → IsLayout l → (several ≡ true → 3 ≤ l.blocks) → last_end (first_ranges several) ≤ l.blocks
first_inside true l layout room = omega (arith, room refl)
first_inside false l layout room = omega (arith, layout.some_block)

-- the smallest memory with room for both
small_layout : Layout
small_layout = record { base = 0; size = 16; blocks = 3 }

small_is : IsLayout small_layout
unfolding small_layout
small_is = record {
  block_size = (4, omega arith, omega arith, refl);
  some_block = omega arith;
  few_blocks = omega arith;
  few_bytes = omega arith;
  on_block = refl;
  in_space = omega arith;
}

-- a trace of either kind
kind : Bool → Recorded
kind several = plain small_layout (first_ranges several) 1

kind_is : (several : Bool) → IsTraceable (kind several)
unfolding kind small_layout
kind_is several = plain_traceable small_layout (first_ranges several) 1 small_is (first_are several) (first_inside several small_layout small_is (λ _. omega arith)) (omega arith) (omega arith)

-- each text begins a trace with none of its lines
pub begins_0 : (text : List ℕ) → BeginsTrace text 0
begins_0 text = record { kept = kind false; traceable = kind_is false; enough = omega arith; rest = text; spelled = refl }

pub begins_1 : (several : Bool) (text rest : List ℕ) → text ≡ version_word several ++ 10 ∷ rest → BeginsTrace text 1
unfolding kind
begins_1 several text rest is =
    let k = kind several in
    record {
      kept = k;
      traceable = kind_is several;
      enough = omega (arith, lines_count k.world k.entries);
      rest = rest;
      spelled = is ∙ ap (λ v. v ++ 10 ∷ rest) (sym (first_word several)) ∙ sym (regroup 10 (version_line k.world.ranges) [] rest) ∙ ap (λ l. text_of_lines (take 1 l) ++ rest) (sym (lines_are k.world k.entries));
    }

two_lines : (a b r : List ℕ) → text_of_lines (a ∷ b ∷ []) ++ r ≡ a ++ 10 ∷ (b ++ 10 ∷ r)
two_lines a b r = regroup 10 a (text_of_lines (b ∷ [])) r ∙ ap (λ t. a ++ 10 ∷ t) (regroup 10 b [] r)

three_lines : (a b c r : List ℕ) → text_of_lines (a ∷ b ∷ c ∷ []) ++ r ≡ a ++ 10 ∷ (b ++ 10 ∷ (c ++ 10 ∷ r))
three_lines a b c r = regroup 10 a (text_of_lines (b ∷ c ∷ [])) r ∙ ap (λ t. a ++ 10 ∷ t) (two_lines b c r)

four_lines : (a b c d r : List ℕ) → text_of_lines (a ∷ b ∷ c ∷ d ∷ []) ++ r ≡ a ++ 10 ∷ (b ++ 10 ∷ (c ++ 10 ∷ (d ++ 10 ∷ r)))
four_lines a b c d r = regroup 10 a (text_of_lines (b ∷ c ∷ d ∷ [])) r ∙ ap (λ t. a ++ 10 ∷ t) (three_lines b c d r)

pub begins_2 : (several : Bool) (l : Layout) (text rest : List ℕ) → IsLayout l → (several ≡ true → 3 ≤ l.blocks) → text ≡ version_word several ++ 10 ∷ (memory_line l ++ 10 ∷ rest) → BeginsTrace text 2
begins_2 several l text rest layout room is =
    let ranges = first_ranges several in
    let k = plain l ranges 1 in
    record {
      kept = k;
      traceable = plain_traceable l ranges 1 layout (first_are several) (first_inside several l layout room) (omega arith) (omega arith);
      enough = omega (arith, lines_count k.world k.entries);
      rest = rest;
      spelled = is ∙ ap (λ v. v ++ 10 ∷ (memory_line l ++ 10 ∷ rest)) (sym (first_word several)) ∙ sym (two_lines (version_line ranges) (memory_line l) rest) ∙ ap (λ x. text_of_lines (take 2 x) ++ rest) (sym (lines_are k.world k.entries));
    }

pub begins_3 : (l : Layout) (ranges : List Range) (text rest : List ℕ) → IsLayout l → IsRanges ranges → last_end ranges ≤ l.blocks → text ≡ version_line ranges ++ 10 ∷ (memory_line l ++ 10 ∷ (attest_line ranges ++ 10 ∷ rest)) → BeginsTrace text 3
begins_3 l ranges text rest layout are inside is =
    let k = plain l ranges 1 in
    record {
      kept = k;
      traceable = plain_traceable l ranges 1 layout are inside (omega arith) (omega arith);
      enough = omega (arith, lines_count k.world k.entries);
      rest = rest;
      spelled = is ∙ sym (three_lines (version_line ranges) (memory_line l) (attest_line ranges) rest) ∙ ap (λ x. text_of_lines (take 3 x) ++ rest) (sym (lines_are k.world k.entries));
    }

-- what begins a trace says
pub line_1 : (text : List ℕ) (b : BeginsTrace text 1) → text ≡ version_line b.kept.world.ranges ++ 10 ∷ b.rest
line_1 text b = b.spelled ∙ ap (λ l. text_of_lines (take 1 l) ++ b.rest) (lines_are b.kept.world b.kept.entries) ∙ regroup 10 (version_line b.kept.world.ranges) [] b.rest

pub lines_2 : (text : List ℕ) (b : BeginsTrace text 2) → text ≡ version_line b.kept.world.ranges ++ 10 ∷ (memory_line b.kept.world.layout ++ 10 ∷ b.rest)
lines_2 text b =
    let w = b.kept.world in
    b.spelled ∙ ap (λ l. text_of_lines (take 2 l) ++ b.rest) (lines_are w b.kept.entries) ∙ two_lines (version_line w.ranges) (memory_line w.layout) b.rest

pub lines_3 : (text : List ℕ) (b : BeginsTrace text 3) → text ≡ version_line b.kept.world.ranges ++ 10 ∷ (memory_line b.kept.world.layout ++ 10 ∷ (attest_line b.kept.world.ranges ++ 10 ∷ b.rest))
lines_3 text b =
    let w = b.kept.world in
    b.spelled ∙ ap (λ l. text_of_lines (take 3 l) ++ b.rest) (lines_are w b.kept.entries) ∙ three_lines (version_line w.ranges) (memory_line w.layout) (attest_line w.ranges) b.rest

pub lines_4 : (text : List ℕ) (b : BeginsTrace text 4) → text ≡ version_line b.kept.world.ranges ++ 10 ∷ (memory_line b.kept.world.layout ++ 10 ∷ (attest_line b.kept.world.ranges ++ 10 ∷ (cap_line b.kept.world.cap ++ 10 ∷ b.rest)))
lines_4 text b =
    let w = b.kept.world in
    b.spelled ∙ ap (λ l. text_of_lines (take 4 l) ++ b.rest) (lines_are w b.kept.entries) ∙ four_lines (version_line w.ranges) (memory_line w.layout) (attest_line w.ranges) (cap_line w.cap) b.rest

-- the first line's word
pub word_of_ranges : (ranges : List Range) → (several : Bool) × (version_line ranges ≡ version_word several) × (several ≡ true → length ranges ≡ 1 → ⊥)
word_of_ranges ranges = elim (cases_Bool (length ranges == 1)) [
  | inl one ↦ (false, cond-true (length ranges == 1) (codes "TMT1") (codes "TMT2") one, λ h. absurd (false≢true h))
  | inr more ↦ (true, cond-false (length ranges == 1) (codes "TMT1") (codes "TMT2") more, λ _ one. eqb-false (length ranges) 1 more one)
]

same_word : (a b : Bool) → version_word a ≡ version_word b → a ≡ b
same_word true true h = refl
same_word false false h = refl
same_word true false h = let e : 50 ≡ 49 = ap (λ l. get_or l 3 0) h in absurd (omega (arith, e))
same_word false true h = let e : 49 ≡ 50 = ap (λ l. get_or l 3 0) h in absurd (omega (arith, e))

word_length : (several : Bool) → length (version_word several) ≡ 4
word_length true = refl
word_length false = refl

-- ranges of several want three blocks
several_end : (ranges : List Range) → AreApart ranges → 2 ≤ length ranges → 3 ≤ last_end ranges
several_end [] apart some = absurd (omega (arith, some))
several_end (r ∷ []) apart some = absurd (omega (arith, some))
several_end (r ∷ q ∷ []) apart some = omega (arith, apart.0, apart.1, apart.2)
several_end (r ∷ q ∷ p ∷ more) apart some = several_end (q ∷ p ∷ more) apart.2 (omega arith)

-- after the first line
pub record AfterVersion (several : Bool) (w : Setting) (text rest : List ℕ) : Type 0 where
  pub word : version_line w.ranges ≡ version_word several
  pub behind : text ≡ rest
  pub more : several ≡ true → 2 ≤ length w.ranges

pub after_version : (several : Bool) (w : Setting) (whole text rest : List ℕ) → IsSetting w → whole ≡ version_word several ++ 10 ∷ text → whole ≡ version_line w.ranges ++ 10 ∷ rest → AfterVersion several w text rest
after_version several w whole text rest s is stands =
    let front = same_front (version_word several) (version_line w.ranges) (10 ∷ text) (10 ∷ rest) (word_length several ∙ sym (version_length w.ranges)) (sym is ∙ stands) in
    let word = word_of_ranges w.ranges in
    let same : word.0 ≡ several = same_word word.0 several (sym word.1 ∙ sym front.0) in
    record {
      word = sym front.0;
      behind = ap (drop 1) front.1;
      more = λ h. let some = s.ranges.some in elim (cases_lt 1 (length w.ranges)) [
        | inl two ↦ two
        | inr less ↦ absurd (word.2 (same ∙ h) (omega (arith, less, some)))
      ];
    }

-- behind the first line no trace's memory stands, or one with too little room
pub leaves_1 : (text : List ℕ) → ((several : Bool) (rest : List ℕ) → text ≡ version_word several ++ 10 ∷ rest → ⊥) → LeavesAt text 1
leaves_1 text none = leaves text 0 (begins_0 text)
    (λ b. let w = b.kept.world in let word = word_of_ranges w.ranges in none word.0 b.rest (line_1 text b ∙ ap (λ v. v ++ 10 ∷ b.rest) word.1))
    (λ kept is. omega (arith, lines_count kept.world kept.entries))

pub leaves_2 : (several : Bool) (whole text : List ℕ) → whole ≡ version_word several ++ 10 ∷ text → ((layout : Layout) (rest : List ℕ) → IsLayout layout → (several ≡ true → 3 ≤ layout.blocks) → text ≡ memory_line layout ++ 10 ∷ rest → ⊥) → LeavesAt whole 2
leaves_2 several whole text is none = leaves whole 1 (begins_1 several whole text is)
    (λ b.
    let w = b.kept.world in
    let s = b.traceable.setting in
    let after = after_version several w whole text (memory_line w.layout ++ 10 ∷ b.rest) s is (lines_2 whole b) in
    none w.layout b.rest s.layout (λ h. let end = several_end w.ranges s.ranges.apart (after.more h) in omega (arith, end, s.inside)) after.behind)
    (λ kept is. omega (arith, lines_count kept.world kept.entries))

pub leaves_3 : (several : Bool) (l : Layout) (whole text : List ℕ) → IsLayout l → (several ≡ true → 3 ≤ l.blocks) → whole ≡ version_word several ++ 10 ∷ (memory_line l ++ 10 ∷ text)
    → ((ranges : List Range) (rest : List ℕ) → IsRanges ranges → last_end ranges ≤ l.blocks → version_line ranges ≡ version_word several → text ≡ attest_line ranges ++ 10 ∷ rest → ⊥) → LeavesAt whole 3
leaves_3 several l whole text layout room is none = leaves whole 2 (begins_2 several l whole text layout room is)
    (λ b.
    let w = b.kept.world in
    let s = b.traceable.setting in
    let rest = attest_line w.ranges ++ 10 ∷ b.rest in
    let after = after_version several w whole (memory_line l ++ 10 ∷ text) (memory_line w.layout ++ 10 ∷ rest) s is (lines_3 whole b) in
    let memory = memory_front l w.layout text rest layout s.layout after.behind in
    let inside : last_end w.ranges ≤ l.blocks = omega (arith, s.inside, ap (λ (m : Layout). m.blocks) memory.0) in
    none w.ranges b.rest s.ranges inside after.word memory.1)
    (λ kept is. omega (arith, lines_count kept.world kept.entries))

pub leaves_4 : (l : Layout) (ranges : List Range) (whole text : List ℕ) → IsLayout l → IsRanges ranges → last_end ranges ≤ l.blocks → whole ≡ version_line ranges ++ 10 ∷ (memory_line l ++ 10 ∷ (attest_line ranges ++ 10 ∷ text))
    → ((cap : ℕ) (rest : List ℕ) → 1 ≤ cap → cap ≤ 4000000 → text ≡ cap_line cap ++ 10 ∷ rest → ⊥) → LeavesAt whole 4
leaves_4 l ranges whole text layout are inside is none = leaves whole 3 (begins_3 l ranges whole text layout are inside is)
    (λ b.
    let w = b.kept.world in
    let s = b.traceable.setting in
    let rest = cap_line w.cap ++ 10 ∷ b.rest in
    let word = word_of_ranges ranges in
    let after = after_version word.0 w whole (memory_line l ++ 10 ∷ (attest_line ranges ++ 10 ∷ text)) (memory_line w.layout ++ 10 ∷ (attest_line w.ranges ++ 10 ∷ rest)) s (is ∙ ap (λ v. v ++ 10 ∷ (memory_line l ++ 10 ∷ (attest_line ranges ++ 10 ∷ text))) word.1) (lines_4 whole b) in
    let memory = memory_front l w.layout (attest_line ranges ++ 10 ∷ text) (attest_line w.ranges ++ 10 ∷ rest) layout s.layout after.behind in
    let same = ranges_front ranges w.ranges text rest (ranges_low ranges are.apart are.low) (ranges_low w.ranges s.ranges.apart s.ranges.low) (ap (drop 6) memory.1) in
    none w.cap b.rest s.some_entry s.few_entries same.1)
    (λ kept is. omega (arith, lines_count kept.world kept.entries))

-- the first four lines
pub head_is : (l : Layout) (ranges : List Range) (image : List ℕ) (cap : ℕ) (text rest : List ℕ) → text ≡ version_line ranges ++ 10 ∷ (memory_line l ++ 10 ∷ (attest_line ranges ++ 10 ∷ (cap_line cap ++ 10 ∷ rest))) → text ≡ text_of_lines (head_lines (setting_of l ranges image cap)) ++ rest
head_is l ranges image cap text rest is = is ∙ sym (head_regroup (setting_of l ranges image cap) rest)

-- a head that was read has its word's ranges
pub word_fits : (several : Bool) (ranges : List Range) (count : ℕ) → count ≡ length ranges → IsRanges ranges → nat_lt 1 count ≡ several → version_word several ≡ version_line ranges
word_fits several ranges count is are test = elim (cases_lt 1 count) [
  | inl more ↦
      let more_than_one : (length ranges == 1) ≡ false = ne_eqb (length ranges) 1 (λ h. omega (arith, h, more, is)) in
      ap version_word (sym test ∙ lt-ltb 1 count more) ∙ sym (cond-false (length ranges == 1) (codes "TMT1") (codes "TMT2") more_than_one)
  | inr one ↦
      let just_one : (length ranges == 1) ≡ true = eq-eqb (length ranges) 1 (omega (arith, one, are.some, is)) in
      ap version_word (sym test ∙ le-ltb 1 count one) ∙ sym (cond-true (length ranges == 1) (codes "TMT1") (codes "TMT2") just_one)
]

pub word_says : (several : Bool) (ranges : List Range) (count : ℕ) → count ≡ length ranges → IsRanges ranges → version_line ranges ≡ version_word several → nat_lt 1 count ≡ several
word_says several ranges count is are word = same_word (nat_lt 1 count) several (word_fits (nat_lt 1 count) ranges count is are refl ∙ word)

-- two truth values that are compared
pub same_truth : (a b : Bool) → not (beq a b) ≡ false → a ≡ b
same_truth true true h = refl
same_truth false false h = refl
same_truth true false h = absurd (false≢true (sym h))
same_truth false true h = absurd (false≢true (sym h))

pub other_truth : (a b : Bool) → not (beq a b) ≡ true → a ≡ b → ⊥
other_truth true true h same = false≢true h
other_truth false false h same = false≢true h
other_truth true false h same = false≢true (sym same)
other_truth false true h same = false≢true same

-- one line is the first
pub one_line : (text : List ℕ) (m n : ℕ) → LeavesAt text m → LeavesAt text n → m ≡ n
one_line text m n p q = elim (cases_lt m n) [
  | inl less ↦ absurd (p.here (begins_less text m (n - 1) (omega (arith, less)) q.before))
  | inr more ↦ elim (cases_lt n m) [
    | inl less ↦ absurd (q.here (begins_less text n (m - 1) (omega (arith, less)) p.before))
    | inr same ↦ omega (arith, more, same)
  ]
]
