-- A report stands at its places in its bytes, and nothing else has them.
use Rattle.std.proofs.Common.{◌≡◌, ℕ, zero, suc, ◌+◌, ◌-◌, ◌*◌, ◌/◌, ◌<◌, ◌≤◌, ◌^◌, Bool, true, false, ◌&&◌, eqb, leb, List, [], ◌∷◌, ◌++◌, length, take, drop, set, flat_map, Option, Some, None, refl, sym, ap, subst, inl, inr, ◌∙◌, append_assoc, arith}
use Rattle.std.specs.Prelude.{slice_index, ◌↔◌, ◌⊎◌, ◌==◌, if◌then◌else◌}
use Rattle.std.specs.Option.{option_and_then}
use Rattle.std.specs.Str.{bytes_eq}
use Rattle.std.proofs.lemmas.Bool.{leb-true, le-leb, ne_eqb, and_parts, and_from, false_from_ne_true, iff_false}
use Rattle.std.proofs.lemmas.List.{length-append, length-drop, length-take, take_at, drop_at, drop-drop, take-append-drop, take_more_set}
use Rattle.std.proofs.Math.Nat.{add-zero}
use Rattle.std.proofs.lemmas.Nat.{from_be_bytes-to_be_bytes_4, from_be_bytes-to_be_bytes_8}
use Rattle.std.proofs.lemmas.Slice.Eq.{bytes_eq-Decides}
use Rattle.history.specs.declared.events.Discipline.{Discipline}
use Rattle.history.specs.declared.events.Discipline.TheVariants.{All, AllExt, Dec, Inc, IncExt}
use Rattle.history.specs.declared.ranges.Range.{Range}
use Rattle.history.specs.Names.{code_of}
use Rattle.history.specs.Attested.{AreApart, IsRanges, are_ranges, last_end, total}
use Rattle.history.specs.Layout.{Layout, IsLayout, is_layout}
use Rattle.challenge.specs.Numbers.{u32_at, u64_at, discipline_with}
use Rattle.chronicle.specs.declared.worlds.Shape.{Shape}
use Rattle.report.specs.declared.Report.{Report}
use Rattle.report.specs.Tags.{range_bytes, ranges_bytes, shape_bytes, head_bytes, tail_bytes, version_of}
use Rattle.report.specs.Reports.{attested_layout, IsReport, FitsReport, report_bytes, SpellsReport, IsReportReading, is_report, range_at, ranges_at, report_ranges, shape_at, report_at, if_report, report_in}
use Rattle.report.proofs.Fields.{IsBytes, u32_at_fits, u64_at_fits, u32_at_rest, u64_at_rest, u64_here, same_value, kept}

-- the tests of a layout and of ranges say the same as the facts
pub record TestsTell : Type 0 where
  pub layout : (l : Layout) → is_layout l ≡ true → IsLayout l
  pub layout_tested : (l : Layout) → IsLayout l → is_layout l ≡ true
  pub ranges : (ranges : List Range) → are_ranges ranges ≡ true → IsRanges ranges
  pub ranges_tested : (ranges : List Range) → IsRanges ranges → are_ranges ranges ≡ true

pub report_from : TestsTell → (r : Report) → is_report r ≡ true → IsReport r
report_from laws r h =
    let l = attested_layout r.shape in
    let last = r.start + total r.shape.ranges + 1 in
    let parts = and_parts (is_layout l && are_ranges r.shape.ranges && leb 1 r.start) (leb last r.end) h in
    let places = and_parts (is_layout l && are_ranges r.shape.ranges) (leb 1 r.start) parts.0 in
    let blocks = and_parts (is_layout l) (are_ranges r.shape.ranges) places.0 in
    record {
      memory = laws.layout l blocks.0;
      ranges = laws.ranges r.shape.ranges blocks.1;
      start = leb-true 1 r.start places.1;
      end = leb-true last r.end parts.1;
    }

pub report_test : TestsTell → (r : Report) → IsReport r → is_report r ≡ true
report_test laws r h =
    let l = attested_layout r.shape in
    let last = r.start + total r.shape.ranges + 1 in
    and_from (is_layout l && are_ranges r.shape.ranges && leb 1 r.start) (leb last r.end)
    (and_from (is_layout l && are_ranges r.shape.ranges) (leb 1 r.start)
    (and_from (is_layout l) (are_ranges r.shape.ranges) (laws.layout_tested l h.memory) (laws.ranges_tested r.shape.ranges h.ranges))
    (le-leb 1 r.start h.start))
    (le-leb last r.end h.end)

-- ---- ranges, one behind the other

-- the numbers of a range fit their fields
abbrev FitsRange : Range → Type 0
FitsRange r = (r.first < 2 ^ 32) × (r.attested < 2 ^ 32)

abbrev FitRanges : List Range → Type 0
FitRanges [] = Unit {0}
FitRanges (r ∷ more) = FitsRange r × FitRanges more

-- the first block of the first range lies before the end of the last
first_below : (r : Range) (more : List Range) → AreApart (r ∷ more) → last_end (r ∷ more) ≤ 4096 → r.first ≤ 4096
first_below r [] apart low = omega (arith, low)
first_below r (next ∷ more) apart low = omega (arith, apart.1, first_below next more apart.2 low)

ranges_below : (ranges : List Range) → AreApart ranges → last_end ranges ≤ 4096 → FitRanges ranges
ranges_below [] apart low = tt
ranges_below (r ∷ []) apart low = ((omega (arith, low), omega (arith, low)), tt)
ranges_below (r ∷ next ∷ more) apart low =
    let rest = ranges_below (next ∷ more) apart.2 low in
    ((omega (arith, apart.1, first_below next more apart.2 low), omega (arith, apart.1, first_below next more apart.2 low)), rest)

range_length : (r : Range) → length (range_bytes r) ≡ 8
range_length r = refl

ranges_length : (ranges : List Range) → length (flat_map range_bytes ranges) ≡ 8 * length ranges
ranges_length [] = refl
ranges_length (r ∷ more) =
    let all : length (flat_map range_bytes (r ∷ more)) ≡ 8 + length (flat_map range_bytes more) = length-append (range_bytes r) (flat_map range_bytes more) in
    omega (arith, all, ranges_length more)

range_stands : (bytes rest : List ℕ) (place : ℕ) (r : Range) → FitsRange r → drop place bytes ≡ range_bytes r ++ rest → range_at bytes place ≡ r
unfolding u32_at
range_stands bytes rest place r fits stands =
    let first : u32_at bytes place ≡ r.first = ap (λ l. u32_at l 0) stands ∙ from_be_bytes-to_be_bytes_4 r.first fits.0 in
    let attested : u32_at bytes (place + 4) ≡ r.attested = u32_at_rest bytes (range_bytes r ++ rest) place 4 stands ∙ from_be_bytes-to_be_bytes_4 r.attested fits.1 in
    rw (first, attested) refl

ranges_stand : (ranges : List Range) (bytes rest : List ℕ) (place : ℕ) → FitRanges ranges → drop place bytes ≡ flat_map range_bytes ranges ++ rest → ranges_at bytes place (length ranges) ≡ ranges
ranges_stand [] bytes rest place fits stands = refl
ranges_stand (r ∷ more) bytes rest place fits stands =
    let cut : drop place bytes ≡ range_bytes r ++ (flat_map range_bytes more ++ rest) = stands ∙ append_assoc (range_bytes r) (flat_map range_bytes more) rest in
    let next : drop (place + 8) bytes ≡ flat_map range_bytes more ++ rest = sym (drop-drop 8 place bytes) ∙ ap (drop 8) cut in
    let head = range_stands bytes (flat_map range_bytes more ++ rest) place r fits.0 cut in
    let tail = ranges_stand more bytes rest (place + 8) fits.1 next in
    ap (λ l. range_at bytes place ∷ l) tail ∙ ap (λ x. x ∷ more) head

-- ---- fields at their places

code_stands : (d : Discipline) → discipline_with (code_of d) ≡ Some d
unfolding discipline_with
code_stands All = refl
code_stands AllExt = refl
code_stands Dec = refl
code_stands Inc = refl
code_stands IncExt = refl

code_at : (r : Report) → discipline_with (slice_index (report_bytes r) 4) ≡ Some r.discipline
unfolding report_bytes head_bytes
code_at r = code_stands r.discipline

counter_at : (r : Report) → FitsReport r → u64_at (report_bytes r) 8 ≡ r.counter
unfolding report_bytes head_bytes u64_at
counter_at r fits = from_be_bytes-to_be_bytes_8 r.counter fits.counter

-- what follows the ranges, and what follows the nonce
abbrev ending : Report → List ℕ
ending r = tail_bytes r.start r.end ++ r.tag

behind : Report → List ℕ
behind r = shape_bytes r.shape ++ ending r

regrouped : (a b c d : List ℕ) → ((a ++ b) ++ c) ++ d ≡ a ++ (b ++ (c ++ d))
regrouped a b c d = append_assoc (a ++ b) c d ∙ append_assoc a b (c ++ d)

nonce_on : (r : Report) → drop 16 (report_bytes r) ≡ r.nonce ++ behind r
unfolding report_bytes head_bytes behind
nonce_on r = regrouped r.nonce (shape_bytes r.shape) (tail_bytes r.start r.end) r.tag

nonce_at : (r : Report) → FitsReport r → take 16 (drop 16 (report_bytes r)) ≡ r.nonce
nonce_at r fits = ap (take 16) (nonce_on r) ∙ take_at r.nonce (behind r) 16 fits.nonce

shape_on : (r : Report) → FitsReport r → drop 32 (report_bytes r) ≡ behind r
shape_on r fits = sym (drop-drop 16 16 (report_bytes r)) ∙ ap (drop 16) (nonce_on r) ∙ drop_at r.nonce (behind r) 16 fits.nonce

base_of : (r : Report) → FitsReport r → u32_at (behind r) 0 ≡ r.shape.base
unfolding behind u32_at
base_of r fits = from_be_bytes-to_be_bytes_4 r.shape.base fits.base

size_of : (r : Report) → FitsReport r → u32_at (behind r) 4 ≡ r.shape.size
unfolding behind u32_at
size_of r fits = from_be_bytes-to_be_bytes_4 r.shape.size fits.size

-- what stands from the ranges on
ranges_on : (r : Report) → FitsReport r → drop 40 (report_bytes r) ≡ ranges_bytes r.shape.ranges ++ ending r
unfolding behind
ranges_on r fits = sym (drop-drop 8 32 (report_bytes r)) ∙ ap (drop 8) (shape_on r fits)

-- how long it is
length_parts : (r : Report) → length (report_bytes r) ≡ 40 + length r.nonce + length (ranges_bytes r.shape.ranges) + length r.tag
unfolding report_bytes head_bytes behind tail_bytes
length_parts r =
    let bytes = report_bytes r in
    let front : length bytes ≡ 16 + length (r.nonce ++ behind r) = ap length (sym (take-append-drop 16 bytes)) ∙ length-append (take 16 bytes) (drop 16 bytes) ∙ ap (λ (k : List ℕ). 16 + length k) (nonce_on r) in
    let shape : length (behind r) ≡ 8 + length (ranges_bytes r.shape.ranges ++ ending r) = ap length (sym (take-append-drop 8 (behind r))) ∙ length-append (take 8 (behind r)) (drop 8 (behind r)) in
    let last : length (ending r) ≡ 16 + length r.tag = length-append (tail_bytes r.start r.end) r.tag in
    omega (arith, front, shape, length-append r.nonce (behind r), length-append (ranges_bytes r.shape.ranges) (ending r), last)

length-report_bytes : (r : Report) → FitsReport r → length (report_bytes r) ≡ 88 + length (ranges_bytes r.shape.ranges)
length-report_bytes r fits = omega (arith, length_parts r, fits.nonce, fits.tag)

-- the ranges are found again by the length of all
abbrev ranges_by : List ℕ → ℕ → List Range
ranges_by bytes count = if count == 96 then ranges_at bytes 40 1 else ranges_at bytes 44 ((count - 92) / 8)

ranges_again : (ranges : List Range) (bytes rest : List ℕ) → IsRanges ranges → drop 40 bytes ≡ ranges_bytes ranges ++ rest → length bytes ≡ 88 + length (ranges_bytes ranges) → report_ranges bytes ≡ ranges
ranges_again [] bytes rest h stands long = absurd (omega (arith, h.some))
ranges_again (r ∷ []) bytes rest h stands long =
    let fits = ranges_below (r ∷ []) h.apart h.low in
    ap (ranges_by bytes) long ∙ ap (λ x. x ∷ []) (range_stands bytes rest 40 r fits.0 stands)
ranges_again (r ∷ next ∷ more) bytes rest h stands long =
    let ranges = r ∷ next ∷ more in
    let fits = ranges_below ranges h.apart h.low in
    let count : length bytes ≡ 92 + 8 * length ranges = omega (arith, long, ranges_length ranges) in
    let place : drop 44 bytes ≡ flat_map range_bytes ranges ++ rest = sym (drop-drop 4 40 bytes) ∙ ap (drop 4) stands in
    let other : eqb (length bytes) 96 ≡ false = ne_eqb (length bytes) 96 (λ e. omega (arith, count, e)) in
    let many : (length bytes - 92) / 8 ≡ length ranges = omega (arith, count) in
    rw (other, many) (ranges_stand ranges bytes rest 44 fits place)

-- the last three fields stand at their places from the end
ending_on : (r : Report) → FitsReport r → drop (length (report_bytes r) - 48) (report_bytes r) ≡ ending r
ending_on r fits =
    let long = length (ranges_bytes r.shape.ranges) in
    let place : length (report_bytes r) - 48 ≡ 40 + long = omega (arith, length-report_bytes r fits) in
    ap (λ k. drop k (report_bytes r)) place ∙ sym (drop-drop long 40 (report_bytes r)) ∙ ap (drop long) (ranges_on r fits) ∙ drop_at (ranges_bytes r.shape.ranges) (ending r) long refl

start_of : (r : Report) → FitsReport r → u64_at (ending r) 0 ≡ r.start
unfolding tail_bytes u64_at
start_of r fits = from_be_bytes-to_be_bytes_8 r.start fits.start

end_of : (r : Report) → FitsReport r → u64_at (ending r) 8 ≡ r.end
unfolding tail_bytes u64_at
end_of r fits = from_be_bytes-to_be_bytes_8 r.end fits.end

tag_of : (r : Report) → drop 16 (ending r) ≡ r.tag
unfolding tail_bytes
tag_of r = refl

abbrev pub made_shape : ℕ → ℕ → List Range → Shape
made_shape base size ranges = record { base = base; size = size; ranges = ranges }

abbrev pub made_report : Discipline → ℕ → List ℕ → Shape → ℕ → ℕ → List ℕ → Report
made_report d counter nonce shape start end tag = record { discipline = d; counter = counter; nonce = nonce; shape = shape; start = start; end = end; tag = tag }

same_shape : (base size : ℕ) (ranges : List Range) (s : Shape) → base ≡ s.base → size ≡ s.size → ranges ≡ s.ranges → made_shape base size ranges ≡ s
same_shape base size ranges s b z r = rw (b, z, r) refl

pub same_report : (d : Discipline) (counter : ℕ) (nonce : List ℕ) (shape : Shape) (start end : ℕ) (tag : List ℕ) (r : Report) → d ≡ r.discipline → counter ≡ r.counter → nonce ≡ r.nonce → shape ≡ r.shape → start ≡ r.start → end ≡ r.end → tag ≡ r.tag → made_report d counter nonce shape start end tag ≡ r
same_report d counter nonce shape start end tag r di c n h s e t = rw (di, c, n, h, s, e, t) refl

shape_again : (r : Report) → IsReport r → FitsReport r → shape_at (report_bytes r) ≡ r.shape
shape_again r h fits =
    let bytes = report_bytes r in
    let rest : drop 32 bytes ≡ behind r = shape_on r fits in
    let base : u32_at bytes 32 ≡ r.shape.base = u32_at_rest bytes (behind r) 32 0 rest ∙ base_of r fits in
    let size : u32_at bytes 36 ≡ r.shape.size = u32_at_rest bytes (behind r) 32 4 rest ∙ size_of r fits in
    let ranges : report_ranges bytes ≡ r.shape.ranges = ranges_again r.shape.ranges bytes (ending r) h.ranges (ranges_on r fits) (length-report_bytes r fits) in
    same_shape (u32_at bytes 32) (u32_at bytes 36) (report_ranges bytes) r.shape base size ranges

fields_again : (r : Report) → IsReport r → FitsReport r → report_at (report_bytes r) r.discipline ≡ r
fields_again r h fits =
    let bytes = report_bytes r in
    let place = length bytes - 48 in
    let rest : drop place bytes ≡ ending r = ending_on r fits in
    let start : u64_at bytes place ≡ r.start = u64_here bytes (ending r) place rest ∙ start_of r fits in
    let past : length bytes - 40 ≡ place + 8 = omega (arith, length-report_bytes r fits) in
    let end : u64_at bytes (length bytes - 40) ≡ r.end = ap (u64_at bytes) past ∙ u64_at_rest bytes (ending r) place 8 rest ∙ end_of r fits in
    let last : length bytes - 32 ≡ place + 16 = omega (arith, length-report_bytes r fits) in
    let tag : drop (length bytes - 32) bytes ≡ r.tag = ap (λ k. drop k bytes) last ∙ sym (drop-drop 16 place bytes) ∙ ap (drop 16) rest ∙ tag_of r in
    same_report r.discipline (u64_at bytes 8) (take 16 (drop 16 bytes)) (shape_at bytes) (u64_at bytes place) (u64_at bytes (length bytes - 40)) (drop (length bytes - 32) bytes) r refl (counter_at r fits) (nonce_at r fits) (shape_again r h fits) start end tag

own_report : TestsTell → (r : Report) → IsReport r → if_report (report_bytes r) r ≡ Some r
own_report laws r h =
    let passes : (is_report r && bytes_eq (report_bytes r) (report_bytes r)) ≡ true =
    and_from (is_report r) (bytes_eq (report_bytes r) (report_bytes r)) (report_test laws r h) ((bytes_eq-Decides (report_bytes r) (report_bytes r)).1 refl) in
    rw passes refl

pub report_again : TestsTell → (r : Report) → IsReport r → FitsReport r → report_in (report_bytes r) ≡ Some r
unfolding report_in
report_again laws r h fits =
    ap (option_and_then (λ discipline. if_report (report_bytes r) (report_at (report_bytes r) discipline))) (code_at r)
    ∙ ap (if_report (report_bytes r)) (fields_again r h fits) ∙ own_report laws r h

pub refused : TestsTell → (bytes : List ℕ) (r : Report) (valid : Bool) → ((valid ≡ true) ↔ IsReport r) → valid ≡ false → None ≡ if_report bytes r
refused laws bytes r valid tells fails =
    let wrong : is_report r ≡ false = false_from_ne_true (is_report r) (λ h. iff_false tells fails (report_from laws r h)) in
    rw wrong refl

pub accepted : TestsTell → (bytes : List ℕ) (r : Report) → IsReport r → report_bytes r ≡ bytes → Some r ≡ if_report bytes r
accepted laws bytes r h same = sym (own_report laws r h) ∙ ap (λ (b : List ℕ). if_report b r) same

-- ---- what is read

-- bytes that are those of the report at their places are long enough for its fields
long_enough : (bytes : List ℕ) (d : Discipline) → report_bytes (report_at bytes d) ≡ bytes → (length (take 16 (drop 16 bytes)) ≡ 16) × (length (drop (length bytes - 32) bytes) ≡ 32)
long_enough bytes d same =
    let made = report_at bytes d in
    let all : length bytes ≡ 40 + length (take 16 (drop 16 bytes)) + length (ranges_bytes made.shape.ranges) + length (drop (length bytes - 32) bytes) = ap length (sym same) ∙ length_parts made in
    let nonce = length-take 16 (drop 16 bytes) in
    let after = length-drop 16 bytes in
    let tag = length-drop (length bytes - 32) bytes in
    (omega (arith, all, nonce, after, tag), omega (arith, all, nonce, after, tag))

fields_fit : (bytes : List ℕ) (d : Discipline) → IsBytes bytes → report_bytes (report_at bytes d) ≡ bytes → FitsReport (report_at bytes d)
fields_fit bytes d h same =
    let long = long_enough bytes d same in
    record {
      counter = u64_at_fits bytes 8 h;
      nonce = long.0;
      base = u32_at_fits bytes 32 h;
      size = u32_at_fits bytes 36 h;
      start = u64_at_fits bytes (length bytes - 48) h;
      end = u64_at_fits bytes (length bytes - 40) h;
      tag = long.1;
    }

found_with : TestsTell → (bytes : List ℕ) (r : Report) (o : Option Discipline) → IsBytes bytes → option_and_then (λ discipline. if_report bytes (report_at bytes discipline)) o ≡ Some r → SpellsReport bytes r
found_with laws bytes r None h e = absurd cc
found_with laws bytes r (Some d) h e =
    let made = report_at bytes d in
    let parts = kept (is_report made) (bytes_eq (report_bytes made) bytes) made r e in
    let same = (bytes_eq-Decides (report_bytes made) bytes).0 parts.2 in
    let found : SpellsReport bytes made = record {
      grammar = report_from laws made parts.1;
      fits = fields_fit bytes d h same;
      spelling = sym same;
    } in
    subst (SpellsReport bytes) parts.0 found

report_found : TestsTell → (bytes : List ℕ) (r : Report) → IsBytes bytes → report_in bytes ≡ Some r → SpellsReport bytes r
unfolding report_in
report_found laws bytes r h e = found_with laws bytes r (discipline_with (slice_index bytes 4)) h e

spelled_again : TestsTell → (bytes : List ℕ) (r : Report) → SpellsReport bytes r → report_in bytes ≡ Some r
spelled_again laws bytes r spells = ap report_in spells.spelling ∙ report_again laws r spells.grammar spells.fits

pub one_report : TestsTell → (bytes : List ℕ) (a b : Report) → SpellsReport bytes a → SpellsReport bytes b → a ≡ b
one_report laws bytes a b left right = same_value (report_in bytes) a b (spelled_again laws bytes a left) (spelled_again laws bytes b right)

pub reading_of : TestsTell → (bytes : List ℕ) (o : Option Report) → IsBytes bytes → o ≡ report_in bytes → IsReportReading bytes o
reading_of laws bytes None h e = λ r spells. (let both : None ≡ Some r = e ∙ spelled_again laws bytes r spells in absurd cc)
reading_of laws bytes (Some r) h e = report_found laws bytes r h (sym e)

-- ---- one spelling

pub one_spelling : (a b : List ℕ) (r : Report) → SpellsReport a r → SpellsReport b r → a ≡ b
one_spelling a b r left right = left.spelling ∙ sym right.spelling

-- as many bytes as the number of ranges says
sized : (ranges : List Range) → IsRanges ranges → ((length ranges ≡ 1) × (length (ranges_bytes ranges) ≡ 8)) ⊎ ((2 ≤ length ranges) × (length (ranges_bytes ranges) ≡ 4 + 8 * length ranges))
sized [] h = absurd (omega (arith, h.some))
sized (r ∷ []) h = inl (refl, refl)
sized (r ∷ next ∷ more) h = inr (omega arith, omega (arith, ranges_length (r ∷ next ∷ more)))

whole_size : (bytes : List ℕ) (r : Report) → length bytes ≡ 88 + length (ranges_bytes r.shape.ranges) → ((length r.shape.ranges ≡ 1) × (length (ranges_bytes r.shape.ranges) ≡ 8)) ⊎ ((2 ≤ length r.shape.ranges) × (length (ranges_bytes r.shape.ranges) ≡ 4 + 8 * length r.shape.ranges))
    → ((length r.shape.ranges ≡ 1) × (length bytes ≡ 96)) ⊎ ((2 ≤ length r.shape.ranges) × (length bytes ≡ 92 + 8 * length r.shape.ranges))
whole_size bytes r long (inl one) = inl (one.0, omega (arith, long, one.1))
whole_size bytes r long (inr more) = inr (more.0, omega (arith, long, more.1))

pub report_size : (bytes : List ℕ) (r : Report) → SpellsReport bytes r → ((length r.shape.ranges ≡ 1) × (length bytes ≡ 96)) ⊎ ((2 ≤ length r.shape.ranges) × (length bytes ≡ 92 + 8 * length r.shape.ranges))
report_size bytes r s = whole_size bytes r (ap length s.spelling ∙ length-report_bytes r s.fits) (sized r.shape.ranges s.grammar.ranges)

-- a number of ranges that stands in a report is no 1
number_of_ranges : (ranges : List Range) (bytes rest : List ℕ) → IsRanges ranges → version_of ranges ≡ 0x32 → drop 40 bytes ≡ ranges_bytes ranges ++ rest → 2 ≤ u32_at bytes 40
unfolding u32_at
number_of_ranges [] bytes rest h version stands = absurd (omega (arith, h.some))
number_of_ranges (r ∷ []) bytes rest h version stands = absurd (omega (arith, version))
number_of_ranges (r ∷ next ∷ more) bytes rest h version stands =
    let n = length (r ∷ next ∷ more) in
    let told : u32_at bytes 40 ≡ n = ap (λ l. u32_at l 0) stands ∙ from_be_bytes-to_be_bytes_4 n (omega (arith, h.few)) in
    omega (arith, told)

version_at : (r : Report) → slice_index (report_bytes r) 3 ≡ version_of r.shape.ranges
unfolding report_bytes head_bytes
version_at r = refl

spells_no_one : (bytes : List ℕ) (r : Report) → slice_index bytes 3 ≡ 0x32 → u32_at bytes 40 ≡ 1 → SpellsReport bytes r → ⊥
spells_no_one bytes r second one s =
    let version : version_of r.shape.ranges ≡ 0x32 = sym (version_at r) ∙ ap (λ l. slice_index l 3) (sym s.spelling) ∙ second in
    let number : 2 ≤ u32_at (report_bytes r) 40 = number_of_ranges r.shape.ranges (report_bytes r) (ending r) s.grammar.ranges version (ranges_on r s.fits) in
    let same : u32_at (report_bytes r) 40 ≡ 1 = ap (λ l. u32_at l 40) (sym s.spelling) ∙ one in
    absurd (omega (arith, number, same))

nothing_read : TestsTell → (bytes : List ℕ) → IsBytes bytes → ((r : Report) → SpellsReport bytes r → ⊥) → (o : Option Report) → report_in bytes ≡ o → o ≡ None
nothing_read laws bytes h none None is = refl
nothing_read laws bytes h none (Some r) is = absurd (none r (report_found laws bytes r h is))

pub no_one_range : TestsTell → (bytes : List ℕ) → IsBytes bytes → slice_index bytes 3 ≡ 0x32 → u32_at bytes 40 ≡ 1 → report_in bytes ≡ None
no_one_range laws bytes h second one = nothing_read laws bytes h (λ r. spells_no_one bytes r second one) (report_in bytes) refl

-- ---- the reader's steps

short_or_long : (bytes : List ℕ) (r : Report) → (length bytes < 96) ⊎ (156 < length bytes) → IsRanges r.shape.ranges → ((length r.shape.ranges ≡ 1) × (length bytes ≡ 96)) ⊎ ((2 ≤ length r.shape.ranges) × (length bytes ≡ 92 + 8 * length r.shape.ranges)) → ⊥
short_or_long bytes r (inl short) h (inl one) = omega (arith, short, one.1)
short_or_long bytes r (inl short) h (inr more) = omega (arith, short, more.0, more.1)
short_or_long bytes r (inr long) h (inl one) = omega (arith, long, one.1)
short_or_long bytes r (inr long) h (inr more) = omega (arith, long, h.few, more.1)

-- no report is as short or as long as that
pub no_such_size : TestsTell → (bytes : List ℕ) → IsBytes bytes → (length bytes < 96) ⊎ (156 < length bytes) → report_in bytes ≡ None
no_such_size laws bytes h size = nothing_read laws bytes h (λ r s. short_or_long bytes r size s.grammar.ranges (report_size bytes r s)) (report_in bytes) refl

not_valid : TestsTell → (bytes : List ℕ) (d : Discipline) → (IsRanges (report_ranges bytes) → ⊥) → if_report bytes (report_at bytes d) ≡ None
not_valid laws bytes d none =
    let wrong : is_report (report_at bytes d) ≡ false = false_from_ne_true (is_report (report_at bytes d)) (λ h. none (report_from laws (report_at bytes d) h).ranges) in
    rw wrong refl

-- ranges that no device may have
pub no_ranges : TestsTell → (bytes : List ℕ) → (IsRanges (report_ranges bytes) → ⊥) → (o : Option Discipline) → discipline_with (slice_index bytes 4) ≡ o → report_in bytes ≡ None
unfolding report_in
no_ranges laws bytes none None is = ap (option_and_then (λ discipline. if_report bytes (report_at bytes discipline))) is
no_ranges laws bytes none (Some d) is = ap (option_and_then (λ discipline. if_report bytes (report_at bytes discipline))) is ∙ not_valid laws bytes d none

pub no_discipline : (bytes : List ℕ) → discipline_with (slice_index bytes 4) ≡ None → report_in bytes ≡ None
unfolding report_in
no_discipline bytes is = ap (option_and_then (λ discipline. if_report bytes (report_at bytes discipline))) is

pub with_discipline : (bytes : List ℕ) (d : Discipline) → discipline_with (slice_index bytes 4) ≡ Some d → report_in bytes ≡ if_report bytes (report_at bytes d)
unfolding report_in
with_discipline bytes d is = ap (option_and_then (λ discipline. if_report bytes (report_at bytes discipline))) is

ranges_more : (bytes : List ℕ) (place k : ℕ) → ranges_at bytes place (k + 1) ≡ ranges_at bytes place k ++ range_at bytes (place + 8 * k) ∷ []
ranges_more bytes place zero = ap (λ p. range_at bytes p ∷ []) (sym (add-zero place))
ranges_more bytes place (suc k) =
    let next : place + 8 + 8 * k ≡ place + 8 * suc k = omega arith in
    let count : suc k + 1 ≡ suc (k + 1) = omega arith in
    ap (ranges_at bytes place) count ∙ ap (λ l. range_at bytes place ∷ l) (ranges_more bytes (place + 8) k ∙ ap (λ p. ranges_at bytes (place + 8) k ++ range_at bytes p ∷ []) next)

pub filled_more : (bytes : List ℕ) (place k : ℕ) (list : List Range) (r : Range) → k < length list → r ≡ range_at bytes (place + 8 * k) → take k list ≡ ranges_at bytes place k → take (k + 1) (set list k r) ≡ ranges_at bytes place (k + 1)
filled_more bytes place k list r within is before =
    take_more_set list k r within ∙ ap (λ l. l ++ r ∷ []) before ∙ ap (λ x. ranges_at bytes place k ++ x ∷ []) is ∙ sym (ranges_more bytes place k)
