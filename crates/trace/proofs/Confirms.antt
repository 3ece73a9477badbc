-- What Yes is worth.
use Rattle.std.proofs.Common.{◌≡◌, ℕ, Bool, true, false, not, List, [], ◌∷◌, Option, Some, refl, sym, ap, ap₂, ◌∙◌, subst, arith}
use Rattle.std.specs.Prelude.{◌&&◌, ◌==◌, ◌↔◌, if◌then◌else◌, IsTrue}
use Rattle.std.specs.Str.{bytes_eq}
use Rattle.std.proofs.lemmas.Bool.{and_from, and_parts, eq-eqb, eqb-true}
use Rattle.std.proofs.lemmas.Slice.Eq.{bytes_eq-Decides}
use Rattle.history.specs.declared.events.Discipline.{Discipline}
use Rattle.history.specs.declared.events.Discipline.TheVariants.{All, AllExt, Dec, Inc, IncExt}
use Rattle.history.specs.declared.events.Entry.{Entry}
use Rattle.history.specs.declared.ranges.Range.{Range}
use Rattle.history.specs.Layout.{Setting, IsSetting}
use Rattle.history.specs.Legal.{IsLegal}
use Rattle.history.specs.Pass.{is_extended}
use Rattle.history.specs.Instants.{IsInstant, ReleasesAt}
use Rattle.history.specs.Sliding.{CopiedIsMemory, locks_at_start}
use Rattle.chronicle.specs.declared.worlds.Shape.{Shape}
use Rattle.chronicle.specs.Worlds.{shape_of}
use Rattle.report.specs.declared.Report.{Report}
use Rattle.report.specs.Reports.{SpellsReport, asked_of, report_in}
use Rattle.report.specs.Shapes.{same_ranges, same_shape}
use Rattle.report.specs.Tags.{report_tag}
use Rattle.trace.specs.declared.confirm.Confirmed.TheVariants.{WrongShape, NoPass, WrongTag, Yes}
use Rattle.trace.specs.Confirm.{IsConfirmed, IsOnPass, Tells, confirmed, confirmed_reading, confirmed_report, names_pass, tag_at, told_place}
use Rattle.trace.proofs.Openings.{ends_named, named_ends}

ranges_are : (a b : List Range) → same_ranges a b ≡ true → a ≡ b
ranges_are [] [] h = refl
ranges_are [] (s ∷ rest) h = absurd cc
ranges_are (r ∷ more) [] h = absurd cc
ranges_are (r ∷ more) (s ∷ rest) h =
    let both = and_parts ((r.first == s.first) && (r.attested == s.attested)) (same_ranges more rest) h in
    let here = and_parts (r.first == s.first) (r.attested == s.attested) both.0 in
    let head : r ≡ s = ap₂ (λ (f a : ℕ). record { first = f; attested = a }) (eqb-true r.first s.first here.0) (eqb-true r.attested s.attested here.1) in
    ap₂ (λ (x : Range) (xs : List Range). x ∷ xs) head (ranges_are more rest both.1)

are_same : (a : List Range) → same_ranges a a ≡ true
are_same [] = refl
are_same (r ∷ more) =
    and_from ((r.first == r.first) && (r.attested == r.attested)) (same_ranges more more) (and_from (r.first == r.first) (r.attested == r.attested) (eq-eqb r.first r.first refl) (eq-eqb r.attested r.attested refl)) (are_same more)

-- the test of a shape tells that it is the report's
pub shape_is : (shape : Shape) (r : Report) → same_shape r.shape shape ≡ true → r.shape ≡ shape
shape_is shape r h =
    let both = and_parts ((r.shape.base == shape.base) && (r.shape.size == shape.size)) (same_ranges r.shape.ranges shape.ranges) h in
    let here = and_parts (r.shape.base == shape.base) (r.shape.size == shape.size) both.0 in
    let base = eqb-true r.shape.base shape.base here.0 in
    let size = eqb-true r.shape.size shape.size here.1 in
    let ranges = ranges_are r.shape.ranges shape.ranges both.1 in
    ap (λ (b : ℕ). record { base = b; size = r.shape.size; ranges = r.shape.ranges }) base
    ∙ ap (λ (s : ℕ). record { base = shape.base; size = s; ranges = r.shape.ranges }) size
    ∙ ap (λ (l : List Range). record { base = shape.base; size = shape.size; ranges = l }) ranges

pub shape_fits : (shape : Shape) (r : Report) → r.shape ≡ shape → same_shape r.shape shape ≡ true
shape_fits shape r h =
    let own : same_shape r.shape r.shape ≡ true = and_from ((r.shape.base == r.shape.base) && (r.shape.size == r.shape.size)) (same_ranges r.shape.ranges r.shape.ranges) (and_from (r.shape.base == r.shape.base) (r.shape.size == r.shape.size) (eq-eqb r.shape.base r.shape.base refl) (eq-eqb r.shape.size r.shape.size refl)) (are_same r.shape.ranges) in
    subst (λ (s : Shape). same_shape r.shape s ≡ true) h own

-- the last of four cases is that of three tests that hold
yes_tests : (shape pass tag : Bool) → (if not shape then WrongShape else (if not pass then NoPass else (if not tag then WrongTag else Yes))) ≡ Yes → (shape ≡ true) × (pass ≡ true) × (tag ≡ true)
yes_tests true true true h = (refl, refl, refl)
yes_tests true true false h = absurd cc
yes_tests true false tag h = absurd cc
yes_tests false pass tag h = absurd cc

-- the place whose memory was looked at is an instant, where any place is
told_instant : (form : Discipline) (start end release place : ℕ) → IsInstant form start end release place → IsInstant form start end release (if locks_at_start form then start else end)
told_instant All start end release place h = (omega arith, omega (arith, h.0, h.1))
told_instant AllExt start end release place h = (omega arith, omega (arith, h.0, h.1))
told_instant Dec start end release place h = refl
told_instant Inc start end release place h = refl
told_instant IncExt start end release place h = (omega arith, omega (arith, h.0, h.1))

-- Yes is the last of four cases
yes_passes : (shape pass tag : Bool) → shape ≡ true → pass ≡ true → tag ≡ true → (if not shape then WrongShape else (if not pass then NoPass else (if not tag then WrongTag else Yes))) ≡ Yes
yes_passes true true true s p t = refl
yes_passes true true false s p t = absurd cc
yes_passes true false tag s p t = absurd cc
yes_passes false pass tag s p t = absurd cc

-- a report that is told Yes is on a pass
pub yes_on_pass : (key : List ℕ) (w : Setting) (history : List Entry) (r : Report) → confirmed_report key w history r ≡ Yes → IsOnPass key w history r
unfolding confirmed_report
yes_on_pass key w history r answer =
    let told : List ℕ = tag_at key w history r (told_place r) in
    let tests = yes_tests (same_shape r.shape (shape_of w)) (names_pass history r) (bytes_eq told r.tag) answer in
    record { shape = shape_is (shape_of w) r tests.0; ends = named_ends r history tests.1; tag = sym ((bytes_eq-Decides told r.tag).0 tests.2) }

-- and one that is on a pass is told Yes
pub on_pass_yes : (key : List ℕ) (w : Setting) (history : List Entry) (r : Report) → IsOnPass key w history r → confirmed_report key w history r ≡ Yes
unfolding confirmed_report
on_pass_yes key w history r on =
    let told : List ℕ = tag_at key w history r (told_place r) in
    yes_passes (same_shape r.shape (shape_of w)) (names_pass history r) (bytes_eq told r.tag) (shape_fits (shape_of w) r on.shape) (ends_named r history on.ends) ((bytes_eq-Decides told r.tag).1 (sym on.tag))

-- in a legal history the tag is that of each instant
pub on_pass_confirmed : (key : List ℕ) (w : Setting) (history : List Entry) (r : Report) → CopiedIsMemory → IsSetting w → IsLegal w history → IsOnPass key w history r → IsConfirmed key w history r
on_pass_confirmed key w history r copied setting legal on = record {
  shape = on.shape;
  ends = on.ends;
  tag = λ place release releases instant.
      let there = copied w setting history legal r.discipline r.counter r.start r.end release on.ends releases place instant in
      let here = copied w setting history legal r.discipline r.counter r.start r.end release on.ends releases (told_place r) (told_instant r.discipline r.start r.end release place instant) in
      on.tag ∙ ap (λ (bytes : List ℕ). report_tag key (asked_of r) r.shape bytes r.start r.end) (here ∙ sym there);
}

-- and what holds at each instant holds at the place that is looked at
pub confirmed_on_pass : (key : List ℕ) (w : Setting) (history : List Entry) (r : Report) (place release : ℕ) → IsConfirmed key w history r → (IsTrue (is_extended r.discipline) → ReleasesAt history r.discipline r.counter r.start release) → IsInstant r.discipline r.start r.end release place → IsOnPass key w history r
confirmed_on_pass key w history r place release confirms releases instant =
    record { shape = confirms.shape; ends = confirms.ends; tag = confirms.tag (told_place r) release releases (told_instant r.discipline r.start r.end release place instant) }

-- what Yes is worth
pub bytes_tell : (key : List ℕ) (w : Setting) (history : List Entry) (bytes : List ℕ) (r : Report) → CopiedIsMemory → IsSetting w → SpellsReport bytes r → IsLegal w history → confirmed_report key w history r ≡ Yes → Tells key w history bytes
bytes_tell key w history bytes r copied setting spelled legal answer = record { report = r; spelled = spelled; confirmed = on_pass_confirmed key w history r copied setting legal (yes_on_pass key w history r answer) }

-- the same of bytes
pub bytes_yes : (key : List ℕ) (w : Setting) (history : List Entry) (bytes : List ℕ) (r : Report) → report_in bytes ≡ Some r → (confirmed key w history bytes ≡ Yes) ↔ IsOnPass key w history r
unfolding confirmed
bytes_yes key w history bytes r is =
    let read : confirmed_reading key w history (report_in bytes) ≡ confirmed_report key w history r = ap (λ (o : Option Report). confirmed_reading key w history o) is in
    (λ answer. yes_on_pass key w history r (sym read ∙ answer), λ on. read ∙ on_pass_yes key w history r on)
