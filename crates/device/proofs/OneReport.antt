-- A challenge has one report in a history, and a report one note.
use Rattle.std.proofs.Common.{◌≡◌, ℕ, ◌≤◌, Bool, true, false, List, refl, sym, ap, ◌∙◌, subst, arith}
use Rattle.std.specs.Prelude.{IsTrue}
use Rattle.std.proofs.lemmas.Bool.{false≢true}
use Rattle.history.specs.declared.events.Discipline.{Discipline}
use Rattle.history.specs.declared.events.Discipline.TheVariants as form
use Rattle.history.specs.declared.events.Entry.{Entry}
use Rattle.history.specs.Layout.{Setting}
use Rattle.history.specs.Memory.{attested_bytes, memory_at}
use Rattle.history.specs.Pass.{is_extended}
use Rattle.history.specs.Instants.{EndsAt, IsInstant, ReleasesAt}
use Rattle.history.specs.Legal.{IsLegal}
use Rattle.challenge.specs.declared.Challenge.{Challenge}
use Rattle.challenge.specs.Challenges.{asked_by}
use Rattle.chronicle.specs.declared.worlds.Shape.{Shape}
use Rattle.report.specs.declared.Note.{Note}
use Rattle.report.specs.declared.Report.{Report}
use Rattle.report.specs.Tags.{note_tag, report_tag}
use Rattle.measure.specs.Measured.{IsNoteOn, IsReportOn}
use Rattle.device.specs.Once.{StartsOnce}
use Rattle.device.proofs.OnePass.{starts_before}

-- ---- an instant

-- one instant of a pass
abbrev an_instant : Discipline → ℕ → ℕ → ℕ
an_instant form.All start end = end
an_instant form.AllExt start end = end
an_instant form.Dec start end = start
an_instant form.Inc start end = end
an_instant form.IncExt start end = end

is_instant : (discipline : Discipline) (start end release : ℕ) → start ≤ end → end ≤ release → IsInstant discipline start end release (an_instant discipline start end)
is_instant form.All start end release order after = (order, omega arith)
is_instant form.AllExt start end release order after = (order, after)
is_instant form.Dec start end release order after = refl
is_instant form.Inc start end release order after = refl
is_instant form.IncExt start end release order after = (omega arith, after)

-- a release place, wherever the discipline asks for one
abbrev MayRelease : List Entry → Discipline → ℕ → ℕ → ℕ → Type 0
MayRelease history discipline number start end = (release : ℕ) × (end ≤ release) × (IsTrue (is_extended discipline) → ReleasesAt history discipline number start release)

abbrev pub ReleasedOnce : Type 0
ReleasedOnce = (w : Setting) (history : List Entry) → IsLegal w history → (form : Discipline) (number start end : ℕ) → EndsAt history form number start end → IsTrue (is_extended form)
    → (release : ℕ) × (end ≤ release) × ReleasesAt history form number start release

abbrev pub EndsOnce : Type 0
EndsOnce = (w : Setting) (history : List Entry) → IsLegal w history → (form : Discipline) (number start end other : ℕ) → EndsAt history form number start end → EndsAt history form number start other → end ≡ other

abbrev pub ReleasesOnce : Type 0
ReleasesOnce = (w : Setting) (history : List Entry) → IsLegal w history → (form : Discipline) (number start release other : ℕ) → ReleasesAt history form number start release → ReleasesAt history form number start other → release ≡ other

may_release : ReleasedOnce → (w : Setting) (history : List Entry) → IsLegal w history → (discipline : Discipline) (number start end : ℕ) → EndsAt history discipline number start end
    → (b : Bool) → is_extended discipline ≡ b → MayRelease history discipline number start end
may_release released w history legal discipline number start end e true is = let r = released w history legal discipline number start end e is in (r.0, r.1, λ _. r.2)
may_release released w history legal discipline number start end e false is = (end, omega arith, λ extended. absurd (false≢true (sym is ∙ extended)))

-- ---- the report

abbrev report_of_parts : Discipline → ℕ → List ℕ → Shape → ℕ → ℕ → List ℕ → Report
report_of_parts discipline counter nonce shape start end tag = record { discipline = discipline; counter = counter; nonce = nonce; shape = shape; start = start; end = end; tag = tag }

same_report : (a b : Report) → a.discipline ≡ b.discipline → a.counter ≡ b.counter → a.nonce ≡ b.nonce → a.shape ≡ b.shape → a.start ≡ b.start → a.end ≡ b.end → a.tag ≡ b.tag → a ≡ b
same_report a b discipline counter nonce shape start end tag =
    ap (λ x. report_of_parts x a.counter a.nonce a.shape a.start a.end a.tag) discipline
    ∙ ap (λ x. report_of_parts b.discipline x a.nonce a.shape a.start a.end a.tag) counter
    ∙ ap (λ x. report_of_parts b.discipline b.counter x a.shape a.start a.end a.tag) nonce
    ∙ ap (λ x. report_of_parts b.discipline b.counter b.nonce x a.start a.end a.tag) shape
    ∙ ap (λ x. report_of_parts b.discipline b.counter b.nonce b.shape x a.end a.tag) start
    ∙ ap (λ x. report_of_parts b.discipline b.counter b.nonce b.shape b.start x a.tag) end
    ∙ ap (λ x. report_of_parts b.discipline b.counter b.nonce b.shape b.start b.end x) tag

pub one_report : EndsOnce → ReleasedOnce → (key : List ℕ) (w : Setting) (c : Challenge) (history : List Entry) → IsLegal w history → StartsOnce history
    → (old before : List Entry) (r other : Report) → IsReportOn key w c old history r → IsReportOn key w c before history other → r ≡ other
one_report ends released key w c history legal once old before r other on also =
    let start : r.start ≡ other.start = once c.discipline c.counter r.start r.end other.start other.end on.ends.pass also.ends.pass on.ends.here also.ends.here in
    let end : r.end ≡ other.end = ends w history legal c.discipline c.counter other.start r.end other.end (subst (λ k. EndsAt history c.discipline c.counter k r.end) start on.ends) also.ends in
    let may = may_release released w history legal c.discipline c.counter r.start r.end on.ends (is_extended c.discipline) refl in
    let place = an_instant c.discipline r.start r.end in
    let instant = is_instant c.discipline r.start r.end may.0 (starts_before history c.discipline c.counter r.start r.end on.ends.pass on.ends.here) may.1 in
    let shape : r.shape ≡ other.shape = on.shape ∙ sym also.shape in
    let first = on.tag place may.0 may.2 instant in
    let second = also.tag place may.0 (λ extended. subst (λ k. ReleasesAt history c.discipline c.counter k may.0) start (may.2 extended))
    (subst (λ k. IsInstant c.discipline k other.end may.0 place) start (subst (λ k. IsInstant c.discipline r.start k may.0 place) end instant)) in
    let bytes = attested_bytes w (memory_at w history place) in
    let tag : r.tag ≡ other.tag =
    first
    ∙ ap (λ x. report_tag key (asked_by c) x bytes r.start r.end) shape
    ∙ ap (λ x. report_tag key (asked_by c) other.shape bytes x r.end) start
    ∙ ap (λ x. report_tag key (asked_by c) other.shape bytes other.start x) end
    ∙ sym second in
    same_report r other (on.discipline ∙ sym also.discipline) (on.counter ∙ sym also.counter) (on.nonce ∙ sym also.nonce) shape start end tag

-- ---- the note

abbrev note_of_parts : ℕ → ℕ → ℕ → ℕ → List ℕ → Note
note_of_parts counter start end release tag = record { counter = counter; start = start; end = end; release = release; tag = tag }

same_note : (a b : Note) → a.counter ≡ b.counter → a.start ≡ b.start → a.end ≡ b.end → a.release ≡ b.release → a.tag ≡ b.tag → a ≡ b
same_note a b counter start end release tag =
    ap (λ x. note_of_parts x a.start a.end a.release a.tag) counter
    ∙ ap (λ x. note_of_parts b.counter x a.end a.release a.tag) start
    ∙ ap (λ x. note_of_parts b.counter b.start x a.release a.tag) end
    ∙ ap (λ x. note_of_parts b.counter b.start b.end x a.tag) release
    ∙ ap (λ x. note_of_parts b.counter b.start b.end b.release x) tag

pub one_note : ReleasesOnce → (key : List ℕ) (w : Setting) (c : Challenge) (history : List Entry) → IsLegal w history
    → (r : Report) (n other : Note) → IsNoteOn key c history r n → IsNoteOn key c history r other → n ≡ other
one_note releases key w c history legal r n other on also =
    let counter : n.counter ≡ other.counter = on.counter ∙ sym also.counter in
    let start : n.start ≡ other.start = on.start ∙ sym also.start in
    let end : n.end ≡ other.end = on.end ∙ sym also.end in
    let release : n.release ≡ other.release = releases w history legal c.discipline c.counter r.start n.release other.release on.releases also.releases in
    let tag : n.tag ≡ other.tag =
    on.tag
    ∙ ap (λ x. note_tag key x n.start n.end n.release r.tag) counter
    ∙ ap (λ x. note_tag key other.counter x n.end n.release r.tag) start
    ∙ ap (λ x. note_tag key other.counter other.start x n.release r.tag) end
    ∙ ap (λ x. note_tag key other.counter other.start other.end x r.tag) release
    ∙ sym also.tag in
    same_note n other counter start end release tag
