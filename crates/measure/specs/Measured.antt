-- What a measurement is worth: the promise of a report, and of the note on its release.
use Rattle.std.specs.Prelude.{◌≡◌, ℕ, ◌<◌, true, false, IsTrue, List, ◌∷◌, length, Option, Some, None}
use Rattle.std.specs.List.{list_any}
use Rattle.history.specs.declared.events.Act.{Act}
use Rattle.history.specs.declared.events.Act.TheVariants.{Release}
use Rattle.history.specs.declared.events.Entry.{Entry}
use Rattle.history.specs.Layout.{Setting}
use Rattle.history.specs.Memory.{back, memory_at, attested_bytes}
use Rattle.history.specs.Pass.{is_end, is_extended}
use Rattle.history.specs.Instants.{IsInstant, EndsAt, ReleasesAt}
use Rattle.challenge.specs.declared.Challenge.{Challenge}
use Rattle.challenge.specs.Challenges.{asked_by}
use Rattle.chronicle.specs.Worlds.{shape_of}
use Rattle.chronicle.specs.Ports.{entry_by}
use Rattle.report.specs.declared.Report.{Report}
use Rattle.report.specs.declared.Note.{Note}
use Rattle.report.specs.Tags.{report_tag, note_tag}
use Rattle.measure.specs.declared.measured.Measured.{Measured}
use Rattle.measure.specs.declared.measured.Measured.TheVariants.{Done, Full}
use Rattle.measure.specs.Program.{HasMade, IsCut, measuring_program}

-- The report answers the challenge, on a pass that begins after the entries in old and that ends at the report's
-- place in the history; and its tag is that of the attested memory as it stood at EACH instant of the pass.
pub record IsReportOn (key : List ℕ) (w : Setting) (c : Challenge) (old history : List Entry) (r : Report) : Type 0 where
  pub discipline : r.discipline ≡ c.discipline
  pub counter : r.counter ≡ c.counter
  pub nonce : r.nonce ≡ c.nonce
  pub shape : r.shape ≡ shape_of w
  pub begins : length old < r.start
  pub ends : EndsAt history c.discipline c.counter r.start r.end
  pub tag : (place release : ℕ) → (IsTrue (is_extended c.discipline) → ReleasesAt history c.discipline c.counter r.start release)
      → IsInstant c.discipline r.start r.end release place
      → r.tag ≡ report_tag key (asked_by c) r.shape (attested_bytes w (memory_at w history place)) r.start r.end

-- The note is on the report's pass: the entry at the note's place is the pass's Release, and the note's tag binds that
-- place to the report's tag.
pub record IsNoteOn (key : List ℕ) (c : Challenge) (history : List Entry) (r : Report) (n : Note) : Type 0 where
  pub counter : n.counter ≡ r.counter
  pub start : n.start ≡ r.start
  pub end : n.end ≡ r.end
  pub past : List Entry
  pub here : back history n.release ≡ entry_by 0 Release ∷ past
  pub releases : ReleasesAt history c.discipline c.counter r.start n.release
  pub tag : n.tag ≡ note_tag key n.counter n.start n.end n.release r.tag

-- there is a note exactly in an extended discipline, and its Release is the last entry
abbrev pub HasNote : List ℕ → Challenge → List Entry → Report → Option Note → Type 0
HasNote key c history r None = is_extended c.discipline ≡ false
HasNote key c history r (Some note) = IsTrue (is_extended c.discipline) × IsNoteOn key c history r note × (note.release ≡ length history)

-- there is a report exactly where End's entry was made
abbrev pub HasReport : List ℕ → Setting → Challenge → List Entry → List Entry → List Act → Option Report → Type 0
HasReport key w c old history made None = list_any is_end made ≡ false
HasReport key w c old history made (Some report) = (list_any is_end made ≡ true) × IsReportOn key w c old history report

-- What a measurement says. Done: the measurer has made its whole program, and here are the report and the note.
-- Full: the history filled at this place, before the measurer had made its whole program.
abbrev pub HasMeasured : List ℕ → Setting → Challenge → List Entry → List Entry → Measured → Type 0
HasMeasured key w c old new (Done report note) =
    HasMade old new (measuring_program c (shape_of w)) × IsReportOn key w c old new report × HasNote key c new report note
HasMeasured key w c old new (Full place report) =
    (made : List Act) × IsCut w old new (measuring_program c (shape_of w)) place made × HasReport key w c old new made report
