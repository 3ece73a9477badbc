-- The verdicts on a report and on a release note: the first of these cases.
use Rattle.std.specs.Prelude.{ℕ, Bool, ◌&&◌, not, ◌==◌, nat_le, List, bytes_eq, Option, Some, None, if◌then◌else◌}
use Rattle.history.specs.declared.events.Discipline.{Discipline}
use Rattle.history.specs.Names.{code_of}
use Rattle.history.specs.Pass.{is_extended}
use Rattle.challenge.specs.declared.Challenge.{Challenge}
use Rattle.chronicle.specs.declared.worlds.Shape.{Shape}
use Rattle.report.specs.declared.Report.{Report}
use Rattle.report.specs.declared.Note.{Note}
use Rattle.report.specs.Notes.{note_in}
use Rattle.report.specs.Reports.{report_in}
use Rattle.report.specs.Shapes.{same_shape}
use Rattle.report.specs.Tags.{note_tag}
use Rattle.image_set.specs.declared.Image.{Image}
use Rattle.image_set.specs.Match.{first_match}
use Rattle.verifier.specs.declared.verdicts.Verdict.{Verdict}
use Rattle.verifier.specs.declared.verdicts.Verdict.TheVariants as verdict
use Rattle.verifier.specs.declared.verdicts.NoteVerdict.{NoteVerdict}
use Rattle.verifier.specs.declared.verdicts.NoteVerdict.TheVariants as note

-- what a verifier holds: its key, the challenge that it sent, the greatest counter that it has accepted, and
-- where the attested blocks lie
pub record Standing : Type 0 where
  pub key : List ℕ
  pub expected : Challenge
  pub last : ℕ
  pub shape : Shape

-- each discipline has its own code
abbrev pub same_discipline : Discipline → Discipline → Bool
same_discipline a b = code_of a == code_of b

-- the report says that it answers this challenge
abbrev pub answers : Challenge → Report → Bool
answers c report =
    same_discipline report.discipline c.discipline && (report.counter == c.counter) && bytes_eq report.nonce c.nonce

-- the verdict by the image that was found
abbrev pub verdict_by : Option ℕ → Verdict
verdict_by None = verdict.UnknownMemory
verdict_by (Some position) = verdict.Accepted position

-- the verdict on a report
unfoldable pub verdict_on : Standing → List Image → Report → Verdict
verdict_on v images report =
    if not (answers v.expected report) then verdict.WrongChallenge
    else if nat_le report.counter v.last then verdict.Stale v.last
    else if not (same_shape report.shape v.shape) then verdict.WrongShape
    else verdict_by (first_match v.key report images)

-- the verdict on bytes by what they are read as
abbrev pub verdict_on_reading : Standing → List Image → Option Report → Verdict
verdict_on_reading v images None = verdict.Malformed
verdict_on_reading v images (Some report) = verdict_on v images report

-- the verdict on the bytes of a report
unfoldable pub verdict_of : Standing → List Image → List ℕ → Verdict
verdict_of v images bytes = verdict_on_reading v images (report_in bytes)

-- the counter of the last accepted report, after this verdict: an accepted report has the expected counter
abbrev pub last_after : Standing → Verdict → ℕ
last_after v (verdict.Accepted position) = v.expected.counter
last_after v verdict.Malformed = v.last
last_after v verdict.WrongChallenge = v.last
last_after v (verdict.Stale last) = v.last
last_after v verdict.WrongShape = v.last
last_after v verdict.UnknownMemory = v.last

-- the note is on the release of what the report is on
abbrev pub is_on : Report → Note → Bool
is_on report n =
    is_extended report.discipline && (n.counter == report.counter) && (n.start == report.start) && (n.end == report.end)

-- the note's tag is the one that the key gives
abbrev pub has_note_tag : List ℕ → Report → Note → Bool
has_note_tag key report n = bytes_eq (note_tag key n.counter n.start n.end n.release report.tag) n.tag

-- the verdict on a note
unfoldable pub note_verdict_on : List ℕ → Report → Note → NoteVerdict
note_verdict_on key report n =
    if not (is_on report n) then note.WrongReport
    else if not (has_note_tag key report n) then note.WrongTag
    else note.Accepted n.release

-- the verdict on bytes by what they are read as
abbrev pub note_verdict_on_reading : List ℕ → Report → Option Note → NoteVerdict
note_verdict_on_reading key report None = note.Malformed
note_verdict_on_reading key report (Some n) = note_verdict_on key report n

-- the verdict on the bytes of a note
unfoldable pub note_verdict_of : List ℕ → Report → List ℕ → NoteVerdict
note_verdict_of key report bytes = note_verdict_on_reading key report (note_in bytes)
