-- Whether a report is one on a pass of a history, and what it is worth that it is.
use Rattle.std.specs.Prelude.{◌≡◌, ℕ, Bool, false, not, ◌&&◌, ◌==◌, nat_le, if◌then◌else◌, IsTrue, List, length, bytes_eq, Option, Some, None, option_map}
use Rattle.history.specs.declared.events.Act.{Act}
use Rattle.history.specs.declared.events.Act.TheVariants.{Start}
use Rattle.history.specs.declared.events.Entry.{Entry}
use Rattle.history.specs.Names.{code_of}
use Rattle.history.specs.Layout.{Setting}
use Rattle.history.specs.Memory.{attested_bytes, back, memory_at}
use Rattle.history.specs.Pass.{Pass, is_end, is_extended, pass_after, start_of}
use Rattle.history.specs.Instants.{EndsAt, IsInstant, ReleasesAt, is_newest}
use Rattle.history.specs.Sliding.{locks_at_start}
use Rattle.chronicle.specs.Worlds.{shape_of}
use Rattle.report.specs.declared.Report.{Report}
use Rattle.report.specs.Reports.{SpellsReport, asked_of, report_in}
use Rattle.report.specs.Shapes.{same_shape}
use Rattle.report.specs.Tags.{report_tag}
use Rattle.trace.specs.declared.confirm.Confirmed.{Confirmed}
use Rattle.trace.specs.declared.confirm.Confirmed.TheVariants.{Malformed, WrongShape, NoPass, WrongTag, Yes}
use Rattle.trace.specs.declared.confirm.Opening.{Opening}

-- how a pass was opened
abbrev pub opening_of : Pass → Opening
opening_of pass = record { discipline = pass.discipline; counter = pass.counter; place = start_of pass }

-- the pass that an act opens at a place
abbrev pub opened_at : ℕ → Act → Option Opening
opened_at place (Start discipline counter) = Some (record { discipline = discipline; counter = counter; place = place })
opened_at place _ = None

-- it is the Start that the report names
abbrev pub is_opening_of : Report → Option Opening → Bool
is_opening_of r None = false
is_opening_of r (Some opening) = (code_of opening.discipline == code_of r.discipline) && (opening.counter == r.counter) && (opening.place == r.start)

-- The history has the pass that the report names: the entry at the report's End is an End, and the last Start before it
-- has the report's discipline and counter and stands at the report's Start.
abbrev pub names_pass : List Entry → Report → Bool
names_pass history r =
    nat_le r.end (length history) && is_newest is_end (back history r.end) && is_opening_of r (option_map opening_of (pass_after (back history r.end)))

-- the place whose memory is looked at: Start's where the discipline locks all blocks from Start on, else End's
abbrev pub told_place : Report → ℕ
told_place r = if locks_at_start r.discipline then r.start else r.end

-- the tag of a report with these fields, if the attested memory is that of the place
abbrev pub tag_at : List ℕ → Setting → List Entry → Report → ℕ → List ℕ
tag_at key w history r place = report_tag key (asked_of r) r.shape (attested_bytes w (memory_at w history place)) r.start r.end

-- what a report is told: the first of these cases
unfoldable pub confirmed_report : List ℕ → Setting → List Entry → Report → Confirmed
confirmed_report key w history r =
    if not (same_shape r.shape (shape_of w)) then WrongShape
    else (if not (names_pass history r) then NoPass
    else (if not (bytes_eq (tag_at key w history r (told_place r)) r.tag) then WrongTag
    else Yes))

-- what bytes are told by what they are read as
abbrev pub confirmed_reading : List ℕ → Setting → List Entry → Option Report → Confirmed
confirmed_reading key w history None = Malformed
confirmed_reading key w history (Some r) = confirmed_report key w history r

-- what the bytes of a report are told
unfoldable pub confirmed : List ℕ → Setting → List Entry → List ℕ → Confirmed
confirmed key w history bytes = confirmed_reading key w history (report_in bytes)

-- The report is on a pass of the history: it has the attested blocks of its memory, a pass has its discipline, counter,
-- Start and End, and its tag is that of the attested memory at the place that is looked at.
pub record IsOnPass (key : List ℕ) (w : Setting) (history : List Entry) (r : Report) : Type 0 where
  pub shape : r.shape ≡ shape_of w
  pub ends : EndsAt history r.discipline r.counter r.start r.end
  pub tag : r.tag ≡ tag_at key w history r (told_place r)

-- The same, and its tag is that of the attested memory as it stood at EACH instant of the pass.
pub record IsConfirmed (key : List ℕ) (w : Setting) (history : List Entry) (r : Report) : Type 0 where
  pub shape : r.shape ≡ shape_of w
  pub ends : EndsAt history r.discipline r.counter r.start r.end
  pub tag : (place release : ℕ) → (IsTrue (is_extended r.discipline) → ReleasesAt history r.discipline r.counter r.start release)
      → IsInstant r.discipline r.start r.end release place
      → r.tag ≡ tag_at key w history r place

-- what Yes is worth: the bytes are those of a report, which is one on a pass of the history
pub record Tells (key : List ℕ) (w : Setting) (history : List Entry) (bytes : List ℕ) : Type 0 where
  pub report : Report
  pub spelled : SpellsReport bytes report
  pub confirmed : IsConfirmed key w history report
