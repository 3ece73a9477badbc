-- A measurement that is made a step at a time: what is left of its program, and how it stands between its turns.
use Rattle.std.specs.Prelude.{◌≡◌, ℕ, ◌<◌, ◌≤◌, Bool, true, false, if◌then◌else◌, IsTrue, List, ◌∷◌, ◌++◌, length, reverse, Option, Some, None, is_some}
use Rattle.std.specs.List.{list_any}
use Rattle.history.specs.declared.events.Act.{Act}
use Rattle.history.specs.declared.events.Act.TheVariants as act
use Rattle.history.specs.declared.events.Entry.{Entry}
use Rattle.history.specs.Attested.{total}
use Rattle.history.specs.Layout.{Setting, IsSetting}
use Rattle.history.specs.Memory.{block_bytes, memory_after}
use Rattle.history.specs.Pass.{is_end, is_extended}
use Rattle.history.specs.Legal.{IsLegal}
use Rattle.history.specs.Copied.{copied_bytes}
use Rattle.hmac256.specs.States.{StandsFor}
use Rattle.challenge.specs.declared.Challenge.{Challenge}
use Rattle.challenge.specs.Challenges.{asked_by}
use Rattle.chronicle.specs.declared.answers.Step.{Step}
use Rattle.chronicle.specs.declared.answers.Step.TheVariants as step
use Rattle.chronicle.specs.Worlds.{shape_of}
use Rattle.chronicle.specs.Ports.{AddsEntry, HasStepped, IsDone, IsFull, StepsAlone, entry_by}
use Rattle.report.specs.declared.Report.{Report}
use Rattle.report.specs.declared.Note.{Note}
use Rattle.report.specs.Tags.{head_bytes, report_tag}
use Rattle.measure.specs.declared.machine.Stage.{Stage}
use Rattle.measure.specs.declared.machine.Stage.TheVariants as stage
use Rattle.measure.specs.declared.passing.Passing.{Passing}
use Rattle.measure.specs.declared.stepping.Progress.{Progress}
use Rattle.measure.specs.declared.stepping.Progress.TheVariants as progress
use Rattle.measure.specs.declared.stepping.Measuring.{Measuring}
use Rattle.measure.specs.Program.{HasMade, MayStart, measuring_program}
use Rattle.measure.specs.Measured.{IsNoteOn, IsReportOn}
use Rattle.measure.specs.Machine.{acts_left}
use Rattle.measure.specs.Passing.{HasEnded, IsPassing, IsUnderWay, report_with}

-- the stage, without what it keeps
abbrev pub stage_of : Progress → Stage
stage_of (progress.Leading left) = stage.Leading left
stage_of (progress.Copying passing made) = stage.Copying made
stage_of (progress.Holding report left) = stage.Holding left
stage_of (progress.Over report last) = stage.Over

-- what is left of the program
abbrev pub left_of : Setting → Measuring → List Act
left_of w m = acts_left m.challenge (shape_of w) (stage_of m.progress)

-- the last stage
abbrev pub is_last : Progress → Bool
is_last (progress.Over report last) = true
is_last other = false

-- the report that a stage keeps: there is one once End is made
abbrev pub stage_report : Progress → Option Report
stage_report (progress.Holding report left) = Some report
stage_report (progress.Over report last) = Some report
stage_report other = None

-- the note that a stage keeps: there is one once Release is made
abbrev pub stage_note : Progress → Option Note
stage_note (progress.Over report last) = last
stage_note other = None

-- its whole program is made
abbrev pub is_over : Measuring → Bool
is_over m = is_last m.progress

abbrev pub report_of : Measuring → Option Report
report_of m = stage_report m.progress

abbrev pub note_of : Measuring → Option Note
note_of m = stage_note m.progress

-- there is a note exactly in an extended discipline, wherever its Release stands
abbrev pub HasNoteOn : List ℕ → Challenge → List Entry → Report → Option Note → Type 0
HasNoteOn key c history r None = is_extended c.discipline ≡ false
HasNoteOn key c history r (Some note) = IsTrue (is_extended c.discipline) × IsNoteOn key c history r note

-- What a stage keeps is right: between Start and End the pass and its digest, after End the report, and at last the
-- note too.
abbrev pub KeepsRight : List ℕ → Setting → Challenge → List Entry → List Entry → Progress → Type 0
KeepsRight key w c old seen (progress.Leading left) = Unit {0}
KeepsRight key w c old seen (progress.Copying passing made) =
    (made ≤ total w.ranges) × (passing.challenge ≡ c) × (length old < passing.start) × IsPassing w seen made passing
    × StandsFor passing.hmac key (head_bytes (asked_by c) (shape_of w) ++ copied_bytes w (reverse seen))
KeepsRight key w c old seen (progress.Holding report left) =
    IsTrue (is_extended c.discipline) × (length old < report.start) × HasEnded key w c seen report × IsUnderWay w seen c report.start (total w.ranges) true
KeepsRight key w c old seen (progress.Over report last) = IsReportOn key w c old seen report × HasNoteOn key c seen report last

-- How a measurement stands that was begun after the entries in old, in which no pass is open: the measurer's entries
-- since are a front of the challenge's program, and the rest is left; there is a report exactly where End is made; and
-- what its stage keeps is right.
pub record Stands (key : List ℕ) (w : Setting) (c : Challenge) (old seen : List Entry) (m : Measuring) : Type 0 where
  pub setting : IsSetting w
  pub start : MayStart w old
  pub legal : IsLegal w seen
  pub challenge : m.challenge ≡ c
  pub made : List Act
  pub whole : measuring_program c (shape_of w) ≡ made ++ left_of w m
  pub entries : HasMade old seen made
  pub reported : list_any is_end made ≡ is_some (report_of m)
  pub kept : KeepsRight key w c old seen m.progress

-- it stands so for some challenge, from some list of entries on
abbrev pub IsStanding : List ℕ → Setting → List Entry → Measuring → Type 0
IsStanding key w seen m = (c : Challenge) × (old : List Entry) × Stands key w c old seen m

-- What a turn says. Done: the first of the acts that were left is made, and the others are left. Full: the history
-- was full, and nothing has changed.
abbrev pub TakesStep : Setting → List Entry → List Entry → Measuring → Measuring → Step → Type 0
TakesStep w old new before after (step.Done place) = (next : Act) × (left_of w before ≡ next ∷ left_of w after) × IsDone 0 1 old new next place
TakesStep w old new before after (step.Full place) = (after ≡ before) × IsFull w 0 1 old new place

-- what it says where nobody but the port makes entries
abbrev pub TakesStepAlone : Setting → List Entry → List Entry → Measuring → Step → Type 0
TakesStepAlone w old new before answer = (next : Act) (missed : List Act) → left_of w before ≡ next ∷ missed → StepsAlone 0 old new next answer

-- the stage once End is made
abbrev pub stage_after_end : Challenge → Report → Progress
stage_after_end c report = if is_extended c.discipline then progress.Holding report c.hold else progress.Over report None

-- the stage once End is made, at this place, of this pass: the report's tag is that of the bytes that were digested
abbrev pub IsStageAfterEnd : Challenge → Passing → ℕ → Progress → Type 0
IsStageAfterEnd c p place after =
    (tag : List ℕ) × (after ≡ stage_after_end c (report_with p place tag))
    × ((key text : List ℕ) → StandsFor p.hmac key (head_bytes (asked_by p.challenge) p.shape ++ text) → tag ≡ report_tag key (asked_by p.challenge) p.shape text p.start place)

-- the bytes are those of the block that was copied last, if the act is its Copy
abbrev pub HoldsCopied : Setting → List Entry → Act → List ℕ → Type 0
HoldsCopied w seen (act.Copy block) bytes = bytes ≡ block_bytes w (memory_after w (reverse seen)) block
HoldsCopied w seen other bytes = Unit {0}

abbrev pub HoldsWhereDone : Setting → List Entry → Act → List ℕ → Step → Type 0
HoldsWhereDone w seen a bytes (step.Done place) = HoldsCopied w seen a bytes
HoldsWhereDone w seen a bytes (step.Full place) = Unit {0}

-- A port was asked for the first of these acts, and this is its answer; the bytes are those of the block that it copied.
pub record HasAsked (alone : Type 0) (w : Setting) (old new : List Entry) (left : List Act) (bytes : List ℕ) (answer : Step) : Type 0 where
  pub next : Act
  pub missed : List Act
  pub whole : left ≡ next ∷ missed
  pub stepped : HasStepped w 0 1 old new next answer
  pub only : alone → StepsAlone 0 old new next answer
  pub holds : HoldsWhereDone w new next bytes answer

-- the act was made, at this place, after entries of others; the bytes are those of the block that it copied
pub record IsMade (w : Setting) (old new : List Entry) (a : Act) (place : ℕ) (bytes : List ℕ) : Type 0 where
  pub adds : AddsEntry 0 1 old new (entry_by 0 a)
  pub here : place ≡ length new
  pub legal : IsLegal w new
  pub holds : HoldsCopied w new a bytes

-- once the first of the acts that were left is made, the measurement stands with the others left
abbrev pub TakesIn : List ℕ → Setting → Challenge → List Entry → List Entry → List Entry → Measuring → Measuring → ℕ → List ℕ → Type 0
TakesIn key w c first old new before after place bytes =
    (next : Act) (missed : List Act) → Stands key w c first old before → left_of w before ≡ next ∷ missed → IsMade w old new next place bytes
    → Stands key w c first new after × (left_of w after ≡ missed)
