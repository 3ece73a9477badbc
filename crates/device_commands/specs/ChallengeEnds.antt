-- What the challenges of a run have come to.
use Rattle.std.specs.Prelude.{ℕ, if◌then◌else◌, List, [], ◌∷◌, drop, Option, Some, None}
use Rattle.history.specs.Pass.{is_extended}
use Rattle.challenge.specs.declared.Challenge.{Challenge}
use Rattle.report.specs.declared.Report.{Report}
use Rattle.report.specs.declared.Note.{Note}
use Rattle.report.specs.Reports.{IsReport, report_bytes}
use Rattle.report.specs.Notes.{IsNote}
use Rattle.image_set.specs.Match.{Known}
use Rattle.verifier.specs.declared.verdicts.Verdict.{Verdict}
use Rattle.verifier.specs.Verdicts.{verdict_of}
use Rattle.device.specs.declared.outcomes.PassEnd.{PassEnd}
use Rattle.device.specs.declared.outcomes.PassEnd.TheVariants as pass
use Rattle.device_inputs.specs.declared.admitting.Admission.{Admission}
use Rattle.device_inputs.specs.declared.admitting.Admission.TheVariants as sent
use Rattle.device_commands.specs.declared.ends.ChallengeEnd.{ChallengeEnd}
use Rattle.device_commands.specs.declared.ends.ChallengeEnd.TheVariants.{Malformed, BadMac, Stale, Stopped, Reported}
use Rattle.device_commands.specs.declared.ends.ReleaseEnd.{ReleaseEnd}
use Rattle.device_commands.specs.declared.ends.ReleaseEnd.TheVariants as release

-- who judges a device's reports: its key, and the known images of its attested blocks
pub record Judge : Type 0 where
  pub key : List ℕ
  pub known : Known

-- the verdict on a report by the challenge that it answers, where this was the greatest counter before that challenge was
-- admitted
unfoldable pub verdict_on_served : Judge → Challenge → ℕ → Report → Verdict
verdict_on_served by c last report =
    verdict_of (record { key = by.key; expected = c; last = last; shape = by.known.shape }) by.known.images (report_bytes report)

-- what has come of the locks of a measurement that has ended
abbrev pub release_end : Challenge → Option Note → ReleaseEnd
release_end c (Some note) = release.Noted note
release_end c None = if is_extended c.discipline then release.Stopped else release.NotHeld

abbrev pub reported : Judge → Challenge → ℕ → Report → Option Note → ChallengeEnd
reported by c last report note = Reported report (verdict_on_served by c last report) (release_end c note)

-- what a challenge that was admitted has come to
unfoldable pub served_end : Judge → Challenge → ℕ → PassEnd → ChallengeEnd
served_end by c last (pass.Done report note) = reported by c last report note
served_end by c last (pass.Full (Some report)) = reported by c last report None
served_end by c last (pass.Full None) = Stopped
served_end by c last pass.NotStarted = Stopped

-- what a challenge has come to, where its measurement has come to this if it was admitted
abbrev pub challenge_end : Judge → Admission → PassEnd → ChallengeEnd
challenge_end by sent.Malformed end = Malformed
challenge_end by sent.BadMac end = BadMac
challenge_end by (sent.Stale last) end = Stale last
challenge_end by (sent.Admitted c last) end = served_end by c last end

-- the first of these measurements; one that isn't among them wasn't started
abbrev pub first_pass : List PassEnd → PassEnd
first_pass [] = pass.NotStarted
first_pass (end ∷ passes) = end

-- the measurements behind that of this challenge: there is one exactly where it was admitted
abbrev pub passes_after : Admission → List PassEnd → List PassEnd
passes_after sent.Malformed passes = passes
passes_after sent.BadMac passes = passes
passes_after (sent.Stale last) passes = passes
passes_after (sent.Admitted c last) passes = drop 1 passes

-- what each of the challenges has come to, in order, where these are the measurements for those that were admitted
abbrev pub challenge_ends : Judge → List Admission → List PassEnd → List ChallengeEnd
challenge_ends by [] passes = []
challenge_ends by (admission ∷ more) passes =
    challenge_end by admission (first_pass passes) ∷ challenge_ends by more (passes_after admission passes)

-- ---- reports and notes that can be written

abbrev pub IsNoteIfAny : Option Note → Type 0
IsNoteIfAny None = Unit {0}
IsNoteIfAny (Some note) = IsNote note

abbrev pub IsReportIfAny : Option Report → Type 0
IsReportIfAny None = Unit {0}
IsReportIfAny (Some report) = IsReport report

-- the report and the note are in their grammars
abbrev pub IsSoundPass : PassEnd → Type 0
IsSoundPass (pass.Done report note) = IsReport report × IsNoteIfAny note
IsSoundPass (pass.Full report) = IsReportIfAny report
IsSoundPass pass.NotStarted = Unit {0}

abbrev pub IsSoundRelease : ReleaseEnd → Type 0
IsSoundRelease (release.Noted note) = IsNote note
IsSoundRelease release.Stopped = Unit {0}
IsSoundRelease release.NotHeld = Unit {0}

abbrev pub IsSoundEnd : ChallengeEnd → Type 0
IsSoundEnd (Reported report verdict end) = IsReport report × IsSoundRelease end
IsSoundEnd _ = Unit {0}
