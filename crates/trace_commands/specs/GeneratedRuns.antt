-- What `gen` prints of a run: the lines of a scheduled run, but that a report is told whether it is one on a pass of the
-- recorded history, in place of a verdict on it.
use Rattle.std.specs.Prelude.{◌≡◌, ℕ, ◌+◌, ◌^◌, ◌<◌, Bool, true, false, if◌then◌else◌, List, [], ◌∷◌, ◌++◌, codes, length, map, Option, Some, None}
use Rattle.std.specs.Fmt.{decimal}
use Rattle.std.specs.List.{list_all}
use Rattle.history.specs.Pass.{is_extended}
use Rattle.challenge.specs.declared.Challenge.{Challenge}
use Rattle.chronicle.specs.Worlds.{Recorded}
use Rattle.report.specs.declared.Report.{Report}
use Rattle.report.specs.declared.Note.{Note}
use Rattle.report.specs.Reports.{report_bytes}
use Rattle.trace.specs.declared.confirm.Confirmed.{Confirmed}
use Rattle.trace.specs.declared.confirm.Confirmed.TheVariants as told
use Rattle.trace.specs.Confirm.{confirmed}
use Rattle.device.specs.declared.outcomes.Outcome.{Outcome}
use Rattle.device.specs.declared.outcomes.PassEnd.{PassEnd}
use Rattle.device.specs.declared.outcomes.PassEnd.TheVariants as pass
use Rattle.device_commands.specs.declared.ends.ReleaseEnd.{ReleaseEnd}
use Rattle.device_commands.specs.declared.ends.ReleaseEnd.TheVariants as release
use Rattle.device_commands.specs.RunLines.{end_lines, entries_line, numbered_line, release_line, report_text, wait_lines}
use Rattle.device_commands.specs.RunWritten.{is_cut}
use Rattle.command_plans.specs.declared.output.Ending.{Ending}
use Rattle.command_plans.specs.declared.output.Ending.TheVariants.{Accepted, Refused, Full}
use Rattle.command_plans.specs.Written.{Written}
use Rattle.trace_commands.specs.declared.ends.ReportEnd.{ReportEnd}
use Rattle.trace_commands.specs.declared.ends.ReportEnd.TheVariants.{Stopped, Reported}

-- ---- what the challenges of a run have come to

-- what has come of the locks of a measurement that has ended
abbrev pub release_after : Report → Option Note → ReleaseEnd
release_after report (Some note) = release.Noted note
release_after report None = if is_extended report.discipline then release.Stopped else release.NotHeld

abbrev pub report_told : List ℕ → Recorded → Report → Option Note → ReportEnd
report_told key kept report note = Reported report (confirmed key kept.world kept.entries (report_bytes report)) (release_after report note)

-- what a measurement has come to, in this recorded history
unfoldable pub report_end : List ℕ → Recorded → PassEnd → ReportEnd
report_end key kept (pass.Done report note) = report_told key kept report note
report_end key kept (pass.Full (Some report)) = report_told key kept report None
report_end key kept (pass.Full None) = Stopped
report_end key kept pass.NotStarted = Stopped

abbrev pub report_ends : List ℕ → Recorded → List PassEnd → List ReportEnd
report_ends key kept passes = map (report_end key kept) passes

-- ---- lines

-- the number of the first reason for which a report isn't confirmed
abbrev pub refusal : Confirmed → Option ℕ
refusal told.Malformed = Some 1
refusal told.WrongShape = Some 2
refusal told.NoPass = Some 3
refusal told.WrongTag = Some 4
refusal told.Yes = None

-- `confirmed J`, or `refused J V`
abbrev pub answer_line : ℕ → Option ℕ → List ℕ
answer_line number None = codes "confirmed " ++ decimal number ++ codes "\n"
answer_line number (Some reason) = numbered_line (codes "refused") number (decimal reason)

-- what the challenge of this number has come to
unfoldable pub report_lines : ℕ → ReportEnd → List ℕ
report_lines number Stopped = numbered_line (codes "challenge") number (codes "stopped")
report_lines number (Reported report answer end) =
    numbered_line (codes "challenge") number (report_text report)
    ++ answer_line number (refusal answer)
    ++ release_line number end

-- what the challenges from this number on have come to
abbrev pub all_report_lines : ℕ → List ReportEnd → List ℕ
all_report_lines number [] = []
all_report_lines number (end ∷ ends) = report_lines number end ++ all_report_lines (number + 1) ends

-- How the applications have ended, how often each waited, what the challenges have come to, and how many entries there
-- are.
unfoldable pub generated_text : List ReportEnd → Outcome → List ℕ
generated_text ends outcome =
    end_lines 1 outcome.apps ++ wait_lines 1 outcome.apps ++ all_report_lines 1 ends ++ entries_line (length outcome.chronicle.entries)

-- ---- all of it

-- the report was made, and is confirmed
abbrev pub is_confirmed_end : ReportEnd → Bool
is_confirmed_end Stopped = false
is_confirmed_end (Reported report told.Yes end) = true
is_confirmed_end (Reported report _ end) = false

-- a full history comes before a report that isn't confirmed
unfoldable pub ending_of_reports : ℕ → List ReportEnd → Outcome → Ending
ending_of_reports cap ends outcome = if is_cut outcome then Full cap else (if list_all is_confirmed_end ends then Accepted else Refused)

abbrev pub written_with_ends : List ReportEnd → Outcome → Written
written_with_ends ends outcome = record {
  files = [];
  out = generated_text ends outcome;
  ending = ending_of_reports outcome.chronicle.world.cap ends outcome;
}

-- what is written of a run whose reports have this key
unfoldable pub written_of_generated : List ℕ → Outcome → Written
written_of_generated key outcome = written_with_ends (report_ends key outcome.chronicle outcome.passes) outcome

-- ---- challenges whose reports are read again

-- each number and each list of bytes of the challenge has the width of its field in a report
pub record FitsChallenge (c : Challenge) : Type 0 where
  pub counter : c.counter < 2 ^ 64
  pub nonce : length c.nonce ≡ 16
