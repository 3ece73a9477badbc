-- What is written of a run, and how the command ends.
use Rattle.std.specs.Prelude.{◌≡◌, ℕ, Bool, true, false, ◌||◌, if◌then◌else◌, List, [], ◌∷◌, ◌++◌, length, map, All, is_some}
use Rattle.std.specs.List.{list_any, list_all}
use Rattle.att_base.specs.Files.{NamedBytes}
use Rattle.history.specs.Pass.{is_extended}
use Rattle.challenge.specs.declared.Challenge.{Challenge}
use Rattle.report.specs.Reports.{report_bytes}
use Rattle.report.specs.Notes.{note_bytes}
use Rattle.trace.specs.Text.{trace_text}
use Rattle.device_config.specs.declared.plans.AppPlan.{AppPlan}
use Rattle.device_config.specs.declared.plans.ChallengePlan.{ChallengePlan}
use Rattle.device_config.specs.declared.plans.DevicePlan.{DevicePlan}
use Rattle.rv_core.specs.declared.waits.Ending.{Ending as AppEnding}
use Rattle.app_thread.specs.declared.ends.RunEnd.{RunEnd}
use Rattle.app_thread.specs.declared.ends.RunEnd.TheVariants as run
use Rattle.message_commands.specs.Plans.{accepts}
use Rattle.device.specs.declared.outcomes.AppEnd.{AppEnd}
use Rattle.device.specs.declared.outcomes.Outcome.{Outcome}
use Rattle.device.specs.declared.outcomes.PassEnd.{PassEnd}
use Rattle.device.specs.declared.outcomes.PassEnd.TheVariants as pass
use Rattle.device.specs.Setups.{Setup}
use Rattle.device_inputs.specs.declared.admitting.Admission.{Admission}
use Rattle.command_plans.specs.declared.output.Ending.{Ending}
use Rattle.command_plans.specs.declared.output.Ending.TheVariants.{Accepted, Refused, Full}
use Rattle.command_plans.specs.Written.{Written}
use Rattle.device_commands.specs.declared.ends.ChallengeEnd.{ChallengeEnd}
use Rattle.device_commands.specs.declared.ends.ChallengeEnd.TheVariants.{Malformed, BadMac, Stale, Stopped, Reported}
use Rattle.device_commands.specs.declared.ends.ReleaseEnd.TheVariants as release
use Rattle.device_commands.specs.ChallengeEnds.{Judge, challenge_ends}
use Rattle.device_commands.specs.RunLines.{end_lines, wait_lines, all_challenge_lines, entries_line}

-- ---- files

-- the console of each application
abbrev pub console_files : List AppPlan → List AppEnd → List NamedBytes
console_files [] apps = []
console_files (plan ∷ plans) [] = []
console_files (plan ∷ plans) (app ∷ apps) = record { name = plan.console; bytes = app.console } ∷ console_files plans apps

-- the report of a measurement that has ended, and the note where the locks were given up
unfoldable pub files_of_end : ChallengePlan → ChallengeEnd → List NamedBytes
files_of_end plan (Reported report verdict (release.Noted note)) =
    record { name = plan.report; bytes = report_bytes report } ∷ record { name = plan.note; bytes = note_bytes note } ∷ []
files_of_end plan (Reported report verdict release.Stopped) = record { name = plan.report; bytes = report_bytes report } ∷ []
files_of_end plan (Reported report verdict release.NotHeld) = record { name = plan.report; bytes = report_bytes report } ∷ []
files_of_end plan Malformed = []
files_of_end plan BadMac = []
files_of_end plan (Stale last) = []
files_of_end plan Stopped = []

-- these of each challenge, in order
abbrev pub answer_files : List ChallengePlan → List ChallengeEnd → List NamedBytes
answer_files [] ends = []
answer_files (plan ∷ plans) [] = []
answer_files (plan ∷ plans) (end ∷ ends) = files_of_end plan end ++ answer_files plans ends

-- the trace, each console, and each challenge's report and note
unfoldable pub run_files : DevicePlan → List ChallengeEnd → Outcome → List NamedBytes
run_files plan ends outcome =
    record { name = plan.trace; bytes = trace_text outcome.chronicle.world outcome.chronicle.entries }
    ∷ console_files plan.apps outcome.apps ++ answer_files plan.challenges ends

-- the names of files
abbrev pub names_of : List NamedBytes → List (List ℕ)
names_of files = map (λ file. file.name) files

-- ---- standard output

-- How the applications have ended, how often each waited where that is shown, what the challenges have come to, and how
-- many entries there are.
unfoldable pub run_text : Judge → Bool → List ChallengeEnd → Outcome → List ℕ
run_text by shows_waits ends outcome =
    end_lines 1 outcome.apps
    ++ (if shows_waits then wait_lines 1 outcome.apps else [])
    ++ all_challenge_lines by.known.images 1 ends
    ++ entries_line (length outcome.chronicle.entries)

-- ---- the ending

-- the application met the full history
abbrev pub is_cut_run : RunEnd → Bool
is_cut_run (run.Ended ending) = false
is_cut_run (run.Full place) = true

-- the measurer met the full history, in this measurement or before it
abbrev pub is_cut_pass : PassEnd → Bool
is_cut_pass (pass.Done report noted) = false
is_cut_pass (pass.Full report) = true
is_cut_pass pass.NotStarted = true

-- an actor met the full history
unfoldable pub is_cut : Outcome → Bool
is_cut outcome = list_any (λ app. is_cut_run app.run.end) outcome.apps || list_any is_cut_pass outcome.passes

-- the challenge was admitted, and its report accepted
abbrev pub is_accepted : ChallengeEnd → Bool
is_accepted (Reported report verdict end) = accepts verdict
is_accepted Malformed = false
is_accepted BadMac = false
is_accepted (Stale last) = false
is_accepted Stopped = false

-- a full history comes before a challenge that isn't answered well
unfoldable pub ending_of_run : ℕ → List ChallengeEnd → Outcome → Ending
ending_of_run cap ends outcome = if is_cut outcome then Full cap else (if list_all is_accepted ends then Accepted else Refused)

-- the ending tells of a full history
abbrev pub is_full_ending : Ending → Bool
is_full_ending Accepted = false
is_full_ending Refused = false
is_full_ending (Full cap) = true

-- ---- a whole run

-- the application has ended by itself: it has exited, it was stopped by a trap, or its fuel was used up
abbrev pub HasEndedByItself : AppEnd → Type 0
HasEndedByItself app = (ending : AppEnding) × (app.run.end ≡ run.Ended ending)

-- the challenge has its report, and exactly in an extended discipline its note
abbrev pub IsAnswered : Challenge → PassEnd → Type 0
IsAnswered c (pass.Done report noted) = is_some noted ≡ is_extended c.discipline
IsAnswered c (pass.Full report) = ⊥
IsAnswered c pass.NotStarted = ⊥

-- so is each of these, in order
abbrev pub AreAnswered : List Challenge → List PassEnd → Type 0
AreAnswered [] [] = Unit {0}
AreAnswered (c ∷ more) (end ∷ ends) = IsAnswered c end × AreAnswered more ends
AreAnswered _ _ = ⊥

-- every application has ended by itself, and every challenge that the device serves is answered
pub record IsFinishedRun (s : Setup) (outcome : Outcome) : Type 0 where
  pub count : length outcome.apps ≡ length s.programs
  pub ended : All HasEndedByItself outcome.apps
  pub answered : AreAnswered s.challenges outcome.passes

-- ---- all of it

abbrev pub written_with : DevicePlan → Judge → Bool → List ChallengeEnd → Outcome → Written
written_with plan by shows_waits ends outcome = record {
  files = run_files plan ends outcome;
  out = run_text by shows_waits ends outcome;
  ending = ending_of_run plan.cap ends outcome;
}

-- what is written of a run, where these are the challenges that the device was sent
unfoldable pub written_of : DevicePlan → Judge → List Admission → Bool → Outcome → Written
written_of plan by admissions shows_waits outcome = written_with plan by shows_waits (challenge_ends by admissions outcome.passes) outcome
