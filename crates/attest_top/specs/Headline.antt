-- What has been written is worth this: a line for each command, over what files and streams show before and after the call.
use Rattle.std.specs.Prelude.{◌≡◌, ◌≢◌, ℕ, List, [], ◌∷◌, ◌++◌, All, length, true, false, ◌&&◌, if◌then◌else◌, Option, Some, None, Ok, IsOk}
use Rattle.att_base.specs.Files.{Contents}
use Rattle.hmac256.specs.Hmac.{hmac}
use Rattle.challenge.specs.declared.Challenge.{Challenge}
use Rattle.challenge.specs.Bytes.{challenge_head, challenge_bytes}
use Rattle.report.specs.declared.Report.{Report}
use Rattle.report.specs.Reports.{report_in}
use Rattle.executable.specs.declared.Program.{Program as Executable}
use Rattle.executable.specs.Writable.{total_size}
use Rattle.rv_asm.specs.Assembled.{assembled}
use Rattle.elf32.specs.Files.{Executable as ElfFile, elf_of}
use Rattle.elf32.specs.Written.{elf_bytes}
use Rattle.listing.specs.Listing.{listing_of}
use Rattle.executable_commands.specs.Lines.{entry_line}
use Rattle.verifier.specs.declared.verdicts.Verdict.{Verdict}
use Rattle.verifier.specs.declared.verdicts.NoteVerdict.{NoteVerdict}
use Rattle.verifier.specs.Verdicts.{verdict_of}
use Rattle.message_commands.specs.Plans.{Knowledge, KnowledgeIn, ReadNote, verdict_on_note, accepts, accepts_note}
use Rattle.message_commands.specs.Lines.{challenge_line, verdict_lines}
use Rattle.device_config.specs.declared.plans.AppPlan.{AppPlan}
use Rattle.device_config.specs.declared.plans.DevicePlan.{DevicePlan}
use Rattle.device_config.specs.Files.{device_file}
use Rattle.loader.specs.declared.placed.Placed.{Placed}
use Rattle.loader.specs.Placing.{placed}
use Rattle.device.specs.declared.outcomes.Outcome.{Outcome}
use Rattle.sched.specs.Scheduled.{IsScheduledOutcome}
use Rattle.device_inputs.specs.declared.setup.ScheduledFiles.{ScheduledFiles}
use Rattle.device_inputs.specs.declared.setup.SetupFiles.{SetupFiles}
use Rattle.device_inputs.specs.Setups.{ScheduledIn, SetupIn}
use Rattle.history.specs.Broken.{Break, broken}
use Rattle.history.specs.Legal.{IsLegal}
use Rattle.chronicle.specs.Worlds.{Recorded}
use Rattle.trace.specs.declared.confirm.Confirmed.TheVariants.{Yes}
use Rattle.trace.specs.Confirm.{IsConfirmed, confirmed}
use Rattle.trace.specs.Whole.{IsTrace}
use Rattle.generated.specs.Generated.{generated_key, generated_schedule, generated_setup}
use Rattle.device_commands.specs.RunWritten.{IsFinishedRun}
use Rattle.device_commands.specs.Plans.{attested_image, run_setup, IsThreadedOutcome}
use Rattle.trace_commands.specs.Checks.{answer_lines, answers_of, broken_line, is_yes, legal_line}
use Rattle.trace_commands.specs.GeneratedRuns.{is_confirmed_end, report_ends, written_of_generated}
use Rattle.command_plans.specs.Written.{Written}
use Rattle.script.specs.Programs.{Program}
use Rattle.script.specs.Grammar.{program_of}
use Rattle.script.specs.Steps.{meets_full}
use Rattle.script.specs.Printed.{printed}
use Rattle.script.specs.Attested.{IsAttested, IsReleased}
use Rattle.std.specs.List.{list_all}
use Rattle.attest_top.specs.declared.status.Status.{Status}
use Rattle.attest_top.specs.declared.status.Status.TheVariants.{Good, Rejected, Usage, BadInput, OutsideFault, Full, Memory}
use Rattle.attest_top.specs.Lines.{Form, script, asm, show, challenge, verify, image, sched, run, check, gen}
use Rattle.attest_top.specs.Moments.{with_appended, Moment}
use Rattle.attest_top.specs.Plans.{run_written}
use Rattle.attest_top.specs.Causes.{status_of}

-- the name has these bytes, where files tell
abbrev pub HasBytes : Option Contents → List ℕ → List ℕ → Type 0
HasBytes held name bytes = (known : Contents) → held ≡ Some known → known name ≡ Some bytes

-- The text that was left of standard input, where it tells, is that of a script. Standard output has grown by what the
-- script prints. Its history is legal; each tag that an End prints is that of the attested memory at every instant
-- of its pass, and each that a Release prints is that of a note on its pass.
pub record ScriptTells (status : Status) (before after : Moment) : Type 0 where
  pub text : List ℕ
  pub left : (known : List ℕ) → before.input.bytes ≡ Some known → known ≡ text
  pub program : Program
  pub said : program_of text ≡ Ok program
  pub ends : status ≡ (if meets_full program.setting [] program.steps then Full else Good)
  pub grown : after.out ≡ with_appended (printed program) before.out
  pub attested : IsAttested program
  pub released : IsReleased program

-- the name ELF has the file of the program that the text assembles to
pub record AsmTells (text elf : List ℕ) (status : Status) (before after : Moment) : Type 0 where
  pub source : List ℕ
  pub read : HasBytes before.files.held text source
  pub program : Executable
  pub said : assembled source ≡ Ok program
  pub ends : status ≡ Good
  pub file : HasBytes after.files.held elf (elf_bytes program)
  pub grown : after.out ≡ with_appended (entry_line program.entry (length program.segments) (total_size program.segments)) before.out

-- standard output has grown by the listing of the executable
pub record ShowTells (elf : List ℕ) (status : Status) (before after : Moment) : Type 0 where
  pub bytes : List ℕ
  pub read : HasBytes before.files.held elf bytes
  pub file : ElfFile
  pub said : elf_of bytes ≡ Ok file
  pub ends : status ≡ Good
  pub grown : after.out ≡ with_appended (listing_of file.segments) before.out

-- the name OUT has the challenge that the words ask for, under the key
pub record ChallengeTells (key : List ℕ) (asked : Challenge) (out : List ℕ) (status : Status) (before after : Moment) : Type 0 where
  pub bytes : List ℕ
  pub read : HasBytes before.files.held key bytes
  pub ends : status ≡ Good
  pub file : HasBytes after.files.held out (challenge_bytes bytes asked)
  pub grown : after.out ≡ with_appended (challenge_line asked.counter (hmac bytes (challenge_head asked))) before.out

-- standard output has grown by the verdicts on the report and on the note, and the status says whether each accepts
pub record VerifyTells (verifier report : List ℕ) (noted : Option (List ℕ)) (status : Status) (before after : Moment) : Type 0 where
  pub known : Knowledge
  pub names : List (List ℕ)
  pub learned : KnowledgeIn verifier before.files.held names (Ok known)
  pub bytes : List ℕ
  pub read : HasBytes before.files.held report bytes
  pub note : Option (List ℕ)
  pub note_names : List (List ℕ)
  pub note_read : ReadNote noted before.files.held note_names (Ok note)
  pub verdict : Verdict
  pub judged : verdict ≡ verdict_of known.standing known.images bytes
  pub note_verdict : Option NoteVerdict
  pub note_is_judged : note_verdict ≡ verdict_on_note known.standing.key verdict (report_in bytes) note
  pub ends : status ≡ (if accepts verdict && accepts_note note_verdict then Good else Rejected)
  pub grown : after.out ≡ with_appended (verdict_lines known.images verdict note_verdict) before.out

-- each application's file has these bytes, in order, where files tell
abbrev pub AppsHaveBytes : Option Contents → List AppPlan → List (List ℕ) → Type 0
AppsHaveBytes held [] [] = Unit {0}
AppsHaveBytes held (app ∷ apps) (bytes ∷ more) = HasBytes held app.file bytes × AppsHaveBytes held apps more
AppsHaveBytes held apps more = ⊥

-- The device file says what the device is made of, and the files of its applications are executables, which are placed in
-- its memory. The name OUT has the attested bytes of that memory, and nothing is printed.
pub record ImageTells (device out : List ℕ) (status : Status) (before after : Moment) : Type 0 where
  pub text : List ℕ
  pub read : HasBytes before.files.held device text
  pub plan : DevicePlan
  pub said : device_file text ≡ Ok plan
  pub apps : List (List ℕ)
  pub apps_read : AppsHaveBytes before.files.held plan.apps apps
  pub sound : All (λ app. IsOk (elf_of app)) apps
  pub memory : Placed
  pub is_placed : placed plan.geometry apps ≡ Ok memory
  pub ends : status ≡ Good
  pub file : HasBytes after.files.held out (attested_image plan memory.image)
  pub grown : after.out ≡ before.out

-- no history has filled
abbrev pub IsUncut : Status → Type 0
IsUncut Good = Unit {0}
IsUncut Rejected = Unit {0}
IsUncut _ = ⊥

-- A device's run has come to this outcome, of which this is written. Each of the files, the trace of its history, the consoles,
-- the reports and the notes, has its bytes, and standard output has grown by the lines of the run. Unless the history has
-- filled, every application ran to its end, and every challenge that was served has its report and, in an extended
-- discipline, its note.
pub record OutcomeTells (files : SetupFiles) (outcome : Outcome) (w : Written) (status : Status) (before after : Moment) : Type 0 where
  pub ends : status ≡ status_of w.ending
  pub told : All (λ file. HasBytes after.files.held file.name file.bytes) w.files
  pub grown : after.out ≡ with_appended w.out before.out
  pub whole : IsUncut status → IsFinishedRun (run_setup files) outcome

-- The device file, the schedule and the files that the device file names were read, and the device has run under the
-- schedule. It has one legal history, which is that of the scheduled turns; in it each actor's own entries are its
-- program's, and the tag of each report is the digest of the attested memory at every instant of its pass. Files and
-- standard output tell what it has come to.
pub record SchedTells (device schedule : List ℕ) (status : Status) (before after : Moment) : Type 0 where
  pub names : List (List ℕ)
  pub files : ScheduledFiles
  pub read : ScheduledIn device schedule before.files.held names (Ok files)
  pub outcome : Outcome
  pub ran : IsScheduledOutcome (run_setup files.setup) files.schedule outcome
  pub tells : OutcomeTells files.setup outcome (run_written files.setup true outcome) status before after

-- The device file and the files that it names were read, and the device has run on threads. It has one legal history; in it
-- each actor's own entries are its program's, in the program's order, and the tag of each report is the digest of the attested
-- memory at every instant of its pass. Of the order in which the actors came nothing is said. Files and standard output tell
-- what the run has come to.
pub record RunTells (device : List ℕ) (status : Status) (before after : Moment) : Type 0 where
  pub names : List (List ℕ)
  pub files : SetupFiles
  pub read : SetupIn device before.files.held names (Ok files)
  pub outcome : Outcome
  pub ran : IsThreadedOutcome (run_setup files) outcome
  pub tells : OutcomeTells files outcome (run_written files false outcome) status before after

-- The bytes are those of a report on a pass of the recorded history, and its tag is that of the attested memory at EACH
-- instant of the pass.
pub record ReportTells (key : List ℕ) (kept : Recorded) (bytes : List ℕ) : Type 0 where
  pub report : Report
  pub read : report_in bytes ≡ Some report
  pub confirmed : IsConfirmed key kept.world kept.entries report

-- what is confirmed under this key tells so
abbrev pub YesTells : List ℕ → Recorded → Type 0
YesTells key kept = (bytes : List ℕ) → confirmed key kept.world kept.entries bytes ≡ Yes → ReportTells key kept bytes

-- What is printed of a recorded history and of reports: that it is legal, how many entries it has, and whether each report is
-- confirmed, which is what Yes tells; or where it first breaks a rule, and the least such rule.
pub data CheckSays (key : List ℕ) (kept : Recorded) (names reports : List (List ℕ)) (status : Status) (before after : Moment) : Type 0 where
  legal : IsLegal kept.world kept.entries → YesTells key kept
      → status ≡ (if list_all is_yes (answers_of key kept reports) then Good else Rejected)
      → after.out ≡ with_appended (legal_line (length kept.entries) ++ answer_lines names (answers_of key kept reports)) before.out
      → CheckSays key kept names reports status before after
  breaks : (found : Break) → broken kept.world kept.entries ≡ Some found → (IsLegal kept.world kept.entries → ⊥)
      → status ≡ Rejected → after.out ≡ with_appended (broken_line found) before.out
      → CheckSays key kept names reports status before after

-- each of the files has these bytes, in order, where files tell
abbrev pub HaveBytes : Option Contents → List (List ℕ) → List (List ℕ) → Type 0
HaveBytes held [] [] = Unit {0}
HaveBytes held (name ∷ names) (bytes ∷ more) = HasBytes held name bytes × HaveBytes held names more
HaveBytes held names more = ⊥

-- The name TRACE has the text of a recorded history, and the names of the reports have bytes. Standard output has grown by what
-- is said of them under the key, and nothing of a device was needed.
pub record CheckTells (trace key : List ℕ) (names : List (List ℕ)) (status : Status) (before after : Moment) : Type 0 where
  pub text : List ℕ
  pub read : HasBytes before.files.held trace text
  pub kept : Recorded
  pub spelled : IsTrace text kept
  pub secret : List ℕ
  pub key_read : HasBytes before.files.held key secret
  pub reports : List (List ℕ)
  pub reports_read : HaveBytes before.files.held names reports
  pub says : CheckSays secret kept names reports status before after

-- The device that is drawn from the number has run under the schedule that is. It has one legal history, which is that of the
-- scheduled turns; standard output has grown by the lines of the run, with whether each report is confirmed by the history,
-- which is what Yes tells. Unless the history has filled, every application ran to its end, every challenge has its report
-- and, in an extended discipline, its note, and every report is confirmed. So no run ends with the status of a refused report.
pub record GenTells (seed : ℕ) (status : Status) (before after : Moment) : Type 0 where
  pub outcome : Outcome
  pub ran : IsScheduledOutcome (generated_setup seed) (generated_schedule seed) outcome
  pub legal : IsLegal outcome.chronicle.world outcome.chronicle.entries
  pub told : YesTells generated_key outcome.chronicle
  pub ends : status ≡ status_of (written_of_generated generated_key outcome).ending
  pub grown : after.out ≡ with_appended (written_of_generated generated_key outcome).out before.out
  pub whole : IsUncut status → IsFinishedRun (generated_setup seed) outcome
  pub confirmed : IsUncut status → list_all is_confirmed_end (report_ends generated_key outcome.chronicle outcome.passes) ≡ true
  pub unrefused : status ≢ Rejected

-- all was written
abbrev pub AllWritten : Status → Type 0
AllWritten Good = Unit {0}
AllWritten Rejected = Unit {0}
AllWritten Usage = ⊥
AllWritten BadInput = ⊥
AllWritten OutsideFault = ⊥
AllWritten Full = Unit {0}
AllWritten Memory = ⊥

-- what has been written, where all was
abbrev pub Headline : Option Form → Status → Moment → Moment → Type 0
Headline None status before after = AllWritten status → ⊥
Headline (Some script) status before after = AllWritten status → ScriptTells status before after
Headline (Some (asm text elf)) status before after = AllWritten status → AsmTells text elf status before after
Headline (Some (show elf)) status before after = AllWritten status → ShowTells elf status before after
Headline (Some (challenge key asked out)) status before after = AllWritten status → ChallengeTells key asked out status before after
Headline (Some (verify verifier report noted)) status before after = AllWritten status → VerifyTells verifier report noted status before after
Headline (Some (image device out)) status before after = AllWritten status → ImageTells device out status before after
Headline (Some (sched device schedule)) status before after = AllWritten status → SchedTells device schedule status before after
Headline (Some (run device)) status before after = AllWritten status → RunTells device status before after
Headline (Some (check trace key names)) status before after = AllWritten status → CheckTells trace key names status before after
Headline (Some (gen seed)) status before after = AllWritten status → GenTells seed status before after
