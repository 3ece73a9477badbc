-- What the output of a device's run is worth, from its plan.
use Rattle.std.proofs.Common.{◌≡◌, ℕ, List, length, All, Bool, true, false, if◌then◌else◌, Option, None, Some, Ok, refl, sym, ap, subst, ◌∙◌}
use Rattle.att_base.specs.Files.{Contents, NamedBytes}
use Rattle.std.specs.Prelude.{◌↔◌}
use Rattle.std.specs.List.{list_all}
use Rattle.history.specs.declared.events.Entry.{Entry}
use Rattle.history.specs.Broken.{broken}
use Rattle.history.specs.Layout.{IsSetting, Setting}
use Rattle.history.specs.Legal.{IsLegal}
use Rattle.report.specs.declared.Report.{Report}
use Rattle.report.specs.Reports.{report_in}
use Rattle.trace.specs.declared.confirm.Confirmed.TheVariants.{Yes}
use Rattle.trace.specs.Confirm.{IsConfirmed, IsOnPass, confirmed}
use Rattle.command_plans.specs.declared.output.Ending.TheVariants as endings
use Rattle.command_plans.specs.Steps.{exactly}
use Rattle.command_plans.specs.Written.{Written}
use Rattle.image_set.specs.Match.{Known, no_images}
use Rattle.input_files.specs.InputFiles.{KeyIn, ReadImages, image_shape}
use Rattle.loader.specs.declared.placed.Placed.{Placed}
use Rattle.schedule_text.specs.declared.reading.Run.{Run}
use Rattle.device_config.specs.declared.plans.DevicePlan.{DevicePlan}
use Rattle.device_config.specs.Files.{device_file}
use Rattle.device_config.specs.Names.{all_different}
use Rattle.device.specs.declared.outcomes.Outcome.{Outcome}
use Rattle.device.specs.Setups.{Setup}
use Rattle.sched.specs.Scheduled.{IsScheduledOutcome}
use Rattle.device_inputs.specs.declared.admitting.Admission.{Admission}
use Rattle.device_inputs.specs.declared.setup.SetupFiles.{SetupFiles}
use Rattle.device_inputs.specs.declared.setup.ScheduledFiles.{ScheduledFiles}
use Rattle.device_inputs.specs.Inputs.{DeviceIn, ScheduleIn, PlacedIn}
use Rattle.device_inputs.specs.Setups.{AdmissionsIn, NamedIn, SetupIn, ScheduledIn}
use Rattle.device_commands.specs.declared.ends.ChallengeEnd.{ChallengeEnd}
use Rattle.device_commands.specs.ChallengeEnds.{challenge_ends}
use Rattle.device_commands.specs.RunWritten.{names_of, run_files, is_cut, ending_of_run, written_of, IsFinishedRun}
use Rattle.device_commands.specs.Plans.{run_setup, judge_of, MayCome, found as come, spent as unmet, some_that, RunOfFiles, sched_plan, IsThreadedOutcome, ThreadedRunOfFiles, run_plan}
use Rattle.generated.specs.Generated.{generated_key, generated_schedule, generated_setup}
use Rattle.trace_commands.specs.GeneratedRuns.{is_confirmed_end, report_ends}
use Rattle.attest_top.specs.declared.status.Status.{Status}
use Rattle.attest_top.specs.Moments.{Moment, with_appended}
use Rattle.attest_top.specs.Plans.{run_written}
use Rattle.attest_top.specs.Outcomes.{after_files}
use Rattle.attest_top.specs.Causes.{status_of}
use Rattle.attest_top.specs.Headline.{HasBytes, IsUncut, OutcomeTells, SchedTells, RunTells}
use Rattle.attest_top.proofs.Becomes.{WroteAll}
use Rattle.attest_top.proofs.Inverse.{through, known_gave}
use Rattle.attest_top.proofs.Told.{files_told}
use Rattle.attest_top.proofs.Headlines.{device_read}
use Rattle.attest_top.proofs.OneResult.{setup_with, WithAnswers, WithImage, WithItsKey, scheduled_with, WithRuns, WithPlan}

-- What the laws say of what is written: the files of a run have different names, and a run that wasn't cut is whole. A
-- history is legal exactly where no entry of it breaks a rule, and what Yes says of a report. The reports of a generated run
-- that wasn't cut are confirmed.
pub record LawsOfTelling : Type 0 where
  pub names : (text : List ℕ) (plan : DevicePlan) → device_file text ≡ Ok plan → (ends : List ChallengeEnd) (outcome : Outcome) → all_different (names_of (run_files plan ends outcome)) ≡ true
  pub threaded : (s : Setup) (outcome : Outcome) → IsThreadedOutcome s outcome → is_cut outcome ≡ false → IsFinishedRun s outcome
  pub scheduled : (s : Setup) (schedule : List Run) (outcome : Outcome) → IsScheduledOutcome s schedule outcome → is_cut outcome ≡ false → IsFinishedRun s outcome
  pub unbroken : (w : Setting) (history : List Entry) → (broken w history ≡ None) ↔ IsLegal w history
  pub yes : (key : List ℕ) (w : Setting) (history : List Entry) (bytes : List ℕ) (r : Report) → report_in bytes ≡ Some r → (confirmed key w history bytes ≡ Yes) ↔ IsOnPass key w history r
  pub instants : (key : List ℕ) (w : Setting) (history : List Entry) (r : Report) → IsSetting w → IsLegal w history → IsOnPass key w history r → IsConfirmed key w history r
  pub generated : (seed : ℕ) → IsSetting (generated_setup seed).world → (outcome : Outcome) → IsScheduledOutcome (generated_setup seed) (generated_schedule seed) outcome → is_cut outcome ≡ false
      → list_all is_confirmed_end (report_ends generated_key outcome.chronicle outcome.passes) ≡ true

-- ---- the plan of what was read is that of the device file

named_plan : (device : List ℕ) (plan : DevicePlan) (held : Option Contents) (asked : List (List ℕ)) (setup : SetupFiles) → NamedIn device plan held asked (Ok setup) → plan ≡ setup.plan
unfolding NamedIn
named_plan device plan held asked setup is =
    let k = through (KeyIn plan.key held) (λ (key : List ℕ). WithItsKey device plan key held) asked setup is in
    let p = through (PlacedIn device plan held) (λ (image : Placed). WithImage plan k.value image held) k.behind setup k.follows in
    let a = through (AdmissionsIn k.value plan.last plan.challenges held) (λ (answers : List Admission). WithAnswers plan k.value p.value answers held) p.behind setup p.follows in
    let i = through (ReadImages plan.images (no_images (image_shape plan.geometry plan.ranges)) held) (λ (known : Known). exactly (Ok (setup_with plan k.value p.value a.value known))) a.behind setup a.follows in
    let known = known_gave {A = SetupFiles} (Ok (setup_with plan k.value p.value a.value i.value)) i.behind setup i.follows in
    let same : setup_with plan k.value p.value a.value i.value ≡ setup = cc in
    ap (λ (s : SetupFiles). s.plan) same

record PlanSaid (plan : DevicePlan) : Type 0 where
  text : List ℕ
  said : device_file text ≡ Ok plan

setup_said : (device : List ℕ) (held : Option Contents) (asked : List (List ℕ)) (setup : SetupFiles) → SetupIn device held asked (Ok setup) → PlanSaid setup.plan
unfolding SetupIn
setup_said device held asked setup is =
    let d = through (DeviceIn device held) (λ (plan : DevicePlan). NamedIn device plan held) asked setup is in
    let file = device_read device held d.before d.value d.is in
    record { text = file.text; said = file.said ∙ ap (λ (p : DevicePlan). Ok p) (named_plan device d.value held d.behind setup d.follows) }

scheduled_said : (device schedule : List ℕ) (held : Option Contents) (asked : List (List ℕ)) (read : ScheduledFiles) → ScheduledIn device schedule held asked (Ok read) → PlanSaid read.setup.plan
unfolding ScheduledIn
scheduled_said device schedule held asked read is =
    let d = through (DeviceIn device held) (λ (plan : DevicePlan). WithPlan device schedule plan held) asked read is in
    let r = through (ScheduleIn schedule (length d.value.apps) held) (λ (runs : List Run). WithRuns device d.value runs held) d.behind read d.follows in
    let n = through (NamedIn device d.value held) (λ (setup : SetupFiles). exactly (Ok (scheduled_with r.value setup))) r.behind read r.follows in
    let known = known_gave {A = ScheduledFiles} (Ok (scheduled_with r.value n.value)) n.behind read n.follows in
    let same : scheduled_with r.value n.value ≡ read = cc in
    let file = device_read device held d.before d.value d.is in
    let plan : d.value ≡ read.setup.plan = named_plan device d.value held n.before n.value n.is ∙ ap (λ (s : ScheduledFiles). s.setup.plan) same in
    record { text = file.text; said = file.said ∙ ap (λ (p : DevicePlan). Ok p) plan }

-- ---- what has come of it

pub ended_uncut : (cut accepted : Bool) (cap : ℕ) (status : Status) → status ≡ status_of (if cut then endings.Full cap else (if accepted then endings.Accepted else endings.Refused)) → IsUncut status → cut ≡ false
ended_uncut true accepted cap status is uncut = absurd (rw is at uncut)
ended_uncut false accepted cap status is uncut = refl

run_uncut : (files : SetupFiles) (shows_waits : Bool) (outcome : Outcome) (status : Status) → status ≡ status_of (run_written files shows_waits outcome).ending → IsUncut status → is_cut outcome ≡ false
unfolding written_of ending_of_run
run_uncut files shows_waits outcome status is uncut = ended_uncut (is_cut outcome) _ files.plan.cap status is uncut

names_differ : LawsOfTelling → (files : SetupFiles) → PlanSaid files.plan → (shows_waits : Bool) (outcome : Outcome) → all_different (names_of (run_written files shows_waits outcome).files) ≡ true
unfolding written_of
names_differ l files said shows_waits outcome = l.names said.text files.plan said.said (challenge_ends (judge_of files) files.admissions outcome.passes) outcome

outcome_tells : LawsOfTelling → (files : SetupFiles) → PlanSaid files.plan → (shows_waits : Bool) (outcome : Outcome) → (is_cut outcome ≡ false → IsFinishedRun (run_setup files) outcome)
    → (w : Written) → w ≡ run_written files shows_waits outcome → (status : Status) (before after : Moment) → WroteAll w status before after
    → OutcomeTells files outcome (run_written files shows_waits outcome) status before after
outcome_tells l files said shows_waits outcome whole w is status before after wrote =
    let ends : status ≡ status_of (run_written files shows_waits outcome).ending = wrote.ends ∙ ap (λ (v : Written). status_of v.ending) is in
    let held : after.files.held ≡ after_files (run_written files shows_waits outcome).files before.files.held = wrote.files.held ∙ ap (λ (v : Written). after_files v.files before.files.held) is in
    record {
      ends = ends;
      told = subst (λ (h : Option Contents). All (λ (file : NamedBytes). HasBytes h file.name file.bytes) (run_written files shows_waits outcome).files) (sym held)
          (files_told (run_written files shows_waits outcome).files before.files.held (names_differ l files said shows_waits outcome));
      grown = wrote.out ∙ ap (λ (v : Written). with_appended v.out before.out) is;
      whole = λ uncut. whole (run_uncut files shows_waits outcome status ends uncut);
    }

pub came_so : {A : Type 0} (Fits : A → Type 0) (a : A) → MayCome Fits (Ok a) → Fits a
came_so Fits a (come b fits is) = let same : b ≡ a = cc in rw same at fits
came_so Fits a (unmet is) = absurd cc

pub sched_tells : LawsOfTelling → (device schedule : List ℕ) (names : List (List ℕ)) (w : Written) (status : Status) (before after : Moment) → sched_plan device schedule before.files.held names (Ok w)
    → WroteAll w status before after → SchedTells device schedule status before after
unfolding sched_plan
sched_tells l device schedule names w status before after plan wrote =
    let held = before.files.held in
    let t = through (ScheduledIn device schedule held) (λ (read : ScheduledFiles). RunOfFiles read) names w plan in
    let u = through (some_that (IsScheduledOutcome (run_setup t.value.setup) t.value.schedule)) (λ (outcome : Outcome). exactly (Ok (run_written t.value.setup true outcome))) t.behind w t.follows in
    let known = known_gave {A = Written} (Ok (run_written t.value.setup true u.value)) u.behind w u.follows in
    let is : w ≡ run_written t.value.setup true u.value = cc in
    let ran = came_so (IsScheduledOutcome (run_setup t.value.setup) t.value.schedule) u.value u.is.1 in
    record {
      names = t.before;
      files = t.value;
      read = t.is;
      outcome = u.value;
      ran = ran;
      tells = outcome_tells l t.value.setup (scheduled_said device schedule held t.before t.value t.is) true u.value (l.scheduled (run_setup t.value.setup) t.value.schedule u.value ran) w is status before after wrote;
    }

pub run_tells : LawsOfTelling → (device : List ℕ) (names : List (List ℕ)) (w : Written) (status : Status) (before after : Moment) → run_plan device before.files.held names (Ok w)
    → WroteAll w status before after → RunTells device status before after
unfolding run_plan
run_tells l device names w status before after plan wrote =
    let held = before.files.held in
    let t = through (SetupIn device held) (λ (read : SetupFiles). ThreadedRunOfFiles read) names w plan in
    let u = through (some_that (IsThreadedOutcome (run_setup t.value))) (λ (outcome : Outcome). exactly (Ok (run_written t.value false outcome))) t.behind w t.follows in
    let known = known_gave {A = Written} (Ok (run_written t.value false u.value)) u.behind w u.follows in
    let is : w ≡ run_written t.value false u.value = cc in
    let ran = came_so (IsThreadedOutcome (run_setup t.value)) u.value u.is.1 in
    record {
      names = t.before;
      files = t.value;
      read = t.is;
      outcome = u.value;
      ran = ran;
      tells = outcome_tells l t.value (setup_said device held t.before t.value t.is) false u.value (l.threaded (run_setup t.value) u.value ran) w is status before after wrote;
    }
