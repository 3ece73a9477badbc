-- What the output of `check` and of `gen` is worth, from their plans.
use Rattle.std.proofs.Common.{◌≡◌, ◌≢◌, ℕ, List, [], ◌∷◌, length, Bool, true, false, if◌then◌else◌, Option, None, Some, Ok, refl, sym, ap, subst, ◌∙◌}
use Rattle.std.specs.List.{list_all}
use Rattle.att_base.specs.Files.{Contents}
use Rattle.history.specs.declared.events.Entry.{Entry}
use Rattle.history.specs.Broken.{Break, broken}
use Rattle.history.specs.Layout.{IsSetting, Setting}
use Rattle.history.specs.Legal.{IsLegal}
use Rattle.chronicle.specs.Worlds.{Recorded}
use Rattle.report.specs.declared.Report.{Report}
use Rattle.report.specs.Reports.{report_in}
use Rattle.trace.specs.declared.confirm.Confirmed.{Confirmed}
use Rattle.trace.specs.declared.confirm.Confirmed.TheVariants.{Yes}
use Rattle.trace.specs.Confirm.{confirmed, confirmed_reading}
use Rattle.trace.specs.Whole.{IsTrace}
use Rattle.command_plans.specs.declared.output.Ending.TheVariants as endings
use Rattle.command_plans.specs.Steps.{exactly, Then}
use Rattle.command_plans.specs.Reading.{input_limit, ReadFile}
use Rattle.command_plans.specs.Written.{Written}
use Rattle.input_files.specs.InputFiles.{KeyIn}
use Rattle.device_inputs.specs.Lists.{ReadEach}
use Rattle.device.specs.declared.outcomes.Outcome.{Outcome}
use Rattle.device.specs.Setups.{Setup}
use Rattle.sched.specs.Scheduled.{IsScheduledOutcome}
use Rattle.device_commands.specs.RunWritten.{is_cut}
use Rattle.device_commands.specs.Plans.{some_that}
use Rattle.generated.specs.Generated.{generated_key, generated_schedule, generated_setup}
use Rattle.trace_commands.specs.Checks.{trace_limit, IsTraceReading, is_trace, leaves, spent as no_trace, TraceOf, TraceIn, ReportIn, answers_of, is_yes, written_legal, written_unless, written_of_check, check_plan}
use Rattle.trace_commands.specs.GeneratedRuns.{written_of_generated, ending_of_reports, is_confirmed_end, report_ends}
use Rattle.trace_commands.specs.Plans.{gen_plan}
use Rattle.attest_top.specs.declared.status.Status.{Status}
use Rattle.attest_top.specs.declared.status.Status.TheVariants.{Rejected}
use Rattle.attest_top.specs.Moments.{Moment, with_appended}
use Rattle.attest_top.specs.Causes.{status_of}
use Rattle.attest_top.specs.Plans.{named_check_plan}
use Rattle.attest_top.specs.Headline.{HasBytes, IsUncut, YesTells, ReportTells, CheckSays, legal, breaks, HaveBytes, CheckTells, GenTells}
use Rattle.attest_top.proofs.Becomes.{WroteAll}
use Rattle.attest_top.proofs.Inverse.{through, known_gave, file_read}
use Rattle.attest_top.proofs.Headlines.{key_read, verdict_status}
use Rattle.attest_top.proofs.RunHeadlines.{LawsOfTelling, ended_uncut, came_so}
use Rattle.attest_top.proofs.OneResult.{WithSecret, WithHistory}

-- ---- what Yes is worth

abbrev recorded : Setting → List Entry → Recorded
recorded w history = record { world = w; entries = history }

yes_reading : LawsOfTelling → (key : List ℕ) (kept : Recorded) → IsSetting kept.world → IsLegal kept.world kept.entries → (bytes : List ℕ) (read : Option Report) → report_in bytes ≡ read
    → confirmed key kept.world kept.entries bytes ≡ Yes → ReportTells key kept bytes
unfolding confirmed
yes_reading l key kept setting sound bytes None is answer =
    let none : confirmed_reading key kept.world kept.entries (report_in bytes) ≡ confirmed_reading key kept.world kept.entries None = ap (λ (r : Option Report). confirmed_reading key kept.world kept.entries r) is in
    absurd (let e = sym none ∙ answer in cc)
yes_reading l key kept setting sound bytes (Some r) is answer = record {
  report = r;
  read = is;
  confirmed = l.instants key kept.world kept.entries r setting sound ((l.yes key kept.world kept.entries bytes r is).0 answer);
}

yes_tells : LawsOfTelling → (key : List ℕ) (kept : Recorded) → IsSetting kept.world → IsLegal kept.world kept.entries → YesTells key kept
yes_tells l key kept setting sound = λ bytes answer. yes_reading l key kept setting sound bytes (report_in bytes) refl answer

-- ---- `check`

reading_is : (name text : List ℕ) (kept : Recorded) → IsTraceReading name text (Ok kept) → IsTrace text kept
reading_is name text kept (is_trace other spelled is) = let same : other ≡ kept = cc in subst (λ (k : Recorded). IsTrace text k) same spelled
reading_is name text kept (leaves line at is) = absurd cc
reading_is name text kept (no_trace is) = absurd cc

record TraceRead (name : List ℕ) (held : Option Contents) (kept : Recorded) : Type 0 where
  text : List ℕ
  read : HasBytes held name text
  spelled : IsTrace text kept

trace_read : (name : List ℕ) (held : Option Contents) (asked : List (List ℕ)) (kept : Recorded) → TraceIn name held asked (Ok kept) → TraceRead name held kept
unfolding TraceIn
trace_read name held asked kept is =
    let t = through (ReadFile trace_limit name held) (λ (text : List ℕ). TraceOf name text) asked kept is in
    record { text = t.value; read = file_read trace_limit name held t.before t.value t.is; spelled = reading_is name t.value kept t.follows.1 }

report_read : (held : Option Contents) (name : List ℕ) (asked : List (List ℕ)) (bytes : List ℕ) → ReportIn name held asked (Ok bytes) → HasBytes held name bytes
unfolding ReportIn
report_read held name asked bytes is = file_read input_limit name held asked bytes is

reports_read : (held : Option Contents) (names : List (List ℕ)) (asked : List (List ℕ)) (reports : List (List ℕ)) → ReadEach ReportIn names held asked (Ok reports) → HaveBytes held names reports
reports_read held [] asked reports is =
    let known = known_gave {A = List (List ℕ)} (Ok []) asked reports is in
    let none : [] ≡ reports = cc in
    let whole : HaveBytes held [] [] = tt in
    subst (λ (r : List (List ℕ)). HaveBytes held [] r) none whole
reports_read held (name ∷ names) asked reports is =
    let t = through (ReportIn name held) (λ (bytes : List ℕ). Then (ReadEach ReportIn names held) (λ (rest : List (List ℕ)). exactly (Ok (bytes ∷ rest)))) asked reports is in
    let u = through (ReadEach ReportIn names held) (λ (rest : List (List ℕ)). exactly (Ok (t.value ∷ rest))) t.behind reports t.follows in
    let known = known_gave {A = List (List ℕ)} (Ok (t.value ∷ u.value)) u.behind reports u.follows in
    let all : t.value ∷ u.value ≡ reports = cc in
    let whole : HaveBytes held (name ∷ names) (t.value ∷ u.value) = (report_read held name t.before t.value t.is, reports_read held names u.before u.value u.is) in
    subst (λ (r : List (List ℕ)). HaveBytes held (name ∷ names) r) all whole

-- what was read, and what is written of it
record Checked (trace key : List ℕ) (names : List (List ℕ)) (held : Option Contents) (w : Written) : Type 0 where
  kept : Recorded
  trace_is : TraceRead trace held kept
  secret : List ℕ
  key_is : HasBytes held key secret
  reports : List (List ℕ)
  reports_are : HaveBytes held names reports
  is : w ≡ written_of_check secret kept names reports

checked_of : (trace key : List ℕ) (names : List (List ℕ)) (held : Option Contents) (asked : List (List ℕ)) (w : Written) → check_plan trace key names held asked (Ok w) → Checked trace key names held w
unfolding check_plan
checked_of trace key names held asked w plan =
    let t = through (TraceIn trace held) (λ (kept : Recorded). WithHistory key kept names held) asked w plan in
    let k = through (KeyIn key held) (λ (secret : List ℕ). WithSecret t.value secret names held) t.behind w t.follows in
    let r = through (ReadEach ReportIn names held) (λ (reports : List (List ℕ)). exactly (Ok (written_of_check k.value t.value names reports))) k.behind w k.follows in
    let known = known_gave {A = Written} (Ok (written_of_check k.value t.value names r.value)) r.behind w r.follows in
    record {
      kept = t.value;
      trace_is = trace_read trace held t.before t.value t.is;
      secret = k.value;
      key_is = key_read key held k.before k.value k.is;
      reports = r.value;
      reports_are = reports_read held names r.before r.value r.is;
      is = cc;
    }

checked : (trace key : List ℕ) (names : List (List ℕ)) (held : Option Contents) (asked : List (List ℕ)) (w : Written) → named_check_plan trace key names held asked (Ok w) → Checked trace key names held w
unfolding named_check_plan
checked trace key names held asked w plan =
    let n = through (exactly (Ok names)) (λ (kept : List (List ℕ)). check_plan trace key kept held) asked w plan in
    let known = known_gave {A = List (List ℕ)} (Ok names) n.before n.value n.is in
    let same : n.value ≡ names = cc in
    subst (λ (own : List (List ℕ)). Checked trace key own held w) same (checked_of trace key n.value held n.behind w n.follows)

says_found : LawsOfTelling → (key : List ℕ) (kept : Recorded) (names reports : List (List ℕ)) → IsSetting kept.world → (w : Written) (status : Status) (before after : Moment) → WroteAll w status before after
    → (b : Option Break) → broken kept.world kept.entries ≡ b → w ≡ written_unless b (written_legal (length kept.entries) names (answers_of key kept reports)) → CheckSays key kept names reports status before after
unfolding written_legal
says_found l key kept names reports setting w status before after wrote None none is =
    let sound : IsLegal kept.world kept.entries = (l.unbroken kept.world kept.entries).0 none in
    legal sound (yes_tells l key kept setting sound)
    (wrote.ends ∙ ap (λ (v : Written). status_of v.ending) is ∙ verdict_status (list_all is_yes (answers_of key kept reports)))
    (wrote.out ∙ ap (λ (v : Written). with_appended v.out before.out) is)
says_found l key kept names reports setting w status before after wrote (Some b) some is =
    breaks b some (λ sound. let none = (l.unbroken kept.world kept.entries).1 sound in let e = sym none ∙ some in cc)
    (wrote.ends ∙ ap (λ (v : Written). status_of v.ending) is)
    (wrote.out ∙ ap (λ (v : Written). with_appended v.out before.out) is)

says : LawsOfTelling → (key : List ℕ) (kept : Recorded) (names reports : List (List ℕ)) → IsSetting kept.world → (w : Written) (status : Status) (before after : Moment) → WroteAll w status before after
    → w ≡ written_of_check key kept names reports → CheckSays key kept names reports status before after
unfolding written_of_check
says l key kept names reports setting w status before after wrote is = says_found l key kept names reports setting w status before after wrote (broken kept.world kept.entries) refl is

pub check_tells : LawsOfTelling → (trace key : List ℕ) (names : List (List ℕ)) (asked : List (List ℕ)) (w : Written) (status : Status) (before after : Moment)
    → named_check_plan trace key names before.files.held asked (Ok w) → WroteAll w status before after → CheckTells trace key names status before after
check_tells l trace key names asked w status before after plan wrote =
    let c = checked trace key names before.files.held asked w plan in
    let setting : IsSetting c.kept.world = c.trace_is.spelled.traceable.setting in
    record {
      text = c.trace_is.text;
      read = c.trace_is.read;
      kept = c.kept;
      spelled = c.trace_is.spelled;
      secret = c.secret;
      key_read = c.key_is;
      reports = c.reports;
      reports_read = c.reports_are;
      says = says l c.secret c.kept names c.reports setting w status before after wrote c.is;
    }

no_files_unless : (b : Option Break) (count : ℕ) (names : List (List ℕ)) (answers : List Confirmed) → (written_unless b (written_legal count names answers)).files ≡ []
unfolding written_legal
no_files_unless None count names answers = refl
no_files_unless (Some found) count names answers = refl

no_files_of_check : (key : List ℕ) (kept : Recorded) (names reports : List (List ℕ)) → (written_of_check key kept names reports).files ≡ []
unfolding written_of_check
no_files_of_check key kept names reports = no_files_unless (broken kept.world kept.entries) (length kept.entries) names (answers_of key kept reports)

pub no_files_checked : (trace key : List ℕ) (names asked : List (List ℕ)) (held : Option Contents) (w : Written) → named_check_plan trace key names held asked (Ok w) → w.files ≡ []
no_files_checked trace key names asked held w plan =
    let c = checked trace key names held asked w plan in
    ap (λ (v : Written). v.files) c.is ∙ no_files_of_check c.secret c.kept names c.reports

-- ---- `gen`

-- the outcome, and what is written of it
record Generated (seed : ℕ) (w : Written) : Type 0 where
  outcome : Outcome
  ran : IsScheduledOutcome (generated_setup seed) (generated_schedule seed) outcome
  is : w ≡ written_of_generated generated_key outcome

generated_of : (seed : ℕ) (asked : List (List ℕ)) (w : Written) → gen_plan seed asked (Ok w) → Generated seed w
unfolding gen_plan
generated_of seed asked w plan =
    let u = through (some_that (IsScheduledOutcome (generated_setup seed) (generated_schedule seed))) (λ (outcome : Outcome). exactly (Ok (written_of_generated generated_key outcome))) asked w plan in
    let known = known_gave {A = Written} (Ok (written_of_generated generated_key u.value)) u.behind w u.follows in
    record { outcome = u.value; ran = came_so (IsScheduledOutcome (generated_setup seed) (generated_schedule seed)) u.value u.is.1; is = cc }

gen_uncut : (key : List ℕ) (outcome : Outcome) (status : Status) → status ≡ status_of (written_of_generated key outcome).ending → IsUncut status → is_cut outcome ≡ false
unfolding written_of_generated ending_of_reports
gen_uncut key outcome status is uncut = ended_uncut (is_cut outcome) _ outcome.chronicle.world.cap status is uncut

-- a run ends so only where it wasn't cut and a report isn't confirmed
never_refused : (cut confirmed : Bool) (cap : ℕ) (status : Status) → status ≡ status_of (if cut then endings.Full cap else (if confirmed then endings.Accepted else endings.Refused))
    → (IsUncut status → confirmed ≡ true) → status ≢ Rejected
never_refused true confirmed cap status is known = λ refused. let e = sym is ∙ refused in cc
never_refused false true cap status is known = λ refused. let e = sym is ∙ refused in cc
never_refused false false cap status is known = λ refused. let e = known (rw refused tt) in cc

gen_unrefused : (key : List ℕ) (outcome : Outcome) (status : Status) → status ≡ status_of (written_of_generated key outcome).ending
    → (IsUncut status → list_all is_confirmed_end (report_ends key outcome.chronicle outcome.passes) ≡ true) → status ≢ Rejected
unfolding written_of_generated ending_of_reports
gen_unrefused key outcome status is known = never_refused (is_cut outcome) _ outcome.chronicle.world.cap status is known

-- the history of a scheduled run is legal
legal_run : (s : Setup) (outcome : Outcome) (history : List Entry) → outcome.chronicle.world ≡ s.world → outcome.chronicle.entries ≡ history → IsLegal s.world history
    → IsLegal outcome.chronicle.world outcome.chronicle.entries
legal_run s outcome history world entries sound = rw (world, entries) sound

pub gen_tells : LawsOfTelling → (seed : ℕ) (asked : List (List ℕ)) (w : Written) (status : Status) (before after : Moment) → IsSetting (generated_setup seed).world
    → gen_plan seed asked (Ok w) → WroteAll w status before after → GenTells seed status before after
gen_tells l seed asked w status before after setting plan wrote =
    let g = generated_of seed asked w plan in
    let s : Setup = generated_setup seed in
    let valid : IsSetting g.outcome.chronicle.world = subst (λ (v : Setting). IsSetting v) (sym g.ran.world) setting in
    let sound : IsLegal g.outcome.chronicle.world g.outcome.chronicle.entries = legal_run s g.outcome g.ran.state.history g.ran.world g.ran.entries g.ran.run.so_far.legal in
    let ends : status ≡ status_of (written_of_generated generated_key g.outcome).ending = wrote.ends ∙ ap (λ (v : Written). status_of v.ending) g.is in
    let confirms : IsUncut status → list_all is_confirmed_end (report_ends generated_key g.outcome.chronicle g.outcome.passes) ≡ true =
    λ uncut. l.generated seed setting g.outcome g.ran (gen_uncut generated_key g.outcome status ends uncut) in
    record {
      outcome = g.outcome;
      ran = g.ran;
      legal = sound;
      told = yes_tells l generated_key g.outcome.chronicle valid sound;
      ends = ends;
      grown = wrote.out ∙ ap (λ (v : Written). with_appended v.out before.out) g.is;
      whole = λ uncut. l.scheduled s (generated_schedule seed) g.outcome g.ran (gen_uncut generated_key g.outcome status ends uncut);
      confirmed = confirms;
      unrefused = gen_unrefused generated_key g.outcome status ends confirms;
    }

no_files_written : (key : List ℕ) (outcome : Outcome) → (written_of_generated key outcome).files ≡ []
unfolding written_of_generated
no_files_written key outcome = refl

pub no_files_generated : (seed : ℕ) (asked : List (List ℕ)) (w : Written) → gen_plan seed asked (Ok w) → w.files ≡ []
no_files_generated seed asked w plan =
    let g = generated_of seed asked w plan in
    ap (λ (v : Written). v.files) g.is ∙ no_files_written generated_key g.outcome
