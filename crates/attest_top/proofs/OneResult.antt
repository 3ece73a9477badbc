-- What each command finds over files and input that tell is one thing.
use Rattle.std.proofs.Common.{◌≡◌, ℕ, suc, ◌+◌, ◌<◌, List, [], ◌∷◌, length, All, true, Option, None, Some, Result, Ok, Err, sym, ap, subst, ◌∙◌, arith}
use Rattle.std.specs.Prelude.{codes, slice_index}
use Rattle.std.specs.List.Sorted.{IsStrictlyIncreasing}
use Rattle.att_base.specs.Files.{Contents}
use Rattle.challenge.specs.declared.Challenge.{Challenge}
use Rattle.script.specs.Grammar.{program_of}
use Rattle.rv_asm.specs.Assembled.{assembled}
use Rattle.elf32.specs.Files.{elf_of}
use Rattle.command_plans.specs.Lines.{bad_line}
use Rattle.command_plans.specs.Steps.{Reason, bad, no_memory, CommandStep, exactly, Then}
use Rattle.command_plans.specs.Reading.{input_limit, ReadFile, ReadInput}
use Rattle.command_plans.specs.Written.{Written}
use Rattle.executable_commands.specs.Plans.{asm_plan, checked_assembly, show_plan, checked_listing}
use Rattle.verifier.specs.declared.files.VerifierPlan.{VerifierPlan}
use Rattle.verifier.specs.Files.{verifier_file}
use Rattle.challenge.specs.Bytes.{challenge_in}
use Rattle.image_set.specs.Match.{Known, no_images}
use Rattle.input_files.specs.InputFiles.{checked_key, KeyIn, checked_challenge, ChallengeIn, checked_image, ImageIn, ReadImages, image_shape}
use Rattle.message_commands.specs.Plans.{written_challenge, challenge_plan, checked_verifier, VerifierIn, Knowledge, knows, KnowledgeIn, ReadNote, judgement, verify_plan}
use Rattle.device_config.specs.declared.plans.AppPlan.{AppPlan}
use Rattle.device_config.specs.declared.plans.DevicePlan.{DevicePlan}
use Rattle.device_config.specs.Files.{device_file}
use Rattle.loader.specs.declared.placed.Placed.{Placed}
use Rattle.loader.specs.Placing.{placed}
use Rattle.device_inputs.specs.Lists.{ReadEach}
use Rattle.device_inputs.specs.Inputs.{checked_device, DeviceIn, checked_schedule, ScheduleIn, if_sound, AppFileIn, AppFilesIn, checked_placing, PlacedIn, ChallengeFileIn, ChallengeFilesIn}
use Rattle.device_commands.specs.Plans.{attested_image, written_image, image_plan, run_setup, MayCome, found as come, spent as unmet, some_that, RunOfFiles, sched_plan}
use Rattle.history.specs.declared.events.Act.{Act}
use Rattle.history.specs.declared.events.Entry.{Entry}
use Rattle.history.specs.Layout.{IsSetting, Setting}
use Rattle.rv_core.specs.Runs.{AppProgram}
use Rattle.schedule_text.specs.declared.reading.Run.{Run}
use Rattle.schedule_text.specs.Schedules.{schedule_of}
use Rattle.device_config.specs.declared.plans.ChallengePlan.{ChallengePlan}
use Rattle.device.specs.declared.outcomes.AppEnd.{AppEnd}
use Rattle.device.specs.declared.outcomes.Outcome.{Outcome}
use Rattle.device.specs.declared.outcomes.PassEnd.{PassEnd}
use Rattle.device.specs.declared.tallies.Tally.{Tally}
use Rattle.device.specs.Setups.{Setup, Rise}
use Rattle.device.specs.Runs.{IsRunSoFar, entries_of}
use Rattle.device.specs.Turns.{RunState}
use Rattle.device.specs.Outcomes.{AreAppEnds, ArePassEnds, HaveWaited, acts_of}
use Rattle.sched.specs.Scheduled.{IsScheduled, IsScheduledOutcome}
use Rattle.device_inputs.specs.declared.admitting.Admission.{Admission}
use Rattle.device_inputs.specs.declared.setup.SetupFiles.{SetupFiles}
use Rattle.device_inputs.specs.declared.setup.ScheduledFiles.{ScheduledFiles}
use Rattle.device_inputs.specs.Admissions.{admissions, counters, served}
use Rattle.device_inputs.specs.Setups.{AdmissionsIn, NamedIn, SetupIn, ScheduledIn}
use Rattle.chronicle.specs.Worlds.{Recorded}
use Rattle.trace.specs.Text.{trace_text}
use Rattle.trace.specs.Printable.{IsPrintable}
use Rattle.trace.specs.Whole.{IsTrace, LeavesAt}
use Rattle.trace_commands.specs.Checks.{trace_limit, IsTraceReading, is_trace, leaves, spent as no_trace, TraceOf, TraceIn, ReportIn, written_of_check, check_plan}
use Rattle.trace_commands.specs.GeneratedRuns.{written_of_generated}
use Rattle.trace_commands.specs.Plans.{gen_plan}
use Rattle.generated.specs.Generated.{challenges, generated_key, generated_schedule, generated_setup}
use Rattle.attest_top.specs.Found.{IsFound, HasOneResult, FindsOneThing}
use Rattle.attest_top.specs.Lines.{Form, script, asm, show, challenge, verify, image, sched, run, check, gen}
use Rattle.attest_top.specs.Plans.{script_plan, script_result, run_written, named_check_plan, command_plan}
use Rattle.attest_top.proofs.OnePlan.{lost, one_exactly, one_file, one_input, one_then, one_then_of}
use Rattle.attest_top.proofs.Inverse.{through, known_gave}

-- ---- `script`

one_script : (text : List ℕ) → HasOneResult (script_plan (Some text))
unfolding script_plan
one_script text =
    one_then (ReadInput input_limit (Some text)) (λ (t : List ℕ). exactly (script_result (program_of t))) (one_input input_limit text) (λ t. one_exactly (script_result (program_of t)))

-- ---- `asm` and `show`

one_asm : (text elf : List ℕ) (held : Contents) → HasOneResult (asm_plan text elf (Some held))
unfolding asm_plan
one_asm text elf held =
    one_then (ReadFile input_limit text (Some held)) (λ (source : List ℕ). exactly (checked_assembly text elf (assembled source))) (one_file input_limit text held) (λ source. one_exactly (checked_assembly text elf (assembled source)))

one_show : (elf : List ℕ) (held : Contents) → HasOneResult (show_plan elf (Some held))
unfolding show_plan
one_show elf held =
    one_then (ReadFile input_limit elf (Some held)) (λ (bytes : List ℕ). exactly (checked_listing elf (elf_of bytes))) (one_file input_limit elf held) (λ bytes. one_exactly (checked_listing elf (elf_of bytes)))

-- ---- `challenge`

one_key : (name : List ℕ) (held : Contents) → HasOneResult (KeyIn name (Some held))
unfolding KeyIn
one_key name held = one_then (ReadFile input_limit name (Some held)) (λ (bytes : List ℕ). exactly (checked_key name bytes)) (one_file input_limit name held) (λ bytes. one_exactly (checked_key name bytes))

one_challenge : (key : List ℕ) (asked : Challenge) (out : List ℕ) (held : Contents) → HasOneResult (challenge_plan key asked out (Some held))
unfolding challenge_plan
one_challenge key asked out held =
    one_then (KeyIn key (Some held)) (λ (bytes : List ℕ). exactly (Ok (written_challenge bytes asked out))) (one_key key held) (λ bytes. one_exactly (Ok (written_challenge bytes asked out)))

-- ---- `verify`

one_verifier : (name : List ℕ) (held : Contents) → HasOneResult (VerifierIn name (Some held))
unfolding VerifierIn
one_verifier name held =
    one_then (ReadFile input_limit name (Some held)) (λ (text : List ℕ). exactly (checked_verifier name (verifier_file text))) (one_file input_limit name held) (λ text. one_exactly (checked_verifier name (verifier_file text)))

one_sent : (key name : List ℕ) (held : Contents) → HasOneResult (ChallengeIn key name (Some held))
unfolding ChallengeIn
one_sent key name held =
    one_then (ReadFile input_limit name (Some held)) (λ (bytes : List ℕ). exactly (checked_challenge name (challenge_in key bytes))) (one_file input_limit name held) (λ bytes. one_exactly (checked_challenge name (challenge_in key bytes)))

one_image : (name : List ℕ) (set : Known) (held : Contents) → HasOneResult (ImageIn name set (Some held))
unfolding ImageIn
one_image name set held =
    one_then (ReadFile input_limit name (Some held)) (λ (bytes : List ℕ). exactly (checked_image set name bytes)) (one_file input_limit name held) (λ bytes. one_exactly (checked_image set name bytes))

one_images : (names : List (List ℕ)) (set : Known) (held : Contents) → HasOneResult (ReadImages names set (Some held))
one_images [] set held = one_exactly (Ok set)
one_images (name ∷ names) set held = one_then (ImageIn name set (Some held)) (λ (more : Known). ReadImages names more (Some held)) (one_image name set held) (λ more. one_images names more held)

-- what follows upon a key, and upon a challenge
abbrev WithSet : VerifierPlan → List ℕ → Challenge → Contents → CommandStep Knowledge
WithSet plan key expected held = Then (ReadImages plan.images (no_images (image_shape plan.geometry plan.ranges)) (Some held)) (λ (set : Known). exactly (Ok (knows plan key expected set)))

one_set : (plan : VerifierPlan) (key : List ℕ) (expected : Challenge) (held : Contents) → HasOneResult (WithSet plan key expected held)
one_set plan key expected held =
    one_then (ReadImages plan.images (no_images (image_shape plan.geometry plan.ranges)) (Some held)) (λ (set : Known). exactly (Ok (knows plan key expected set))) (one_images plan.images (no_images (image_shape plan.geometry plan.ranges)) held) (λ set. one_exactly (Ok (knows plan key expected set)))

abbrev WithKey : VerifierPlan → List ℕ → Contents → CommandStep Knowledge
WithKey plan key held = Then (ChallengeIn key plan.challenge (Some held)) (λ (expected : Challenge). WithSet plan key expected held)

one_with_key : (plan : VerifierPlan) (key : List ℕ) (held : Contents) → HasOneResult (WithKey plan key held)
one_with_key plan key held = one_then (ChallengeIn key plan.challenge (Some held)) (λ (expected : Challenge). WithSet plan key expected held) (one_sent key plan.challenge held) (λ expected. one_set plan key expected held)

one_knowledge : (verifier : List ℕ) (held : Contents) → HasOneResult (KnowledgeIn verifier (Some held))
unfolding KnowledgeIn
one_knowledge verifier held =
    one_then (VerifierIn verifier (Some held)) (λ (plan : VerifierPlan). Then (KeyIn plan.key (Some held)) (λ (key : List ℕ). WithKey plan key held)) (one_verifier verifier held)
    (λ plan. one_then (KeyIn plan.key (Some held)) (λ (key : List ℕ). WithKey plan key held) (one_key plan.key held) (λ key. one_with_key plan key held))

one_note : (note : Option (List ℕ)) (held : Contents) → HasOneResult (ReadNote note (Some held))
one_note None held = one_exactly (Ok None)
one_note (Some name) held = one_then (ReadFile input_limit name (Some held)) (λ (bytes : List ℕ). exactly (Ok (Some bytes))) (one_file input_limit name held) (λ bytes. one_exactly (Ok (Some bytes)))

abbrev WithReport : Knowledge → List ℕ → Option (List ℕ) → Contents → CommandStep Written
WithReport known bytes note held = Then (ReadNote note (Some held)) (λ (written : Option (List ℕ)). exactly (Ok (judgement known bytes written)))

one_judged : (known : Knowledge) (bytes : List ℕ) (note : Option (List ℕ)) (held : Contents) → HasOneResult (WithReport known bytes note held)
one_judged known bytes note held =
    one_then (ReadNote note (Some held)) (λ (written : Option (List ℕ)). exactly (Ok (judgement known bytes written))) (one_note note held) (λ written. one_exactly (Ok (judgement known bytes written)))

one_verify : (verifier report : List ℕ) (note : Option (List ℕ)) (held : Contents) → HasOneResult (verify_plan verifier report note (Some held))
unfolding verify_plan
one_verify verifier report note held =
    one_then (KnowledgeIn verifier (Some held)) (λ (known : Knowledge). Then (ReadFile input_limit report (Some held)) (λ (bytes : List ℕ). WithReport known bytes note held)) (one_knowledge verifier held)
    (λ known. one_then (ReadFile input_limit report (Some held)) (λ (bytes : List ℕ). WithReport known bytes note held) (one_file input_limit report held) (λ bytes. one_judged known bytes note held))

-- ---- `image`

one_device : (name : List ℕ) (held : Contents) → HasOneResult (DeviceIn name (Some held))
unfolding DeviceIn
one_device name held =
    one_then (ReadFile input_limit name (Some held)) (λ (text : List ℕ). exactly (checked_device name (device_file text))) (one_file input_limit name held) (λ text. one_exactly (checked_device name (device_file text)))

one_app : (held : Contents) (app : AppPlan) → HasOneResult (AppFileIn app (Some held))
unfolding AppFileIn
one_app held app =
    one_then (ReadFile input_limit app.file (Some held)) (λ (bytes : List ℕ). exactly (if_sound app.file bytes (elf_of bytes))) (one_file input_limit app.file held) (λ bytes. one_exactly (if_sound app.file bytes (elf_of bytes)))

-- a list of reads, each of which has one result
one_each : {A B : Type 0} (step : A → Option Contents → CommandStep B) (held : Contents) → ((a : A) → HasOneResult (step a (Some held))) → (list : List A) → HasOneResult (ReadEach step list (Some held))
one_each {A} {B} step held ones [] = one_exactly {A = List B} (Ok [])
one_each {A} {B} step held ones (a ∷ more) =
    one_then (step a (Some held)) (λ (b : B). Then (ReadEach step more (Some held)) (λ (rest : List B). exactly (Ok (b ∷ rest)))) (ones a)
    (λ b. one_then (ReadEach step more (Some held)) (λ (rest : List B). exactly (Ok (b ∷ rest))) (one_each step held ones more) (λ rest. one_exactly {A = List B} (Ok (b ∷ rest))))

one_placed : (device : List ℕ) (plan : DevicePlan) (held : Contents) → HasOneResult (PlacedIn device plan (Some held))
unfolding PlacedIn
one_placed device plan held =
    one_then (AppFilesIn plan.apps (Some held)) (λ (apps : List (List ℕ)). exactly (checked_placing device (placed plan.geometry apps))) (one_each AppFileIn held (one_app held) plan.apps)
    (λ apps. one_exactly (checked_placing device (placed plan.geometry apps)))

one_image_written : (device out : List ℕ) (held : Contents) → HasOneResult (image_plan device out (Some held))
unfolding image_plan
one_image_written device out held =
    one_then (DeviceIn device (Some held)) (λ (plan : DevicePlan). Then (PlacedIn device plan (Some held)) (λ (memory : Placed). exactly (Ok (written_image out (attested_image plan memory.image))))) (one_device device held)
    (λ plan. one_then (PlacedIn device plan (Some held)) (λ (memory : Placed). exactly (Ok (written_image out (attested_image plan memory.image)))) (one_placed device plan held)
    (λ memory. one_exactly {A = Written} (Ok (written_image out (attested_image plan memory.image)))))

-- ---- `sched`

-- what the laws say of scheduled runs: a schedule gives one history, a history has one outcome, and the counters of the
-- challenges that are served rise
pub record LawsOfRuns : Type 0 where
  pub one_state : (s : Setup) (schedule : List Run) (a b : RunState) → IsScheduled s schedule a → IsScheduled s schedule b → a ≡ b
  pub one_ends : (programs : List AppProgram) (history : List Entry) (tallies : List Tally) (ends others : List AppEnd) → AreAppEnds programs history ends → AreAppEnds programs history others
      → HaveWaited tallies ends → HaveWaited tallies others → ends ≡ others
  pub one_passes : (s : Setup) (history : List Entry) → IsRunSoFar s history → (last : ℕ) → Rise last s.challenges → (challenges : List Challenge) (made : List Act) (ends others : List PassEnd)
      → ArePassEnds s history made challenges ends → ArePassEnds s history made challenges others → ends ≡ others
  pub one_trace : (w other : Setting) (history entries : List Entry) → IsSetting w → IsSetting other → All IsPrintable history → All IsPrintable entries
      → trace_text w history ≡ trace_text other entries → (w ≡ other) × (history ≡ entries)
  pub one_line : (text : List ℕ) (one other : ℕ) → LeavesAt text one → LeavesAt text other → one ≡ other
  pub rising : (key : List ℕ) (last : ℕ) (sent : List (List ℕ)) → IsStrictlyIncreasing (last ∷ counters (served (admissions key last sent)))

rises_from : (last : ℕ) (challenges : List Challenge) → IsStrictlyIncreasing (last ∷ counters challenges) → Rise last challenges
rises_from last [] up = tt
rises_from last (c ∷ more) up = (
  up 0 (omega arith),
  rises_from c.counter more (λ k below.
      let step : suc k + 1 ≡ suc (k + 1) = omega arith in
      subst (λ n. slice_index (c.counter ∷ counters more) k < slice_index (last ∷ c.counter ∷ counters more) n) step (up (suc k) (omega (arith, below)))),
)

-- the counters of these challenges rise from some number on
record RisesFrom (challenges : List Challenge) : Type 0 where
  last : ℕ
  rise : Rise last challenges

abbrev outcome_with : List AppEnd → List PassEnd → Setting → List Entry → Outcome
outcome_with apps passes world entries = record { apps = apps; passes = passes; chronicle = record { world = world; entries = entries } }

same_outcome : LawsOfRuns → (s : Setup) (schedule : List Run) → RisesFrom s.challenges → (one other : Outcome) → IsScheduledOutcome s schedule one → IsScheduledOutcome s schedule other → one ≡ other
same_outcome l s schedule from one other a b =
    let states : b.state ≡ a.state = l.one_state s schedule b.state a.state b.scheduled a.scheduled in
    let entries : one.chronicle.entries ≡ other.chronicle.entries = a.entries ∙ sym (ap (λ (t : RunState). t.history) states) ∙ sym b.entries in
    let world : one.chronicle.world ≡ other.chronicle.world = a.world ∙ sym b.world in
    let others_ends : AreAppEnds s.programs a.state.history other.apps = rw states at b.apps in
    let others_waits : HaveWaited a.state.tallies other.apps = rw states at b.waits in
    let others_passes : ArePassEnds s a.state.history (acts_of (entries_of a.state.history 0)) s.challenges other.passes = rw states at b.passes in
    let apps : one.apps ≡ other.apps = l.one_ends s.programs a.state.history a.state.tallies one.apps other.apps a.apps others_ends a.waits others_waits in
    let passes : one.passes ≡ other.passes = l.one_passes s a.state.history a.run.so_far from.last from.rise s.challenges (acts_of (entries_of a.state.history 0)) one.passes other.passes a.passes others_passes in
    ap (λ (v : List AppEnd). outcome_with v one.passes one.chronicle.world one.chronicle.entries) apps
    ∙ ap (λ (v : List PassEnd). outcome_with other.apps v one.chronicle.world one.chronicle.entries) passes
    ∙ ap (λ (v : Setting). outcome_with other.apps other.passes v one.chronicle.entries) world
    ∙ ap (λ (v : List Entry). outcome_with other.apps other.passes other.chronicle.world v) entries

came_alike : {A : Type 0} (Fits : A → Type 0) → ((a b : A) → Fits a → Fits b → a ≡ b) → (one other : Result A Reason) → MayCome Fits one → MayCome Fits other → IsFound one → IsFound other → one ≡ other
came_alike Fits alike one other (come a fits is) (come b suits so) sure certain = is ∙ ap (λ v. Ok v) (alike a b fits suits) ∙ sym so
came_alike Fits alike one other (unmet is) b sure certain = absurd (lost no_memory one is sure)
came_alike Fits alike one other (come a fits is) (unmet so) sure certain = absurd (lost no_memory other so certain)

one_some : {A : Type 0} (Fits : A → Type 0) → ((a b : A) → Fits a → Fits b → a ≡ b) → HasOneResult (some_that Fits)
one_some Fits alike asked names one other a b sure certain = (a.0 ∙ sym b.0, came_alike Fits alike one other a.1 b.1 sure certain)

one_schedule : (name : List ℕ) (apps : ℕ) (held : Contents) → HasOneResult (ScheduleIn name apps (Some held))
unfolding ScheduleIn
one_schedule name apps held =
    one_then (ReadFile input_limit name (Some held)) (λ (text : List ℕ). exactly (checked_schedule name (schedule_of apps text))) (one_file input_limit name held) (λ text. one_exactly (checked_schedule name (schedule_of apps text)))

one_challenge_file : (held : Contents) (plan : ChallengePlan) → HasOneResult (ChallengeFileIn plan (Some held))
unfolding ChallengeFileIn
one_challenge_file held plan = one_file input_limit plan.file held

one_admissions : (key : List ℕ) (last : ℕ) (challenges : List ChallengePlan) (held : Contents) → HasOneResult (AdmissionsIn key last challenges (Some held))
unfolding AdmissionsIn
one_admissions key last challenges held =
    one_then (ChallengeFilesIn challenges (Some held)) (λ (sent : List (List ℕ)). exactly (Ok (admissions key last sent))) (one_each ChallengeFileIn held (one_challenge_file held) challenges)
    (λ sent. one_exactly {A = List Admission} (Ok (admissions key last sent)))

abbrev pub setup_with : DevicePlan → List ℕ → Placed → List Admission → Known → SetupFiles
setup_with plan key memory answers known = record { plan = plan; key = key; placed = memory; admissions = answers; images = known }

abbrev pub WithAnswers : DevicePlan → List ℕ → Placed → List Admission → Option Contents → CommandStep SetupFiles
WithAnswers plan key memory answers held = Then (ReadImages plan.images (no_images (image_shape plan.geometry plan.ranges)) held) (λ (known : Known). exactly (Ok (setup_with plan key memory answers known)))

abbrev pub WithImage : DevicePlan → List ℕ → Placed → Option Contents → CommandStep SetupFiles
WithImage plan key memory held = Then (AdmissionsIn key plan.last plan.challenges held) (λ (answers : List Admission). WithAnswers plan key memory answers held)

abbrev pub WithItsKey : List ℕ → DevicePlan → List ℕ → Option Contents → CommandStep SetupFiles
WithItsKey device plan key held = Then (PlacedIn device plan held) (λ (memory : Placed). WithImage plan key memory held)

one_named : (device : List ℕ) (plan : DevicePlan) (held : Contents) → HasOneResult (NamedIn device plan (Some held))
unfolding NamedIn
one_named device plan held =
    one_then (KeyIn plan.key (Some held)) (λ (key : List ℕ). WithItsKey device plan key (Some held)) (one_key plan.key held)
    (λ key. one_then (PlacedIn device plan (Some held)) (λ (memory : Placed). WithImage plan key memory (Some held)) (one_placed device plan held)
    (λ memory. one_then (AdmissionsIn key plan.last plan.challenges (Some held)) (λ (answers : List Admission). WithAnswers plan key memory answers (Some held)) (one_admissions key plan.last plan.challenges held)
    (λ answers. one_then (ReadImages plan.images (no_images (image_shape plan.geometry plan.ranges)) (Some held)) (λ (known : Known). exactly (Ok (setup_with plan key memory answers known))) (one_images plan.images (no_images (image_shape plan.geometry plan.ranges)) held)
    (λ known. one_exactly {A = SetupFiles} (Ok (setup_with plan key memory answers known))))))

abbrev pub scheduled_with : List Run → SetupFiles → ScheduledFiles
scheduled_with runs setup = record { setup = setup; schedule = runs }

abbrev pub WithRuns : List ℕ → DevicePlan → List Run → Option Contents → CommandStep ScheduledFiles
WithRuns device plan runs held = Then (NamedIn device plan held) (λ (setup : SetupFiles). exactly (Ok (scheduled_with runs setup)))

abbrev pub WithPlan : List ℕ → List ℕ → DevicePlan → Option Contents → CommandStep ScheduledFiles
WithPlan device schedule plan held = Then (ScheduleIn schedule (length plan.apps) held) (λ (runs : List Run). WithRuns device plan runs held)

one_scheduled : (device schedule : List ℕ) (held : Contents) → HasOneResult (ScheduledIn device schedule (Some held))
unfolding ScheduledIn
one_scheduled device schedule held =
    one_then (DeviceIn device (Some held)) (λ (plan : DevicePlan). WithPlan device schedule plan (Some held)) (one_device device held)
    (λ plan. one_then (ScheduleIn schedule (length plan.apps) (Some held)) (λ (runs : List Run). WithRuns device plan runs (Some held)) (one_schedule schedule (length plan.apps) held)
    (λ runs. one_then (NamedIn device plan (Some held)) (λ (setup : SetupFiles). exactly (Ok (scheduled_with runs setup))) (one_named device plan held)
    (λ setup. one_exactly {A = ScheduledFiles} (Ok (scheduled_with runs setup)))))

answers_rise : LawsOfRuns → (key : List ℕ) (last : ℕ) (challenges : List ChallengePlan) (held : Option Contents) (asked : List (List ℕ)) (answers : List Admission)
    → AdmissionsIn key last challenges held asked (Ok answers) → RisesFrom (served answers)
unfolding AdmissionsIn
answers_rise l key last challenges held asked answers is =
    let t = through (ChallengeFilesIn challenges held) (λ (sent : List (List ℕ)). exactly (Ok (admissions key last sent))) asked answers is in
    let known = known_gave {A = List Admission} (Ok (admissions key last t.value)) t.behind answers t.follows in
    let same : admissions key last t.value ≡ answers = cc in
    let whole : RisesFrom (served (admissions key last t.value)) = record { last = last; rise = rises_from last (served (admissions key last t.value)) (l.rising key last t.value) } in
    rw same at whole

named_rise : LawsOfRuns → (device : List ℕ) (plan : DevicePlan) (held : Option Contents) (asked : List (List ℕ)) (setup : SetupFiles) → NamedIn device plan held asked (Ok setup) → RisesFrom (served setup.admissions)
unfolding NamedIn
named_rise l device plan held asked setup is =
    let k = through (KeyIn plan.key held) (λ (key : List ℕ). WithItsKey device plan key held) asked setup is in
    let p = through (PlacedIn device plan held) (λ (image : Placed). WithImage plan k.value image held) k.behind setup k.follows in
    let a = through (AdmissionsIn k.value plan.last plan.challenges held) (λ (answers : List Admission). WithAnswers plan k.value p.value answers held) p.behind setup p.follows in
    let i = through (ReadImages plan.images (no_images (image_shape plan.geometry plan.ranges)) held) (λ (known : Known). exactly (Ok (setup_with plan k.value p.value a.value known))) a.behind setup a.follows in
    let known = known_gave {A = SetupFiles} (Ok (setup_with plan k.value p.value a.value i.value)) i.behind setup i.follows in
    let same : setup_with plan k.value p.value a.value i.value ≡ setup = cc in
    let rising : RisesFrom (served a.value) = answers_rise l k.value plan.last plan.challenges held a.before a.value a.is in
    subst (λ (v : SetupFiles). RisesFrom (served v.admissions)) same rising

scheduled_rise : LawsOfRuns → (device schedule : List ℕ) (held : Option Contents) (asked : List (List ℕ)) (read : ScheduledFiles) → ScheduledIn device schedule held asked (Ok read) → RisesFrom (run_setup read.setup).challenges
unfolding ScheduledIn
scheduled_rise l device schedule held asked read is =
    let d = through (DeviceIn device held) (λ (plan : DevicePlan). WithPlan device schedule plan held) asked read is in
    let r = through (ScheduleIn schedule (length d.value.apps) held) (λ (runs : List Run). WithRuns device d.value runs held) d.behind read d.follows in
    let n = through (NamedIn device d.value held) (λ (setup : SetupFiles). exactly (Ok (scheduled_with r.value setup))) r.behind read r.follows in
    let known = known_gave {A = ScheduledFiles} (Ok (scheduled_with r.value n.value)) n.behind read n.follows in
    let same : scheduled_with r.value n.value ≡ read = cc in
    let rising : RisesFrom (served n.value.admissions) = named_rise l device d.value held n.before n.value n.is in
    subst (λ (v : ScheduledFiles). RisesFrom (run_setup v.setup).challenges) same rising

one_run : LawsOfRuns → (read : ScheduledFiles) → RisesFrom (run_setup read.setup).challenges → HasOneResult (RunOfFiles read)
one_run l read from =
    one_then (some_that (IsScheduledOutcome (run_setup read.setup) read.schedule)) (λ (outcome : Outcome). exactly (Ok (run_written read.setup true outcome)))
    (one_some (IsScheduledOutcome (run_setup read.setup) read.schedule) (same_outcome l (run_setup read.setup) read.schedule from))
    (λ outcome. one_exactly {A = Written} (Ok (run_written read.setup true outcome)))

one_sched : LawsOfRuns → (device schedule : List ℕ) (held : Contents) → HasOneResult (sched_plan device schedule (Some held))
unfolding sched_plan
one_sched l device schedule held =
    one_then_of (ScheduledIn device schedule (Some held)) (λ (read : ScheduledFiles). RunOfFiles read) (one_scheduled device schedule held)
    (λ read asked is. one_run l read (scheduled_rise l device schedule (Some held) asked read is))

-- ---- `check`

abbrev recorded : Setting → List Entry → Recorded
recorded w history = record { world = w; entries = history }

one_history : LawsOfRuns → (text : List ℕ) (one other : Recorded) → IsTrace text one → IsTrace text other → one ≡ other
one_history l text one other a b =
    let same : trace_text one.world one.entries ≡ trace_text other.world other.entries = sym a.spelled ∙ b.spelled in
    let both = l.one_trace one.world other.world one.entries other.entries a.traceable.setting b.traceable.setting a.traceable.printable b.traceable.printable same in
    ap (λ (w : Setting). recorded w one.entries) both.0 ∙ ap (λ (h : List Entry). recorded other.world h) both.1

one_read_trace : LawsOfRuns → (name text : List ℕ) (one other : Result Recorded Reason) → IsTraceReading name text one → IsTraceReading name text other → IsFound one → IsFound other → one ≡ other
one_read_trace l name text one other (is_trace a fits is) (is_trace b suits so) sure certain = is ∙ ap (λ (k : Recorded). Ok k) (one_history l text a b fits suits) ∙ sym so
one_read_trace l name text one other (is_trace a fits is) (leaves n out so) sure certain = absurd (out.none a fits)
one_read_trace l name text one other (leaves n out is) (is_trace b suits so) sure certain = absurd (out.none b suits)
one_read_trace l name text one other (leaves n out is) (leaves m past so) sure certain = is ∙ ap (λ (line : ℕ). Err (bad (bad_line name (codes "trace") (line ∷ [])))) (l.one_line text n m out past) ∙ sym so
one_read_trace l name text one other (no_trace is) b sure certain = absurd (lost no_memory one is sure)
one_read_trace l name text one other (is_trace a fits is) (no_trace so) sure certain = absurd (lost no_memory other so certain)
one_read_trace l name text one other (leaves n out is) (no_trace so) sure certain = absurd (lost no_memory other so certain)

one_trace_of : LawsOfRuns → (name text : List ℕ) → HasOneResult (TraceOf name text)
one_trace_of l name text asked names one other a b sure certain = (a.0 ∙ sym b.0, one_read_trace l name text one other a.1 b.1 sure certain)

one_trace_in : LawsOfRuns → (name : List ℕ) (held : Contents) → HasOneResult (TraceIn name (Some held))
unfolding TraceIn
one_trace_in l name held =
    one_then (ReadFile trace_limit name (Some held)) (λ (text : List ℕ). TraceOf name text) (one_file trace_limit name held) (λ text. one_trace_of l name text)

one_report : (held : Contents) (name : List ℕ) → HasOneResult (ReportIn name (Some held))
unfolding ReportIn
one_report held name = one_file input_limit name held

-- what follows upon a recorded history, and upon the key
abbrev pub WithSecret : Recorded → List ℕ → List (List ℕ) → Option Contents → CommandStep Written
WithSecret kept secret names held = Then (ReadEach ReportIn names held) (λ (reports : List (List ℕ)). exactly (Ok (written_of_check secret kept names reports)))

abbrev pub WithHistory : List ℕ → Recorded → List (List ℕ) → Option Contents → CommandStep Written
WithHistory key kept names held = Then (KeyIn key held) (λ (secret : List ℕ). WithSecret kept secret names held)

one_with_history : (key : List ℕ) (kept : Recorded) (names : List (List ℕ)) (held : Contents) → HasOneResult (WithHistory key kept names (Some held))
one_with_history key kept names held =
    one_then (KeyIn key (Some held)) (λ (secret : List ℕ). WithSecret kept secret names (Some held)) (one_key key held)
    (λ secret. one_then (ReadEach ReportIn names (Some held)) (λ (reports : List (List ℕ)). exactly (Ok (written_of_check secret kept names reports))) (one_each ReportIn held (one_report held) names)
    (λ reports. one_exactly {A = Written} (Ok (written_of_check secret kept names reports))))

one_checked : LawsOfRuns → (trace key : List ℕ) (names : List (List ℕ)) (held : Contents) → HasOneResult (check_plan trace key names (Some held))
unfolding check_plan
one_checked l trace key names held =
    one_then (TraceIn trace (Some held)) (λ (kept : Recorded). WithHistory key kept names (Some held)) (one_trace_in l trace held) (λ kept. one_with_history key kept names held)

one_check : LawsOfRuns → (trace key : List ℕ) (names : List (List ℕ)) (held : Contents) → HasOneResult (named_check_plan trace key names (Some held))
unfolding named_check_plan
one_check l trace key names held =
    one_then (exactly (Ok names)) (λ (kept : List (List ℕ)). check_plan trace key kept (Some held)) (one_exactly {A = List (List ℕ)} (Ok names)) (λ kept. one_checked l trace key kept held)

-- ---- `gen`

generated_rise : (seed : ℕ) → RisesFrom (generated_setup seed).challenges
unfolding generated_setup challenges
generated_rise seed = record { last = 0; rise = (omega arith, (omega arith, (omega arith, (omega arith, (omega arith, tt))))) }

one_gen : LawsOfRuns → (seed : ℕ) → HasOneResult (gen_plan seed)
unfolding gen_plan
one_gen l seed =
    one_then (some_that (IsScheduledOutcome (generated_setup seed) (generated_schedule seed))) (λ (outcome : Outcome). exactly (Ok (written_of_generated generated_key outcome)))
    (one_some (IsScheduledOutcome (generated_setup seed) (generated_schedule seed)) (same_outcome l (generated_setup seed) (generated_schedule seed) (generated_rise seed)))
    (λ outcome. one_exactly {A = Written} (Ok (written_of_generated generated_key outcome)))

-- ---- each command

-- what a command finds over files and input that tell is one thing; of `run` that are the files of the device
abbrev pub OnePlanEach : Type 0
OnePlanEach = (form : Form) → FindsOneThing form → (held : Contents) (text : List ℕ) → HasOneResult (command_plan form (Some held) (Some text))

abbrev pub OneSetupEach : Type 0
OneSetupEach = (device : List ℕ) (held : Contents) → HasOneResult (SetupIn device (Some held))

pub one_setup : (device : List ℕ) (held : Contents) → HasOneResult (SetupIn device (Some held))
unfolding SetupIn
one_setup device held =
    one_then (DeviceIn device (Some held)) (λ (plan : DevicePlan). NamedIn device plan (Some held)) (one_device device held) (λ plan. one_named device plan held)

pub one_result : LawsOfRuns → (form : Form) → FindsOneThing form → (held : Contents) (text : List ℕ) → HasOneResult (command_plan form (Some held) (Some text))
one_result l script finds held text = one_script text
one_result l (asm source elf) finds held text = one_asm source elf held
one_result l (show elf) finds held text = one_show elf held
one_result l (challenge key asked out) finds held text = one_challenge key asked out held
one_result l (verify verifier report note) finds held text = one_verify verifier report note held
one_result l (image device out) finds held text = one_image_written device out held
one_result l (sched device schedule) finds held text = one_sched l device schedule held
one_result l (run device) finds held text = absurd finds
one_result l (check trace key names) finds held text = one_check l trace key names held
one_result l (gen seed) finds held text = one_gen l seed
