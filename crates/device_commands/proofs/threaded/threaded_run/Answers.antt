use Rattle.std.proofs.Common.{[], false, Err, refl}
use Rattle.command_plans.specs.Steps.{no_memory}
use Rattle.device.specs.declared.outcomes.Outcome.{Outcome}
use Rattle.device.specs.Runs.{entries_of}
use Rattle.device.specs.Outcomes.{acts_of}
use Rattle.device_commands.specs.Plans.{IsThreadedOutcome, spent}
use Rattle.device_commands.specs.RunWritten.{written_of}
use Rattle.device_commands.proofs.Comes.{known_comes, threaded_as}
use Rattle.device_commands.proofs.threaded.threaded_run.Goals as goal

pub returns-in_default-clause-comes : goal.returns-in_default-clause-comes
returns-in_default-clause-comes g c = record { before = []; between = Err no_memory; is = (refl, spent refl); behind = []; follows = (refl, refl); all = refl }

pub run_output-requires-clause-sound : goal.run_output-requires-clause-sound
run_output-requires-clause-sound g c =
    let s = c.args.device.setup in
    let outcome = c.run_threads-outcome.result in
    let e = c.run_threads-outcome.ensures in
    let ran = threaded_as c.in-Ok.device s outcome c.in-Ok.ensures.ok (record { world = e.world; run = e.run; apps = e.apps; waits = e.waits; passes = e.passes }) in
    c.measurements_are_sound.ensures s c.requires.world outcome.chronicle.entries ran.run.so_far.legal (acts_of (entries_of outcome.chronicle.entries 0)) s.challenges outcome.passes ran.passes

pub run_output-requires-clause-printable : goal.run_output-requires-clause-printable
run_output-requires-clause-printable g c =
    let s = c.args.device.setup in
    let outcome = c.run_threads-outcome.result in
    let e = c.run_threads-outcome.ensures in
    let ran = threaded_as c.in-Ok.device s outcome c.in-Ok.ensures.ok (record { world = e.world; run = e.run; apps = e.apps; waits = e.waits; passes = e.passes }) in
    c.runs_are_printable.ensures s c.requires.world c.requires.counters outcome.chronicle.entries ran.run.so_far

pub returns-clause-comes : goal.returns-clause-comes
returns-clause-comes g c =
    let s = c.args.device.setup in
    let outcome = c.run_threads-outcome.result in
    let e = c.run_threads-outcome.ensures in
    let ran = threaded_as c.in-Ok.device s outcome c.in-Ok.ensures.ok (record { world = e.world; run = e.run; apps = e.apps; waits = e.waits; passes = e.passes }) in
    known_comes (IsThreadedOutcome s) (λ (outcome : Outcome). written_of c.args.plan.now c.args.judge.now c.args.admissions.now false outcome)
    outcome (λ o. o) c.run_output.result ran c.run_output.ensures
