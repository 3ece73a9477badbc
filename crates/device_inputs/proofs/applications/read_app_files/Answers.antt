use Rattle.std.proofs.Common.{◌≡◌, ℕ, suc, ◌+◌, List, [], ◌∷◌, IsOk, length, drop, sym, ap, ◌∙◌, arith}
use Rattle.std.proofs.lemmas.List.{drop_all, length-append}
use Rattle.std.proofs.lemmas.List.Elements.{All-push}
use Rattle.std.proofs.Math.Seq.{drop-cons}
use Rattle.elf32.specs.Files.{elf_of}
use Rattle.device_config.specs.declared.plans.AppPlan.{AppPlan}
use Rattle.command_plans.specs.Steps.{no_memory}
use Rattle.command_plans.specs.Answered.{reason_of}
use Rattle.device_inputs.specs.Inputs.{AppFileIn, AppFilesIn}
use Rattle.device_inputs.proofs.EachRead.{one_read, read_stops, each_read, tells_stop, not_kept, app_may_spend}
use Rattle.device_inputs.proofs.applications.read_app_files.Goals as goal

pub returns-in_err-file-clause-reads : goal.returns-in_err-file-clause-reads
returns-in_err-file-clause-reads g c =
    let i = c.loop-app.app-index in
    let all = c.args.apps.now in
    let one = c.app-item.result in
    let more = drop (suc i) all in
    let split : drop i all ≡ one ∷ more = drop-cons all i one c.loop-app-test.true ∙ ap (λ (a : AppPlan). a ∷ more) (sym c.app-item.is) in
    let old = g.F.Files.shows c.args.files.now in
    let mid = g.F.Files.shows c.loop-app.files in
    let new = g.F.Files.shows c.read_app_file.new.files in
    let stop = c.in_err-file.field-0.0 in
    tells_stop (AppFilesIn all) (λ list. list) c.from_residual.result stop old new c.from_residual.ensures.1
    (read_stops AppFileIn c.loop-app.list (drop i all) more all one (reason_of stop) old mid new c.loop-app.invariant.goes split c.in_err-file.ensures.reads)

pub returns-in_default-clause-reads : goal.returns-in_default-clause-reads
returns-in_default-clause-reads g c =
    let i = c.loop-app.app-index in
    let all = c.args.apps.now in
    let one = c.app-item.result in
    let more = drop (suc i) all in
    let split : drop i all ≡ one ∷ more = drop-cons all i one c.loop-app-test.true ∙ ap (λ (a : AppPlan). a ∷ more) (sym c.app-item.is) in
    let old = g.F.Files.shows c.args.files.now in
    let mid = g.F.Files.shows c.loop-app.files in
    let new = g.F.Files.shows c.read_app_file.new.files in
    read_stops AppFileIn c.loop-app.list (drop i all) more all one no_memory old mid new c.loop-app.invariant.goes split
    (not_kept AppFileIn app_may_spend one c.in_ok-file.file mid new c.in_ok-file.ensures.reads)

pub loop-app-preserved : goal.loop-app-preserved
loop-app-preserved g c =
    let i = c.loop-app.app-index in
    let all = c.args.apps.now in
    let one = c.app-item.result in
    let next : i + 1 ≡ suc i = omega arith in
    let more = drop (i + 1) all in
    let split : drop i all ≡ one ∷ more =
    drop-cons all i one c.loop-app-test.true ∙ ap (λ (a : AppPlan). a ∷ drop (suc i) all) (sym c.app-item.is) ∙ ap (λ (k : ℕ). one ∷ drop k all) (sym next) in
    let old = g.F.Files.shows c.args.files.now in
    let mid = g.F.Files.shows c.loop-app.files in
    let new = g.F.Files.shows c.read_app_file.new.files in
    let pushed = c.in-Ok.ensures.ok in
    record {
      goes = rw pushed (one_read AppFileIn c.loop-app.list (drop i all) more all one c.in_ok-file.file old mid new c.loop-app.invariant.goes split c.in_ok-file.ensures.reads);
      sound = rw pushed (All-push (λ (file : List ℕ). IsOk (elf_of file)) c.loop-app.list c.in_ok-file.file c.loop-app.invariant.sound c.in_ok-file.ensures.sound);
      count = let grown : length c.push.new.self ≡ length c.loop-app.list + 1 = ap length pushed ∙ length-append c.loop-app.list (c.in_ok-file.file ∷ []) in omega (arith, grown, c.loop-app.invariant.count);
    }

pub returns-clause-reads : goal.returns-clause-reads
returns-clause-reads g c =
    let i = c.loop-app.app-index in
    let all = c.args.apps.now in
    each_read AppFileIn c.loop-app.list (drop i all) all (g.F.Files.shows c.args.files.now) (g.F.Files.shows c.loop-app.files) c.loop-app.invariant.goes (drop_all i all c.loop-app-test.false)
