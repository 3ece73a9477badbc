use Rattle.std.proofs.Common.{◌≡◌, ℕ, suc, ◌+◌, List, ◌∷◌, drop, sym, ap, ◌∙◌, arith}
use Rattle.std.proofs.lemmas.List.{drop_all}
use Rattle.std.proofs.Math.Seq.{drop-cons}
use Rattle.command_plans.specs.Steps.{no_memory}
use Rattle.command_plans.specs.Answered.{reason_of}
use Rattle.device_inputs.specs.Lists.{ReadEach}
use Rattle.device_inputs.proofs.EachRead.{one_read, read_stops, each_read, tells_stop, not_kept}
use Rattle.trace_commands.specs.Checks.{ReportIn}
use Rattle.trace_commands.proofs.Checked.{report_may_spend}
use Rattle.trace_commands.proofs.reading.read_reports.Goals as goal

pub returns-in_err-bytes : goal.returns-in_err-bytes
returns-in_err-bytes g c =
    let i = c.loop-name.name-index in
    let all = c.args.names.now in
    let one = c.name-item.result in
    let more = drop (suc i) all in
    let split : drop i all ≡ one ∷ more = drop-cons all i one c.loop-name-test.true ∙ ap (λ (a : List ℕ). a ∷ more) (sym c.name-item.is) in
    let old = g.F.Files.shows c.args.files.now in
    let mid = g.F.Files.shows c.loop-name.files in
    let new = g.F.Files.shows c.read_report.new.files in
    let stop = c.in_err-bytes.field-0.0 in
    tells_stop (ReadEach ReportIn all) (λ list. list) c.from_residual.result stop old new c.from_residual.ensures.1
    (read_stops ReportIn c.loop-name.list (drop i all) more all one (reason_of stop) old mid new c.loop-name.invariant split c.in_err-bytes.ensures)

pub returns-in_default : goal.returns-in_default
returns-in_default g c =
    let i = c.loop-name.name-index in
    let all = c.args.names.now in
    let one = c.name-item.result in
    let more = drop (suc i) all in
    let split : drop i all ≡ one ∷ more = drop-cons all i one c.loop-name-test.true ∙ ap (λ (a : List ℕ). a ∷ more) (sym c.name-item.is) in
    let old = g.F.Files.shows c.args.files.now in
    let mid = g.F.Files.shows c.loop-name.files in
    let new = g.F.Files.shows c.read_report.new.files in
    read_stops ReportIn c.loop-name.list (drop i all) more all one no_memory old mid new c.loop-name.invariant split
    (not_kept ReportIn report_may_spend one c.in_ok-bytes.bytes mid new c.in_ok-bytes.ensures)

pub loop-name-preserved : goal.loop-name-preserved
loop-name-preserved g c =
    let i = c.loop-name.name-index in
    let all = c.args.names.now in
    let one = c.name-item.result in
    let next : i + 1 ≡ suc i = omega arith in
    let more = drop (i + 1) all in
    let split : drop i all ≡ one ∷ more =
    drop-cons all i one c.loop-name-test.true ∙ ap (λ (a : List ℕ). a ∷ drop (suc i) all) (sym c.name-item.is) ∙ ap (λ (k : ℕ). one ∷ drop k all) (sym next) in
    let old = g.F.Files.shows c.args.files.now in
    let mid = g.F.Files.shows c.loop-name.files in
    let new = g.F.Files.shows c.read_report.new.files in
    let pushed = c.in-Ok.ensures.ok in
    rw pushed (one_read ReportIn c.loop-name.list (drop i all) more all one c.in_ok-bytes.bytes old mid new c.loop-name.invariant split c.in_ok-bytes.ensures)

pub returns : goal.returns
returns g c =
    let i = c.loop-name.name-index in
    let all = c.args.names.now in
    each_read ReportIn c.loop-name.list (drop i all) all (g.F.Files.shows c.args.files.now) (g.F.Files.shows c.loop-name.files) c.loop-name.invariant (drop_all i all c.loop-name-test.false)
