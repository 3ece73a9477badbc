use Rattle.std.proofs.Common.{Ok}
use Rattle.command_plans.specs.Answered.{came_of}
use Rattle.command_plans.proofs.Binds.{goes_on, stops, then_known}
use Rattle.input_files.specs.InputFiles.{KeyIn}
use Rattle.device_inputs.specs.Lists.{ReadEach}
use Rattle.trace_commands.specs.Checks.{ReportIn, TraceIn, check_plan, written_of_check}
use Rattle.trace_commands.proofs.Checked.{key_then, reports_then, trace_then}
use Rattle.trace_commands.proofs.checks.prepare_check.Goals as goal

pub returns-in_err-chronicle : goal.returns-in_err-chronicle
unfolding check_plan
returns-in_err-chronicle g c =
    stops (TraceIn c.args.trace.now) (trace_then c.args.key.now c.args.names.now) (λ o. o) c.from_residual.result c.in_err-chronicle.field-0.0 (g.F.Files.shows c.args.files.now) (g.F.Files.shows c.read_trace.new.files)
    c.from_residual.ensures.1 c.in_err-chronicle.ensures

pub returns-in_err-key : goal.returns-in_err-key
unfolding check_plan
returns-in_err-key g c =
    let old = g.F.Files.shows c.args.files.now in
    let one = g.F.Files.shows c.read_trace.new.files in
    let two = g.F.Files.shows c.read_key.new.files in
    let kept = c.in_ok-chronicle.chronicle in
    let names = c.args.names.now in
    goes_on (TraceIn c.args.trace.now) (trace_then c.args.key.now names) kept (came_of (λ o. o) c.from_residual-in_err-key.result) old one two c.in_ok-chronicle.ensures
    (stops (KeyIn c.args.key.now) (key_then kept names) (λ o. o) c.from_residual-in_err-key.result c.in_err-key.field-0.0 one two c.from_residual-in_err-key.ensures.1 c.in_err-key.ensures)

pub returns-in_err-reports : goal.returns-in_err-reports
unfolding check_plan
returns-in_err-reports g c =
    let old = g.F.Files.shows c.args.files.now in
    let one = g.F.Files.shows c.read_trace.new.files in
    let two = g.F.Files.shows c.read_key.new.files in
    let three = g.F.Files.shows c.read_reports.new.files in
    let kept = c.in_ok-chronicle.chronicle in
    let secret = c.in_ok-key.key.items in
    let names = c.args.names.now in
    let came = came_of (λ o. o) c.from_residual-in_err-reports.result in
    goes_on (TraceIn c.args.trace.now) (trace_then c.args.key.now names) kept came old one three c.in_ok-chronicle.ensures
    (goes_on (KeyIn c.args.key.now) (key_then kept names) secret came one two three c.in_ok-key.ensures
    (stops (ReadEach ReportIn names) (reports_then kept names secret) (λ o. o) c.from_residual-in_err-reports.result c.in_err-reports.field-0.0 two three c.from_residual-in_err-reports.ensures.1 c.in_err-reports.ensures))

pub returns : goal.returns
unfolding check_plan
returns g c =
    let old = g.F.Files.shows c.args.files.now in
    let one = g.F.Files.shows c.read_trace.new.files in
    let two = g.F.Files.shows c.read_key.new.files in
    let three = g.F.Files.shows c.read_reports.new.files in
    let kept = c.in_ok-chronicle.chronicle in
    let secret = c.in_ok-key.key.items in
    let reports = c.in_ok-reports.reports in
    let names = c.args.names.now in
    let came = came_of (λ o. o) c.check_output.result in
    goes_on (TraceIn c.args.trace.now) (trace_then c.args.key.now names) kept came old one three c.in_ok-chronicle.ensures
    (goes_on (KeyIn c.args.key.now) (key_then kept names) secret came one two three c.in_ok-key.ensures
    (then_known (ReadEach ReportIn names) (λ r. Ok (written_of_check secret kept names r)) reports (λ o. o) c.check_output.result two three c.in_ok-reports.ensures
    (rw (c.deref.ensures.value, c.as_slice.ensures) at c.check_output.ensures)))
