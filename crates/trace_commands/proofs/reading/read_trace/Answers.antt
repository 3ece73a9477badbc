use Rattle.command_plans.specs.Answered.{came_of}
use Rattle.command_plans.specs.Reading.{ReadFile}
use Rattle.command_plans.proofs.Binds.{comes_purely, goes_on, stops}
use Rattle.trace_commands.specs.Checks.{TraceIn, TraceOf, trace_limit}
use Rattle.trace_commands.proofs.reading.read_trace.Goals as goal

pub returns-in_err-text : goal.returns-in_err-text
unfolding TraceIn
returns-in_err-text g c =
    stops (ReadFile trace_limit c.args.name.now) (λ text files. TraceOf c.args.name.now text) (λ kept. kept) c.from_residual.result c.in_err-text.field-0.0 (g.F.Files.shows c.args.files.now)
    (g.F.Files.shows c.read_file.new.files) c.from_residual.ensures.1 c.in_err-text.ensures.reads

pub returns : goal.returns
unfolding TraceIn
returns g c =
    let name = c.args.name.now in
    let text = c.in_ok-text.text.items in
    let read = g.F.Files.shows c.read_file.new.files in
    goes_on (ReadFile trace_limit name) (λ text files. TraceOf name text) text (came_of (λ kept. kept) c.trace_of.result) (g.F.Files.shows c.args.files.now) read read c.in_ok-text.ensures.reads
    (comes_purely (TraceOf name text) (λ kept. kept) c.trace_of.result read (rw c.deref.ensures.value at c.trace_of.ensures.comes) c.trace_of.ensures.quiet)
