use Rattle.std.proofs.Common.{List, ℕ, Option, Ok, option_map}
use Rattle.std.specs.Option.{option_copied}
use Rattle.command_plans.specs.Steps.{exactly}
use Rattle.command_plans.specs.Reading.{input_limit, ReadFile}
use Rattle.command_plans.specs.Answered.{came_of}
use Rattle.command_plans.proofs.Binds.{stops, then_known}
use Rattle.message_commands.specs.Plans.{KnowledgeIn, ReadNote, judgement, verify_plan}
use Rattle.message_commands.proofs.Knows.{report_then, note_then, behind_knowledge, behind_report}
use Rattle.message_commands.proofs.verifying.prepare_verify.Goals as goal

pub returns-in_err-known : goal.returns-in_err-known
unfolding verify_plan
returns-in_err-known g c =
    stops (KnowledgeIn c.args.verifier.now) (report_then c.args.report.now (option_copied c.args.note)) (λ o. o) c.from_residual.result c.in_err-known.field-0.0 (g.F.Files.shows c.args.files.now)
    (g.F.Files.shows c.read_knowledge.new.files) c.from_residual.ensures.1 c.in_err-known.ensures

pub returns-in_err-bytes : goal.returns-in_err-bytes
returns-in_err-bytes g c =
    let report = c.args.report.now in
    let note = option_copied c.args.note in
    let known = c.in_ok-known.known in
    let old = g.F.Files.shows c.args.files.now in
    let one = g.F.Files.shows c.read_knowledge.new.files in
    let two = g.F.Files.shows c.read_file.new.files in
    behind_knowledge c.args.verifier.now report note known (came_of (λ o. o) c.from_residual-in_err-bytes.result) old one two c.in_ok-known.ensures
    (stops (ReadFile input_limit report) (note_then note known) (λ o. o) c.from_residual-in_err-bytes.result c.in_err-bytes.field-0.0 one two c.from_residual-in_err-bytes.ensures.1 c.in_err-bytes.ensures.reads)

pub returns-in_err-written : goal.returns-in_err-written
returns-in_err-written g c =
    let report = c.args.report.now in
    let note = option_copied c.args.note in
    let known = c.in_ok-known.known in
    let bytes = c.in_ok-bytes.bytes.items in
    let old = g.F.Files.shows c.args.files.now in
    let one = g.F.Files.shows c.read_knowledge.new.files in
    let two = g.F.Files.shows c.read_file.new.files in
    let three = g.F.Files.shows c.read_note.new.files in
    let came = came_of (λ o. o) c.from_residual-in_err-written.result in
    behind_knowledge c.args.verifier.now report note known came old one three c.in_ok-known.ensures
    (behind_report report note known bytes came one two three c.in_ok-bytes.ensures.reads
    (stops (ReadNote note) (λ (written : Option (List ℕ)) files. exactly (Ok (judgement known bytes written))) (λ o. o) c.from_residual-in_err-written.result c.in_err-written.field-0.0 two three
    c.from_residual-in_err-written.ensures.1 c.in_err-written.ensures))

pub returns : goal.returns
returns g c =
    let report = c.args.report.now in
    let note = option_copied c.args.note in
    let known = c.in_ok-known.known in
    let bytes = c.in_ok-bytes.bytes.items in
    let written = option_map (λ v. v.items) c.in_ok-written.written in
    let old = g.F.Files.shows c.args.files.now in
    let one = g.F.Files.shows c.read_knowledge.new.files in
    let two = g.F.Files.shows c.read_file.new.files in
    let three = g.F.Files.shows c.read_note.new.files in
    let came = came_of (λ o. o) c.judge.result in
    behind_knowledge c.args.verifier.now report note known came old one three c.in_ok-known.ensures
    (behind_report report note known bytes came one two three c.in_ok-bytes.ensures.reads
    (then_known (ReadNote note) (λ (n : Option (List ℕ)). Ok (judgement known bytes n)) written (λ o. o) c.judge.result two three c.in_ok-written.ensures (rw (c.deref.ensures.value, c.bytes_of.ensures) at c.judge.ensures)))
