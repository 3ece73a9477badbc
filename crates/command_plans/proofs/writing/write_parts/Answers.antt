use Rattle.std.proofs.Common.{◌++◌, drop, ◌∙◌}
use Rattle.std.specs.List.{concat}
use Rattle.command_plans.specs.Written.{joined}
use Rattle.command_plans.proofs.Writings.{on_err, part_put, stops_here, part_stops, first_stops}
use Rattle.command_plans.proofs.writing.write_parts.Goals as goal

pub returns-in_err-write_whole-clause-err : goal.returns-in_err-write_whole-clause-err
returns-in_err-write_whole-clause-err g c =
    on_err c.from_residual.result (first_stops c.args.name.now c.args.first.now (joined g.B.FileParts.parts c.args.parts.now) (g.F.Files.shows c.args.files.now).held (g.F.Files.shows c.write_whole.new.files).held
    c.in_err-write_whole.ensures.err)

pub returns-in_default-clause-err : goal.returns-in_default-clause-err
returns-in_default-clause-err g c =
    let parts = g.B.FileParts.parts c.args.parts.now in
    stops_here c.args.name.now (c.args.first.now ++ concat parts) (concat (drop c.loop-k.k parts)) (g.F.Files.shows c.args.files.now).held (g.F.Files.shows c.loop-k.files).held c.loop-k.invariant.put

pub returns-in_err-append-clause-err : goal.returns-in_err-append-clause-err
returns-in_err-append-clause-err g c =
    let parts = g.B.FileParts.parts c.args.parts.now in
    on_err c.from_residual-in_err-append.result
    (part_stops parts c.loop-k.k c.in-Ok.part.items c.args.name.now (c.args.first.now ++ concat parts) (g.F.Files.shows c.args.files.now).held (g.F.Files.shows c.loop-k.files).held (g.F.Files.shows c.append.new.self).held
    c.loop-k.invariant.put c.in-Ok.ensures (rw c.deref.ensures.value at c.in_err-append.ensures.err))

pub loop-k-preserved : goal.loop-k-preserved
loop-k-preserved g c =
    let parts = g.B.FileParts.parts c.args.parts.now in
    record {
      put = part_put parts c.loop-k.k c.in-Ok.part.items c.args.name.now (c.args.first.now ++ concat parts) (g.F.Files.shows c.args.files.now).held (g.F.Files.shows c.loop-k.files).held (g.F.Files.shows c.append.new.self).held
          c.loop-k.invariant.put c.in-Ok.ensures (rw c.deref.ensures.value at c.in_ok-append.ensures.ok);
      asked = c.in_ok-append.ensures.asked ∙ c.loop-k.invariant.asked;
      faults = c.in_ok-append.ensures.counted ∙ c.loop-k.invariant.faults;
    }
