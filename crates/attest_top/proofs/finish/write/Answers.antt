use Rattle.attest_top.specs.Outcomes.{FilesWritten}
use Rattle.attest_top.proofs.finish.write.Goals as goal

pub returns-in-Ok-clause-writes : goal.returns-in-Ok-clause-writes
returns-in-Ok-clause-writes g c = λ input left.
    let before = g.F.Files.shows c.args.files.now in
    let now = g.F.Files.shows c.write_files.new.files in
    let written : FilesWritten c.args.output.now.files before now = rw c.files.ensures.files at c.in-Ok.ensures.ok in
    c.write_out.ensures before now input left written
