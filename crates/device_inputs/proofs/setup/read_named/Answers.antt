use Rattle.std.proofs.Common.{Ok}
use Rattle.image_set.specs.Match.{no_images}
use Rattle.command_plans.specs.Answered.{came_of}
use Rattle.command_plans.specs.Steps.{exactly}
use Rattle.command_plans.proofs.Binds.{stops}
use Rattle.input_files.specs.InputFiles.{KeyIn, ReadImages, image_shape}
use Rattle.device_inputs.specs.Inputs.{PlacedIn}
use Rattle.device_inputs.specs.Setups.{AdmissionsIn, NamedIn}
use Rattle.device_inputs.proofs.Named.{setup_of, placed_then, admissions_then, images_then, behind_key, behind_placed, behind_admissions, with_images}
use Rattle.device_inputs.proofs.setup.read_named.Goals as goal

pub returns-in_err-key-clause-reads : goal.returns-in_err-key-clause-reads
unfolding NamedIn
returns-in_err-key-clause-reads g c =
    stops (KeyIn c.args.plan.key) (placed_then c.args.device.now c.args.plan) (λ s. s) c.from_residual.result c.in_err-key.field-0.0 (g.F.Files.shows c.args.files.now) (g.F.Files.shows c.read_key.new.files)
    c.from_residual.ensures.1 (rw c.as_str.ensures at c.in_err-key.ensures)

pub returns-in_err-placed-clause-reads : goal.returns-in_err-placed-clause-reads
returns-in_err-placed-clause-reads g c =
    let plan = c.args.plan in
    let key = c.in_ok-key.key.items in
    let old = g.F.Files.shows c.args.files.now in
    let one = g.F.Files.shows c.read_key.new.files in
    let two = g.F.Files.shows c.read_placed.new.files in
    behind_key c.args.device.now plan key (came_of (λ s. s) c.from_residual-in_err-placed.result) old one two (rw c.as_str.ensures at c.in_ok-key.ensures)
    (stops (PlacedIn c.args.device.now plan) (admissions_then plan key) (λ s. s) c.from_residual-in_err-placed.result c.in_err-placed.field-0.0 one two c.from_residual-in_err-placed.ensures.1 c.in_err-placed.ensures.reads)

pub returns-in_err-admissions-clause-reads : goal.returns-in_err-admissions-clause-reads
returns-in_err-admissions-clause-reads g c =
    let plan = c.args.plan in
    let key = c.in_ok-key.key.items in
    let image = c.in_ok-placed.placed in
    let old = g.F.Files.shows c.args.files.now in
    let one = g.F.Files.shows c.read_key.new.files in
    let two = g.F.Files.shows c.read_placed.new.files in
    let three = g.F.Files.shows c.read_admissions.new.files in
    let came = came_of (λ s. s) c.from_residual-in_err-admissions.result in
    behind_key c.args.device.now plan key came old one three (rw c.as_str.ensures at c.in_ok-key.ensures)
    (behind_placed c.args.device.now plan key image came one two three c.in_ok-placed.ensures.reads
    (stops (AdmissionsIn key plan.last plan.challenges) (images_then plan key image) (λ s. s) c.from_residual-in_err-admissions.result c.in_err-admissions.field-0.0 two three c.from_residual-in_err-admissions.ensures.1
    (rw (c.deref.ensures.value, c.as_slice.ensures) at c.in_err-admissions.ensures.reads)))

pub returns-in_err-images-clause-reads : goal.returns-in_err-images-clause-reads
returns-in_err-images-clause-reads g c =
    let plan = c.args.plan in
    let key = c.in_ok-key.key.items in
    let image = c.in_ok-placed.placed in
    let answers = c.in_ok-admissions.admissions in
    let old = g.F.Files.shows c.args.files.now in
    let one = g.F.Files.shows c.read_key.new.files in
    let two = g.F.Files.shows c.read_placed.new.files in
    let three = g.F.Files.shows c.read_admissions.new.files in
    let four = g.F.Files.shows c.read_images.new.files in
    let came = came_of (λ s. s) c.from_residual-in_err-images.result in
    behind_key c.args.device.now plan key came old one four (rw c.as_str.ensures at c.in_ok-key.ensures)
    (behind_placed c.args.device.now plan key image came one two four c.in_ok-placed.ensures.reads
    (behind_admissions plan key image answers came two three four (rw (c.deref.ensures.value, c.as_slice.ensures) at c.in_ok-admissions.ensures.reads)
    (stops (ReadImages plan.images (no_images (image_shape plan.geometry plan.ranges))) (λ known files. exactly (Ok (setup_of plan key image answers known))) (λ s. s) c.from_residual-in_err-images.result c.in_err-images.field-0.0 three four
    c.from_residual-in_err-images.ensures.1 (rw (c.image_shape-shape.ensures, c.as_slice-2.ensures) at c.in_err-images.ensures.reads))))

pub returns-clause-reads : goal.returns-clause-reads
returns-clause-reads g c =
    let plan = c.args.plan in
    let key = c.in_ok-key.key.items in
    let image = c.in_ok-placed.placed in
    let answers = c.in_ok-admissions.admissions in
    let known = c.in_ok-images.images in
    let old = g.F.Files.shows c.args.files.now in
    let one = g.F.Files.shows c.read_key.new.files in
    let two = g.F.Files.shows c.read_placed.new.files in
    let three = g.F.Files.shows c.read_admissions.new.files in
    let four = g.F.Files.shows c.read_images.new.files in
    let s = setup_of plan key image answers known in
    rw c.from_vec-key.ensures (behind_key c.args.device.now plan key (Ok s) old one four (rw c.as_str.ensures at c.in_ok-key.ensures)
    (behind_placed c.args.device.now plan key image (Ok s) one two four c.in_ok-placed.ensures.reads
    (behind_admissions plan key image answers (Ok s) two three four (rw (c.deref.ensures.value, c.as_slice.ensures) at c.in_ok-admissions.ensures.reads)
    (with_images plan key image answers known three four (rw (c.image_shape-shape.ensures, c.as_slice-2.ensures) at c.in_ok-images.ensures.reads)))))
