use Rattle.std.proofs.Common.{Ok, ◌∙◌}
use Rattle.image_set.specs.Match.{no_images}
use Rattle.command_plans.specs.Answered.{came_of}
use Rattle.command_plans.specs.Steps.{exactly}
use Rattle.command_plans.proofs.Binds.{stops}
use Rattle.input_files.specs.InputFiles.{KeyIn, ChallengeIn, ReadImages, image_shape}
use Rattle.message_commands.specs.Plans.{VerifierIn, KnowledgeIn, knows}
use Rattle.message_commands.proofs.Knows.{key_then, challenge_then, images_then, behind_plan, behind_key, behind_challenge, with_shape, knows_all}
use Rattle.message_commands.proofs.verifying.read_knowledge.Goals as goal

pub returns-in_err-plan : goal.returns-in_err-plan
unfolding KnowledgeIn
returns-in_err-plan g c =
    stops (VerifierIn c.args.verifier.now) key_then (λ k. k) c.from_residual.result c.in_err-plan.field-0.0 (g.F.Files.shows c.args.files.now) (g.F.Files.shows c.read_plan.new.files) c.from_residual.ensures.1 c.in_err-plan.ensures.reads

pub returns-in_err-key : goal.returns-in_err-key
returns-in_err-key g c =
    let plan = c.in_ok-plan.plan in
    let old = g.F.Files.shows c.args.files.now in
    let one = g.F.Files.shows c.read_plan.new.files in
    let two = g.F.Files.shows c.read_key.new.files in
    behind_plan c.args.verifier.now plan (came_of (λ k. k) c.from_residual-in_err-key.result) old one two c.in_ok-plan.ensures.reads
    (stops (KeyIn plan.key) (challenge_then plan) (λ k. k) c.from_residual-in_err-key.result c.in_err-key.field-0.0 one two c.from_residual-in_err-key.ensures.1 (rw c.as_str.ensures at c.in_err-key.ensures))

pub returns-in_err-expected : goal.returns-in_err-expected
returns-in_err-expected g c =
    let plan = c.in_ok-plan.plan in
    let key = c.in_ok-key.key.items in
    let old = g.F.Files.shows c.args.files.now in
    let one = g.F.Files.shows c.read_plan.new.files in
    let two = g.F.Files.shows c.read_key.new.files in
    let three = g.F.Files.shows c.read_challenge.new.files in
    let came = came_of (λ k. k) c.from_residual-in_err-expected.result in
    behind_plan c.args.verifier.now plan came old one three c.in_ok-plan.ensures.reads
    (behind_key plan key came one two three (rw c.as_str.ensures at c.in_ok-key.ensures)
    (stops (ChallengeIn key plan.challenge) (images_then plan key) (λ k. k) c.from_residual-in_err-expected.result c.in_err-expected.field-0.0 two three c.from_residual-in_err-expected.ensures.1
    (rw (c.deref.ensures.value, c.as_str-2.ensures) at c.in_err-expected.ensures)))

pub returns-in_err-set : goal.returns-in_err-set
returns-in_err-set g c =
    let plan = c.in_ok-plan.plan in
    let key = c.in_ok-key.key.items in
    let expected = c.in_ok-expected.expected in
    let old = g.F.Files.shows c.args.files.now in
    let one = g.F.Files.shows c.read_plan.new.files in
    let two = g.F.Files.shows c.read_key.new.files in
    let three = g.F.Files.shows c.read_challenge.new.files in
    let four = g.F.Files.shows c.read_images.new.files in
    let came = came_of (λ k. k) c.from_residual-in_err-set.result in
    behind_plan c.args.verifier.now plan came old one four c.in_ok-plan.ensures.reads
    (behind_key plan key came one two four (rw c.as_str.ensures at c.in_ok-key.ensures)
    (behind_challenge plan key expected came two three four (rw (c.deref.ensures.value, c.as_str-2.ensures) at c.in_ok-expected.ensures)
    (stops (ReadImages plan.images (no_images (image_shape plan.geometry plan.ranges))) (λ set files. exactly (Ok (knows plan key expected set))) (λ k. k) c.from_residual-in_err-set.result c.in_err-set.field-0.0 three four c.from_residual-in_err-set.ensures.1
    (rw (c.image_shape-shape.ensures, c.as_slice.ensures) at c.in_err-set.ensures.reads))))

pub returns : goal.returns
returns g c =
    let plan = c.in_ok-plan.plan in
    let key = c.in_ok-key.key.items in
    let expected = c.in_ok-expected.expected in
    let set = c.in_ok-set.set in
    let old = g.F.Files.shows c.args.files.now in
    let one = g.F.Files.shows c.read_plan.new.files in
    let two = g.F.Files.shows c.read_key.new.files in
    let three = g.F.Files.shows c.read_challenge.new.files in
    let four = g.F.Files.shows c.read_images.new.files in
    let k = with_shape key expected plan.last set.images set.shape in
    behind_plan c.args.verifier.now plan (Ok k) old one four c.in_ok-plan.ensures.reads
    (behind_key plan key (Ok k) one two four (rw c.as_str.ensures at c.in_ok-key.ensures)
    (behind_challenge plan key expected (Ok k) two three four (rw (c.deref.ensures.value, c.as_str-2.ensures) at c.in_ok-expected.ensures)
    (knows_all plan key expected set three four (rw (c.image_shape-shape.ensures, c.as_slice.ensures) at c.in_ok-set.ensures.reads) (c.in_ok-set.ensures.shape ∙ c.image_shape-shape.ensures))))
