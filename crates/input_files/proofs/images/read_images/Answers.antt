use Rattle.std.proofs.Common.{◌≡◌, ℕ, suc, ◌+◌, List, ◌∷◌, drop, sym, ap, ◌∙◌, arith}
use Rattle.std.proofs.Math.Seq.{drop-cons}
use Rattle.image_set.specs.Match.{no_images}
use Rattle.input_files.proofs.ImageSteps.{one_more, image_stops}
use Rattle.input_files.proofs.images.read_images.Goals as goal

pub returns-in_err-total-clause-reads : goal.returns-in_err-total-clause-reads
returns-in_err-total-clause-reads g c =
    let i = c.loop-name.name-index in
    let names = c.args.names.now in
    let behind = drop (suc i) names in
    let split : drop i names ≡ c.as_str.result.now ∷ behind =
    drop-cons names i c.name-item.result c.loop-name-test.true ∙ ap (λ (n : List ℕ). n ∷ behind) (sym c.name-item.is ∙ sym c.as_str.ensures) in
    image_stops (drop i names) behind names c.as_str.result.now c.loop-name.set (no_images c.args.shape) c.from_residual.result c.in_err-total.field-0.0 (g.F.Files.shows c.args.files.now) (g.F.Files.shows c.loop-name.files) (g.F.Files.shows c.read_image.new.files)
    c.loop-name.invariant.goes split c.from_residual.ensures.1 c.in_err-total.ensures.reads

pub loop-name-preserved : goal.loop-name-preserved
loop-name-preserved g c =
    let i = c.loop-name.name-index in
    let names = c.args.names.now in
    let next : i + 1 ≡ suc i = omega arith in
    let behind = drop (i + 1) names in
    let split : drop i names ≡ c.as_str.result.now ∷ behind =
    drop-cons names i c.name-item.result c.loop-name-test.true
    ∙ ap (λ (n : List ℕ). n ∷ drop (suc i) names) (sym c.name-item.is ∙ sym c.as_str.ensures)
    ∙ ap (λ (k : ℕ). c.as_str.result.now ∷ drop k names) (sym next) in
    record {
      goes = one_more (drop i names) behind names c.as_str.result.now c.loop-name.set c.read_image.new.set (no_images c.args.shape) (g.F.Files.shows c.args.files.now) (g.F.Files.shows c.loop-name.files) (g.F.Files.shows c.read_image.new.files)
          c.loop-name.invariant.goes split c.in_ok-total.ensures.reads;
      shape = c.in_ok-total.ensures.shape ∙ c.loop-name.invariant.shape;
      count = omega (arith, c.in_ok-total.ensures.count, c.loop-name.invariant.count);
      sum = c.in_ok-total.ensures.sum;
      room = c.in_ok-total.ensures.room;
    }
