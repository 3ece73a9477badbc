-- One line more, or a place where none stands.
use Rattle.std.proofs.Common.{◌≡◌, ◌+◌, ◌*◌, ◌<◌, ◌≤◌, suc, ◌++◌, length, All, sym, ap, ◌∙◌, subst, arith, length-append}
use Rattle.std.proofs.lemmas.Grind.{common_steps}
use Rattle.std.proofs.lemmas.List.Elements.{All-nil, All-append}
use Rattle.history.specs.Layout.{byte_count}
use Rattle.trace.specs.Text.{text_of_lines, image_lines}
use Rattle.trace.specs.Whole.{LeavesAt}
use Rattle.trace.proofs.Images.{image_nil, leaves_image, text_more}
use Rattle.trace.proofs.text_reading.read_image.Goals as goal

pub loop-line-init : goal.loop-line-init
loop-line-init c =
    let none = c.in-Ok.ensures.items in
    let text = c.args.text.now in
    record {
      size = omega (arith, ap length none);
      bytes = subst (All (λ byte. byte < 256)) (sym none) (All-nil (λ byte. byte < 256));
      spelled = sym (ap (λ l. text_of_lines (image_lines l) ++ text) none ∙ ap (λ l. text_of_lines l ++ text) image_nil);
    }

pub returns-in_default-image_line-clause-fault : goal.returns-in_default-image_line-clause-fault
returns-in_default-image_line-clause-fault c = λ w whole s count is.
    let kept = c.loop-line.invariant in
    let line = c.loop-line.line in
    let items = c.loop-line.image.items in
    let below = c.loop-line-test.true in
    let within : line * 32 < byte_count w.layout = omega (arith, count, below) in
    let size : length items ≡ line * 32 = omega (arith, kept.size, below) in
    let left = leaves_image w whole c.args.text.now c.loop-line.left.now items line s is size within kept.bytes kept.spelled (λ bytes r are size_is stands.
    let wanted = c.min-count.ensures in
    let same : length bytes ≡ c.min-count.result = omega (arith, size_is, wanted, count) in
    c.in_default-image_line.ensures.none bytes r are (grind (arith, common_steps, same)) stands) in
    let number : suc (4 + line) ≡ 5 + line = omega arith in
    subst (LeavesAt whole) number left

pub loop-line-preserved : goal.loop-line-preserved
loop-line-preserved c =
    let kept = c.loop-line.invariant in
    let line = c.loop-line.line in
    let items = c.loop-line.image.items in
    let piece = c.image_line.new.piece in
    let below = c.loop-line-test.true in
    let wanted = c.min-count.ensures in
    let longer = c.in-Ok-extend_from_slice.ensures.items in
    let size : length items ≡ line * 32 = omega (arith, kept.size, below) in
    let count : length piece ≡ c.min-count.result = grind (arith, common_steps, c.in-Some.ensures.length) in
    let some : 0 < length piece = omega (arith, count, wanted, below) in
    let few : length piece ≤ 32 = omega (arith, count, wanted) in
    let bytes : All (λ byte. byte < 256) piece = c.in-Some.ensures.bytes in
    record {
      size = omega (arith, ap length longer, length-append items piece, size, count, wanted, below);
      bytes = subst (All (λ byte. byte < 256)) (sym longer) (All-append (λ byte. byte < 256) items piece kept.bytes bytes);
      spelled = text_more line items piece c.args.text.now c.loop-line.left.now c.in-Some.rest.now size some few kept.spelled c.in-Some.ensures.found ∙ ap (λ l. text_of_lines (image_lines l) ++ c.in-Some.rest.now) (sym longer);
    }
