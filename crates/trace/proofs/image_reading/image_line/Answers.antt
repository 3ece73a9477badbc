-- One byte more, or a place where none stands.
use Rattle.std.proofs.Common.{◌<◌, ◌≤◌, length, take, refl, sym, ◌∙◌, ◌∷◌, [], All, subst, take_all, arith, length-take}
use Rattle.std.proofs.lemmas.Grind.{common_steps}
use Rattle.std.proofs.lemmas.List.{take_more_set}
use Rattle.std.proofs.lemmas.List.Elements.{All-nil, All-cons, All-append}
use Rattle.trace.specs.Reading.{digits_at}
use Rattle.trace.proofs.HeadTakes.{unread}
use Rattle.trace.proofs.ImageTakes.{byte_stands, byte_read, byte_more, line_found, line_none, line_bytes, no_digits}
use Rattle.trace.proofs.image_reading.image_line.Goals as goal

pub loop-place-init : goal.loop-place-init
loop-place-init c = record { count = refl; bytes = All-nil (λ byte. byte < 256); spelled = sym (no_digits c.args.text.now) }

pub returns-in_default-clause-none : goal.returns-in_default-clause-none
returns-in_default-clause-none c = λ bytes rest are size is.
    let kept = c.loop-place.invariant in
    let front = take c.loop-place.place c.loop-place.piece in
    let left = c.loop-place.left.now in
    let short : length front < length bytes = omega (arith, size, kept.count, c.loop-place-test.true, length-take c.loop-place.place c.loop-place.piece) in
    let next = byte_stands front bytes left (10 ∷ rest) are short (sym kept.spelled ∙ is) in
    unread (digits_at 2 0 left) next.0 c.in_default.ensures.value next.1

pub loop-place-preserved : goal.loop-place-preserved
loop-place-preserved c =
    let kept = c.loop-place.invariant in
    let inside : c.loop-place.place < length c.loop-place.piece = omega (arith, kept.count, c.loop-place-test.true) in
    let small = (byte_read c.in-Some.byte c.loop-place.left.now c.in-Some.rest.now (sym c.in-Some.ensures.value)).0 in
    record {
      count = grind (arith, common_steps);
      bytes = subst (All (λ byte. byte < 256)) (sym (take_more_set c.loop-place.piece c.loop-place.place c.in-Some.byte inside))
          (All-append (λ byte. byte < 256) (take c.loop-place.place c.loop-place.piece) (c.in-Some.byte ∷ []) kept.bytes (All-cons (λ byte. byte < 256) c.in-Some.byte [] small (All-nil (λ byte. byte < 256))));
      spelled = byte_more c.loop-place.piece c.loop-place.place c.in-Some.byte c.args.text.now c.loop-place.left.now c.in-Some.rest.now inside kept.spelled (sym c.in-Some.ensures.value);
    }

pub returns-clause-found : goal.returns-clause-found
returns-clause-found c =
    let kept = c.loop-place.invariant in
    let all : length c.loop-place.piece ≤ c.loop-place.place = omega (arith, kept.count, c.loop-place-test.false) in
    line_found c.text_behind.result c.loop-place.piece c.args.text.now c.loop-place.left.now c.loop-place.place all c.text_behind.ensures kept.spelled

pub returns-clause-none : goal.returns-clause-none
returns-clause-none c =
    let kept = c.loop-place.invariant in
    let all : length c.loop-place.piece ≤ c.loop-place.place = omega (arith, kept.count, c.loop-place-test.false) in
    line_none c.text_behind.result c.loop-place.piece c.args.text.now c.loop-place.left.now c.loop-place.place all c.text_behind.ensures kept.spelled kept.count

pub returns-clause-bytes : goal.returns-clause-bytes
returns-clause-bytes c =
    let kept = c.loop-place.invariant in
    let all : length c.loop-place.piece ≤ c.loop-place.place = omega (arith, kept.count, c.loop-place-test.false) in
    line_bytes c.text_behind.result c.loop-place.piece (subst (All (λ byte. byte < 256)) (take_all c.loop-place.place c.loop-place.piece all) kept.bytes)
