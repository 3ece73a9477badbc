-- One range more, or a place where none stands.
use Rattle.std.proofs.Common.{◌≡◌, ◌+◌, ◌<◌, List, [], ◌∷◌, ◌++◌, length, take, sym, ap, ◌∙◌, subst, arith, inl, inr, length-append}
use Rattle.std.specs.Prelude.{slice_set}
use Rattle.std.specs.List.{flat_map, AllByRecursion}
use Rattle.std.proofs.lemmas.Option.{same_Some}
use Rattle.std.proofs.lemmas.List.{take_more_set}
use Rattle.std.proofs.lemmas.Grind.{common_steps}
use Rattle.history.specs.declared.ranges.Range.{Range}
use Rattle.history.specs.Attested.{IsRanges}
use Rattle.trace.specs.Text.{range_pair}
use Rattle.trace.specs.HeadReading.{range_numbers}
use Rattle.trace.proofs.OneTrace.{IsLow, ranges_low}
use Rattle.trace.proofs.HeadTakes.{next_range, next_read, range_takes, ranges_more, low_more, unread}
use Rattle.trace.proofs.head_reading.ranges_line.Goals as goal

pub returns-in_default-clause-none : goal.returns-in_default-clause-none
returns-in_default-clause-none c = λ ranges rest are is.
    let left = c.loop-place.left.now in
    let taken = take c.loop-place.place c.loop-place.list in
    let n = next_range taken ranges left rest c.loop-place.invariant.low (ranges_low ranges are.apart are.low) (sym c.loop-place.invariant.spelled ∙ is) in
    elim (next_read taken ranges left rest n) [
      | inl last ↦ unread (range_numbers 10 left) (n.next, rest) c.in_default.ensures last.1
      | inr more ↦ unread (range_numbers 32 left) (n.next, more.0) c.in-None.ensures more.1
    ]

pub returns-in_default-new-clause-none : goal.returns-in_default-new-clause-none
returns-in_default-new-clause-none c = λ ranges rest are is.
    let left = c.loop-place.left.now in
    let place = c.loop-place.place in
    let list = c.loop-place.list in
    let taken = take place list in
    let range = c.in-Some-range_numbers.range in
    let n = next_range taken ranges left rest c.loop-place.invariant.low (ranges_low ranges are.apart are.low) (sym c.loop-place.invariant.spelled ∙ is) in
    let inside : place < length list = omega (arith, c.loop-place.invariant.count, c.loop-place-test.true) in
    elim (next_read taken ranges left rest n) [
      | inl last ↦
          let same = same_Some (n.next, rest) (range, c.in-Some-range_numbers.rest.now) (sym last.1 ∙ sym c.in-Some-range_numbers.ensures) in
          let next : n.next ≡ range = ap (λ p. p.0) same in
          let all : ranges ≡ take (place + 1) (slice_set list place range) = n.whole ∙ ap (λ (m : List Range). taken ++ n.next ∷ m) last.0 ∙ ap (λ (r : Range). taken ++ r ∷ []) next ∙ sym (take_more_set list place range inside) in
          c.in_default-new.ensures (subst IsRanges all are)
      | inr more ↦ unread (range_numbers 32 left) (n.next, more.0) c.in-None.ensures more.1
    ]

pub returns-in-None-clause-found : goal.returns-in-None-clause-found
returns-in-None-clause-found c =
    let left = c.loop-place.left.now in
    let place = c.loop-place.place in
    let list = c.loop-place.list in
    let range = c.in-Some-range_numbers.range in
    let rest = c.in-Some-range_numbers.rest.now in
    let inside : place < length list = omega (arith, c.loop-place.invariant.count, c.loop-place-test.true) in
    ranges_more (take place list) range 10 (32 ∷ c.args.text.now) left rest c.loop-place.invariant.spelled (range_takes 10 left (range, rest) (sym c.in-Some-range_numbers.ensures)).1
    ∙ ap (λ (l : List Range). flat_map range_pair l ++ 10 ∷ rest) (sym (take_more_set list place range inside) ∙ sym c.in-Some-new.ensures.1)

pub loop-place-preserved : goal.loop-place-preserved
loop-place-preserved c =
    let left = c.loop-place.left.now in
    let place = c.loop-place.place in
    let list = c.loop-place.list in
    let range = c.in-Some.range in
    let rest = c.in-Some.rest.now in
    let inside : place < length list = omega (arith, c.loop-place.invariant.count, c.loop-place-test.true) in
    let read = range_takes 32 left (range, rest) (sym c.in-Some.ensures) in
    let longer = sym (take_more_set list place range inside) in
    record {
      low = subst (AllByRecursion IsLow) longer (low_more (take place list) range c.loop-place.invariant.low read.0);
      spelled = ranges_more (take place list) range 32 (32 ∷ c.args.text.now) left rest c.loop-place.invariant.spelled read.1 ∙ ap (λ (l : List Range). flat_map range_pair l ++ 32 ∷ rest) longer;
      count = grind (arith, common_steps);
    }

pub returns-clause-none : goal.returns-clause-none
returns-clause-none c = λ ranges rest are is.
    let taken = take c.loop-place.place c.loop-place.list in
    let n = next_range taken ranges c.loop-place.left.now rest c.loop-place.invariant.low (ranges_low ranges are.apart are.low) (sym c.loop-place.invariant.spelled ∙ is) in
    let eight : length taken ≡ 8 = grind (arith, common_steps) in
    absurd (omega (arith, are.few, ap length n.whole, length-append taken (n.next ∷ n.more), eight))
