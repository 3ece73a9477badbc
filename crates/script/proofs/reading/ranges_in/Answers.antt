-- The ranges that were read are those of the whole text.
use Rattle.std.proofs.Common.{◌≡◌, ◌++◌, [], ◌∷◌, length, take, Some, sym, subst, arith}
use Rattle.std.specs.Prelude.{◌==◌, SomeIff}
use Rattle.history.specs.Attested.{IsRanges}
use Rattle.std.proofs.lemmas.List.{take_more_set}
use Rattle.std.proofs.lemmas.List.Splits.{length-slice_split}
use Rattle.std.proofs.lemmas.Grind.{common_steps}
use Rattle.text_readers.specs.Lines.{words_of}
use Rattle.script.specs.Grammar.{ranges_of}
use Rattle.script.proofs.Pairs.{chosen, left_over}
use Rattle.script.proofs.reading.ranges_in.Goals as goal

pub returns-in-None : goal.returns-in-None
returns-in-None c =
    let l = take c.loop-place.place c.loop-place.list ++ c.in_ok-range.range ∷ [] in
    let all : ranges_of (words_of c.args.pairs.now) ≡ Some l = grind (arith, common_steps) in
    let is = subst (λ l. SomeIff c.new.result (IsRanges l) l) (take_more_set c.loop-place.list c.loop-place.place c.in_ok-range.range (omega (arith, c.loop-place.invariant.1, c.loop-place-test.true))) c.new.ensures in
    chosen c.new.result (ranges_of (words_of c.args.pairs.now)) l is (c.ranges_are_tested.ensures.is l) (c.ranges_are_tested.ensures.tested l) all

pub returns : goal.returns
returns c =
    let eight : length (take c.loop-place.place c.loop-place.list) ≡ 8 = grind (arith, common_steps) in
    let words = length-slice_split (λ b. b == 32) c.loop-place.rest.now in
    sym (left_over (words_of c.loop-place.rest.now) (words_of c.args.pairs.now) (take c.loop-place.place c.loop-place.list) (omega (arith, words)) eight c.loop-place.invariant.0)
