use Rattle.std.proofs.Common.{◌≡◌, ◌<◌, List, length, take, refl, sym, ap, subst, ◌∙◌, arith}
use Rattle.std.proofs.lemmas.List.{take_all}
use Rattle.history.specs.declared.ranges.Range.{Range}
use Rattle.history.specs.Attested.{IsRanges}
use Rattle.lock_plan.specs.Tables.{first_blocks, padded, sizes_of}
use Rattle.lock_plan.proofs.Fields.{one_place_more, ranges_of_fields}
use Rattle.lock_plan.proofs.ranges.Ranges.new.Goals as goal

pub loop-place-preserved : goal.loop-place-preserved
loop-place-preserved c =
    let list : List Range = c.args.list.now in
    let few : c.loop-place.place < 8 = omega (arith, (c.are_ranges.ensures.0 c.if-not-are_ranges.false).few, c.loop-place-test.true) in
    record {
      firsts = one_place_more (λ (r : Range). r.first) list c.loop-place.firsts c.loop-place.place (record { first = 0; attested = 0 }) c.loop-place-test.true few c.loop-place.invariant.firsts;
      sizes = one_place_more (λ (r : Range). r.attested) list c.loop-place.sizes c.loop-place.place (record { first = 0; attested = 0 }) c.loop-place-test.true few c.loop-place.invariant.sizes;
    }

pub invariant_of-result : goal.invariant_of-result
invariant_of-result c =
    let list : List Range = c.args.list.now in
    let firsts = c.loop-place.firsts in
    let sizes = c.loop-place.sizes in
    let whole : take c.loop-place.place list ≡ list = take_all c.loop-place.place list c.loop-place-test.false in
    let are_firsts : firsts ≡ padded (first_blocks list) = c.loop-place.invariant.firsts ∙ ap (λ (ranges : List Range). padded (first_blocks ranges)) whole in
    let are_sizes : sizes ≡ padded (sizes_of list) = c.loop-place.invariant.sizes ∙ ap (λ (ranges : List Range). padded (sizes_of ranges)) whole in
    let Holds : List Range → Type 0 = λ ranges. IsRanges ranges × (length ranges ≡ length list) × (padded (first_blocks ranges) ≡ firsts) × (padded (sizes_of ranges) ≡ sizes) in
    subst Holds (sym (ranges_of_fields list firsts sizes are_firsts are_sizes)) (c.are_ranges.ensures.0 c.if-not-are_ranges.false, refl, sym are_firsts, sym are_sizes)
