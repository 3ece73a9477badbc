use Rattle.std.proofs.Common.{◌≡◌, ◌+◌, ◌≤◌, List, [], ◌∷◌, ◌++◌, take, get_or, sym, ap, subst, ◌∙◌, arith}
use Rattle.std.proofs.lemmas.List.{take_more}
use Rattle.history.specs.declared.ranges.Range.{Range}
use Rattle.history.specs.Attested.{AreApart}
use Rattle.lock_plan.proofs.Apart.{next_first, apart_more, next_more}
use Rattle.lock_plan.proofs.ranges.are_ranges.Goals as goal

pub loop-range-preserved : goal.loop-range-preserved
loop-range-preserved c =
    let i = c.loop-range.range-index in
    let list : List Range = c.args.list.now in
    let r : Range = get_or list i (record { first = 0; attested = 0 }) in
    let more : take (i + 1) list ≡ take i list ++ (r ∷ []) = take_more list i (record { first = 0; attested = 0 }) c.loop-range-test.true in
    let some : 1 ≤ r.attested = omega (arith, c.if-range-eq0.false) in
    let low : next_first (take i list) ≤ r.first = omega (arith, c.if-first-least.false, c.loop-range.invariant.least, c.from-first.ensures) in
    record {
      apart = subst (λ (ranges : List Range). AreApart ranges) (sym more) (apart_more (take i list) r c.loop-range.invariant.apart some low);
      least = ap (λ n. n + 1) (ap (λ n. n + c.from.result) c.from-first.ensures ∙ ap (λ n. r.first + n) c.from.ensures) ∙ sym (ap next_first more ∙ next_more (take i list) r);
    }
