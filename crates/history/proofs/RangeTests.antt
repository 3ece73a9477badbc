-- The tests of ranges and the facts.
use Rattle.std.proofs.Common.{List, [], ◌∷◌}
use Rattle.std.specs.Prelude.{IsTrue}
use Rattle.std.proofs.lemmas.Bool.{and_parts, and_from, leb-true, le-leb, ltb-true, lt-ltb}
use Rattle.history.specs.Attested.{AreApart, are_apart}
use Rattle.history.specs.declared.ranges.Range.{Range}

pub apart_from : (ranges : List Range) → IsTrue (are_apart ranges) → AreApart ranges
apart_from [] tested = cc
apart_from (r ∷ []) tested = leb-true _ _ tested
apart_from (r ∷ next ∷ more) tested =
    let parts = and_parts _ _ tested in
    let front = and_parts _ _ parts.0 in
    (leb-true _ _ front.0, ltb-true _ _ front.1, apart_from (next ∷ more) parts.1)

pub apart_tested : (ranges : List Range) → AreApart ranges → IsTrue (are_apart ranges)
apart_tested [] apart = cc
apart_tested (r ∷ []) apart = le-leb _ _ apart
apart_tested (r ∷ next ∷ more) apart = and_from _ _ (and_from _ _ (le-leb _ _ apart.0) (lt-ltb _ _ apart.1)) (apart_tested (next ∷ more) apart.2)
