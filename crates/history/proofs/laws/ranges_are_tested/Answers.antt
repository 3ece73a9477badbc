use Rattle.std.proofs.lemmas.Bool.{and_parts, and_from, leb-true, le-leb}
use Rattle.history.proofs.RangeTests.{apart_from, apart_tested}
use Rattle.history.proofs.laws.ranges_are_tested.Goals as goal

pub returns-clause-is : goal.returns-clause-is
returns-clause-is c ranges tested =
    let low = and_parts _ _ tested in
    let apart = and_parts _ _ low.0 in
    let few = and_parts _ _ apart.0 in
    record {
      some = leb-true _ _ few.0;
      few = leb-true _ _ few.1;
      apart = apart_from ranges apart.1;
      low = leb-true _ _ low.1;
    }

pub returns-clause-tested : goal.returns-clause-tested
returns-clause-tested c ranges is = and_from _ _ (and_from _ _ (and_from _ _ (le-leb _ _ is.some) (le-leb _ _ is.few)) (apart_tested ranges is.apart)) (le-leb _ _ is.low)
