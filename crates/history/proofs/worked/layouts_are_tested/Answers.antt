use Rattle.std.proofs.Common.{arith}
use Rattle.std.proofs.lemmas.Bool.{and_parts, and_from, leb-true, le-leb, eqb-true, eq-eqb}
use Rattle.history.proofs.Exponents.{exponent_found, exponent_tested}
use Rattle.history.proofs.worked.layouts_are_tested.Goals as goal

pub returns-clause-is : goal.returns-clause-is
returns-clause-is c l h =
    let space = and_parts _ _ h in
    let block = and_parts _ _ space.0 in
    let bytes = and_parts _ _ block.0 in
    let few = and_parts _ _ bytes.0 in
    let some = and_parts _ _ few.0 in
    let size = exponent_found l.size 4 13 some.0 in
    record {
      block_size = (size.0, size.1, omega (arith, size.2), size.3);
      some_block = leb-true _ _ some.1;
      few_blocks = leb-true _ _ few.1;
      few_bytes = leb-true _ _ bytes.1;
      on_block = eqb-true _ _ block.1;
      in_space = leb-true _ _ space.1;
    }

pub returns-clause-tested : goal.returns-clause-tested
returns-clause-tested c l h =
    let size = exponent_tested l.size 4 13 h.block_size.0 h.block_size.1 (omega (arith, h.block_size.2)) h.block_size.3 in
    and_from _ _ (and_from _ _ (and_from _ _ (and_from _ _ (and_from _ _ size (le-leb _ _ h.some_block)) (le-leb _ _ h.few_blocks)) (le-leb _ _ h.few_bytes)) (eq-eqb _ _ h.on_block)) (le-leb _ _ h.in_space)
