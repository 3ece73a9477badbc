use Rattle.std.proofs.Common.{◌≡◌, ◌%◌, ◌≤◌, arith}
use Rattle.std.proofs.lemmas.Bool.Decides.{nat_tests}
use Rattle.history.specs.Layout.{width_bytes}
use Rattle.block_memory.proofs.OneBlock.{one_block}
use Rattle.block_memory.proofs.laws.access_in_one_block.Goals as goal

pub returns-clause-block : goal.returns-clause-block
returns-clause-block c = λ l addr width is_layout fits aligned k h.
    let low : l.base ≤ addr = grind (arith, nat_tests) in
    let at_width : addr % width_bytes width ≡ 0 = grind (arith, nat_tests) in
    one_block l addr width is_layout low at_width k h
