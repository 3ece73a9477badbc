use Rattle.history.specs.Attested.{attested_blocks}
use Rattle.history.proofs.Blocks.{rises, stands_at, counts_to, attested_by_ranges, index_by_ranges, total_by_ranges, attested_inside, total_low}
use Rattle.history.proofs.laws.blocks_in_order.Goals as goal

pub returns-clause-index : goal.returns-clause-index
returns-clause-index c ranges apart block attested = (stands_at 0 block (attested_blocks ranges) (rises ranges apart) attested).0

pub returns-clause-block : goal.returns-clause-block
returns-clause-block c ranges apart block attested = (stands_at 0 block (attested_blocks ranges) (rises ranges apart) attested).1

pub returns-clause-indexed : goal.returns-clause-indexed
returns-clause-indexed c ranges apart index within = (counts_to 0 index (attested_blocks ranges) (rises ranges apart) within).0

pub returns-clause-inside : goal.returns-clause-inside
returns-clause-inside c ranges apart block attested = attested_inside ranges block apart attested

pub returns-clause-by_ranges : goal.returns-clause-by_ranges
returns-clause-by_ranges c ranges block = attested_by_ranges ranges block

pub returns-clause-index_by_ranges : goal.returns-clause-index_by_ranges
returns-clause-index_by_ranges c ranges block = index_by_ranges ranges block

pub returns-clause-total_by_ranges : goal.returns-clause-total_by_ranges
returns-clause-total_by_ranges c ranges = total_by_ranges ranges

pub returns-clause-few : goal.returns-clause-few
returns-clause-few c ranges apart = total_low ranges apart
