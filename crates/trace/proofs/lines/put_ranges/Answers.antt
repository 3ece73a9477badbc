-- One range more.
use Rattle.trace.specs.Text.{range_pair}
use Rattle.trace.proofs.Written.{element_next}
use Rattle.trace.proofs.lines.put_ranges.Goals as goal

pub listing-preserved : goal.listing-preserved
listing-preserved c = element_next range_pair c.args.ranges.now c.listing.k c.range.result c.args.out.now.items c.listing.out.items c.put_range.new.out.items c.range.ensures c.listing.invariant c.in_ok-put_range.ensures
