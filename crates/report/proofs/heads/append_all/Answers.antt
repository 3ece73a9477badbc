-- One range more.
use Rattle.std.proofs.Common.{arith, ap, length, length-append}
use Rattle.report.specs.Tags.{range_bytes}
use Rattle.report.proofs.Writing.{listed_more}
use Rattle.report.proofs.heads.append_all.Goals as goal

pub listing-preserved : goal.listing-preserved
listing-preserved c = record {
  items = listed_more c.args.ranges.now c.listing.k c.range.result c.args.bytes.now.items c.listing.bytes.items c.append_range.new.bytes.items c.range.ensures c.listing.invariant.items c.append_range.ensures;
  room = omega (arith, ap length c.append_range.ensures, length-append c.listing.bytes.items (range_bytes c.range.result), c.listing.invariant.room);
}
