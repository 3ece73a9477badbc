use Rattle.std.proofs.Common.{◌≡◌, ◌+◌, ◌*◌, ◌++◌, length, take, flat_map}
use Rattle.report.specs.Tags.{range_bytes}
use Rattle.report.proofs.heads.append_all.Given as goal

abbrev pub invariant-listing : goal.invariant-listing
invariant-listing l = record {
  items : l.bytes.items ≡ l.initial.bytes.items ++ flat_map range_bytes (take l.k l.ranges);
  room : length l.bytes.items ≡ length l.initial.bytes.items + 8 * l.k;
}
