use Rattle.std.proofs.Common.{◌≡◌, ◌++◌, ◌-◌, ◌<◌, ◌≤◌, [], take, drop, length}
use Rattle.listing.specs.Left.{lines_left}
use Rattle.listing.proofs.cursor.tell_segment.Given as goal

abbrev pub invariant-lines : goal.invariant-lines
invariant-lines l = record {
  front : take l.done l.fn.into ++ lines_left l.addr l.bytes l.fn.cursor ≡ take l.end l.into ++ lines_left l.addr l.bytes l.cursor;
  from : l.done ≤ l.end;
  within : l.end ≤ length l.into;
  whole : l.end < length l.into → drop l.cursor.told l.cursor.line.items ≡ [];
  segment : l.cursor.segment ≡ l.fn.cursor.segment;
}

abbrev pub decreases-lines : goal.decreases-lines
decreases-lines l = length l.bytes - l.cursor.at
