use Rattle.std.proofs.Common.{◌≡◌, ◌++◌, ◌+◌, ◌-◌, ◌<◌, ◌≤◌, [], take, drop, length}
use Rattle.listing.specs.Left.{text_left}
use Rattle.listing.proofs.cursor.tell.Given as goal

abbrev pub invariant-segments : goal.invariant-segments
invariant-segments l = record {
  front : text_left l.elf.segments l.fn.cursor ≡ take l.done l.into ++ text_left l.elf.segments l.cursor;
  within : l.done ≤ length l.into;
  whole : l.done < length l.into → drop l.cursor.told l.cursor.line.items ≡ [];
}

abbrev pub decreases-segments : goal.decreases-segments
decreases-segments l = (length l.into - l.done) + (length l.elf.segments - l.cursor.segment)
