use Rattle.std.proofs.Common.{take, refl}
use Rattle.elf32.specs.Files.{FileSegment}
use Rattle.listing.specs.Left.{text_left}
use Rattle.listing.proofs.LeftOver.{segment_goes_on, segment_ends}
use Rattle.listing.proofs.cursor.tell.Goals as goal

pub segments-preserved-then-cursor-part : goal.segments-preserved-then-cursor-part
segments-preserved-then-cursor-part c =
    let s : FileSegment = record { addr = c.segment-part.result.addr; size = c.segment-part.result.size; bytes = c.segment-part.result.bytes.now } in
    record {
      front = segment_ends c.args.elf.now.segments s c.segments.cursor c.tell_segment-done.new.cursor _ (text_left c.args.elf.now.segments c.args.cursor.now)
          (take c.segments.done c.segments.into) (take c.tell_segment-done.result c.tell_segment-done.new.into)
          (record { was = c.segments.invariant.front; found = c.segment-part.ensures.value; same = c.tell_segment-done.ensures.segment; step = c.tell_segment-done.ensures.front })
          c.if-cursor-part.true refl refl refl refl;
      within = c.tell_segment-done.ensures.within;
      whole = c.tell_segment-done.ensures.whole;
    }

pub segments-preserved : goal.segments-preserved
segments-preserved c =
    let s : FileSegment = record { addr = c.segment-part.result.addr; size = c.segment-part.result.size; bytes = c.segment-part.result.bytes.now } in
    record {
      front = segment_goes_on c.args.elf.now.segments s c.segments.cursor c.tell_segment-done.new.cursor (text_left c.args.elf.now.segments c.args.cursor.now)
          (take c.segments.done c.segments.into) (take c.tell_segment-done.result c.tell_segment-done.new.into)
          (record { was = c.segments.invariant.front; found = c.segment-part.ensures.value; same = c.tell_segment-done.ensures.segment; step = c.tell_segment-done.ensures.front });
      within = c.tell_segment-done.ensures.within;
      whole = c.tell_segment-done.ensures.whole;
    }
