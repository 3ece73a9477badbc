use Rattle.std.proofs.Common.{◌≡◌, ℕ, ◌+◌, List, [], ◌∷◌, ◌++◌, length, take, sym, ap, ◌∙◌, add-zero, zero-add, arith}
use Rattle.std.proofs.lemmas.List.{append-nil, take_more}
use Rattle.std.proofs.lemmas.List.Sums.{sum_by-append}
use Rattle.executable.specs.declared.Segment.{Segment}
use Rattle.elf32.specs.Written.{segment_headers}
use Rattle.executable.specs.Writable.{total_size}
use Rattle.elf32.proofs.SegmentHeaders.{headers_none, headers_more}
use Rattle.elf32.proofs.writing.put_segment_headers.Goals as goal

pub loop-segment-init : goal.loop-segment-init
loop-segment-init c =
    (sym (append-nil c.args.out.now.items) ∙ ap (λ (xs : List ℕ). c.args.out.now.items ++ xs) (sym (headers_none c.args.start)), sym (add-zero c.args.start))

pub loop-segment-preserved : goal.loop-segment-preserved
loop-segment-preserved c =
    let i = c.loop-segment.segment-index in
    let segments = c.args.segments.now in
    let segment = c.segment-item.result in
    let more : take (i + 1) segments ≡ take i segments ++ segment ∷ [] =
    take_more segments i segment c.loop-segment-test.true ∙ ap (λ (s : Segment). take i segments ++ s ∷ []) (sym c.segment-item.is) in
    let bytes = headers_more c.args.out.now.items c.loop-segment.out.items c.put_segment_header.new.out.items c.args.start c.loop-segment.offset (take i segments) segment c.loop-segment.invariant.0 c.loop-segment.invariant.1 c.in_ok-put_segment_header.ensures in
    let size : total_size (take (i + 1) segments) ≡ total_size (take i segments) + length segment.bytes = ap total_size more ∙ sum_by-append (λ (s : Segment). length s.bytes) (take i segments) (segment ∷ []) ∙ ap (λ (m : ℕ). total_size (take i segments) + m) (zero-add (length segment.bytes)) in
    (bytes ∙ ap (λ (xs : List Segment). c.args.out.now.items ++ segment_headers c.args.start xs) (sym more), omega (arith, size, c.loop-segment.invariant.1, c.len.ensures))
