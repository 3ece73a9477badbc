-- Each part stands at its place.
use Rattle.std.proofs.Common.{◌≡◌, ◌+◌, ◌-◌, ◌/◌, ◌++◌, ◌∷◌, [], length, suc, ap, arith}
use Rattle.std.specs.Fork.{slice_chunk}
use Rattle.trace.specs.Text.{text_of_lines, entries_text, head_lines, image_lines, end_line, trace_parts}
use Rattle.trace.proofs.Pieces.{part_first, part_between, part_last, part_made, parts_count}
use Rattle.trace.proofs.writing.part.Goals as goal

pub returns-then-k-eq0 : goal.returns-then-k-eq0
returns-then-k-eq0 c =
    let w = c.args.chronicle.now.world in
    let h = c.args.chronicle.now.entries in
    part_made c.head_part.result (trace_parts w h) c.args.k (text_of_lines (head_lines w ++ image_lines w.image)) (rw c.if-k-eq0.true (part_first w h)) (rw c.world.ensures.value at c.head_part.ensures)

pub returns-then-piece-entries : goal.returns-then-piece-entries
returns-then-piece-entries c =
    let w = c.args.chronicle.now.world in
    let h = c.args.chronicle.now.entries in
    let piece = c.args.k - 1 in
    let next : c.args.k ≡ suc piece = omega (arith, c.if-k-eq0.false) in
    part_made c.entries_part.result (trace_parts w h) c.args.k (entries_text (slice_chunk h 1024 piece))
    (part_between w h c.args.k piece next (omega (arith, c.if-piece-entries.true, ap length c.entries-entries.ensures)))
    (rw c.entries-entries.ensures at c.entries_part.ensures)

pub returns : goal.returns
returns c =
    let w = c.args.chronicle.now.world in
    let h = c.args.chronicle.now.entries in
    let last : c.args.k ≡ suc ((length h + 1023) / 1024) =
    omega (arith, c.if-k-eq0.false, c.if-piece-entries.false, ap length c.entries-entries.ensures, c.requires.known, parts_count w h) in
    part_made c.end_part.result (trace_parts w h) c.args.k (text_of_lines (end_line h ∷ [])) (part_last w h c.args.k last) (rw c.entries-entries.ensures at c.end_part.ensures)
