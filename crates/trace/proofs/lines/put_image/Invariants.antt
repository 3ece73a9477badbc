use Rattle.std.proofs.Common.{◌≡◌, ◌++◌, map}
use Rattle.std.specs.List.{range_with_len}
use Rattle.std.specs.Fork.{slice_chunk}
use Rattle.hex.specs.Hex.{encode_lower}
use Rattle.trace.specs.Text.{text_of_lines}
use Rattle.trace.proofs.lines.put_image.Given as goal

abbrev pub invariant-loop-line : goal.invariant-loop-line
invariant-loop-line l = l.out.items ≡ l.fn.out.items ++ text_of_lines (map encode_lower (map (slice_chunk l.image 32) (range_with_len 0 l.line)))
