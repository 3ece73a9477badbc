use Rattle.std.proofs.Common.{◌≡◌, ◌*◌, ◌<◌, ◌++◌, min, length, All}
use Rattle.trace.specs.Text.{text_of_lines, image_lines}
use Rattle.trace.proofs.text_reading.read_image.Given as goal

abbrev pub invariant-loop-line : goal.invariant-loop-line
invariant-loop-line l = record {
  size : length l.image.items ≡ min (l.line * 32) l.bytes;
  bytes : All (λ byte. byte < 256) l.image.items;
  spelled : l.text ≡ text_of_lines (image_lines l.image.items) ++ l.left;
}
