use Rattle.std.proofs.Common.{◌≡◌, ◌<◌, ◌++◌, take, length, All}
use Rattle.hex.specs.Hex.{encode_lower}
use Rattle.trace.proofs.image_reading.image_line.Given as goal

abbrev pub invariant-loop-place : goal.invariant-loop-place
invariant-loop-place l = record {
  count : length l.piece ≡ length l.fn.piece;
  bytes : All (λ byte. byte < 256) (take l.place l.piece);
  spelled : l.text ≡ encode_lower (take l.place l.piece) ++ l.left;
}
