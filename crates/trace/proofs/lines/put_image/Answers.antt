-- One line more.
use Rattle.std.proofs.Common.{ap, ◌∙◌, ◌++◌, ◌∷◌, []}
use Rattle.std.specs.Fork.{slice_chunk}
use Rattle.hex.specs.Hex.{encode_lower}
use Rattle.trace.proofs.Written.{line_next}
use Rattle.trace.proofs.lines.put_image.Goals as goal

pub loop-line-preserved : goal.loop-line-preserved
loop-line-preserved c =
    line_next encode_lower (slice_chunk c.args.image.now 32) c.loop-line.line c.args.out.now.items c.loop-line.out.items c.put_image_line.new.out.items c.loop-line.invariant
    (c.in_ok-put_image_line.ensures ∙ ap (λ bytes. c.loop-line.out.items ++ (encode_lower bytes ++ 10 ∷ [])) c.image_piece.ensures.value)
