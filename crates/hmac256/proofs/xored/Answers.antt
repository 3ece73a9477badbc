use Rattle.std.proofs.Common.{arith, bit_xor, get_or}
use Rattle.std.proofs.lemmas.List.{get_or_default}
use Rattle.std.proofs.lemmas.List.Edits.{map_over_more}
use Rattle.hmac256.proofs.xored.Goals as goal

pub loop-byte-preserved : goal.loop-byte-preserved
loop-byte-preserved c =
    let mixed = c.loop-byte.byte-items in
    let place = c.loop-byte.byte-index in
    let byte = get_or mixed place 0 in
    map_over_more (λ b. bit_xor b c.args.pad) c.args.block.now mixed place byte (omega arith)
    c.loop-byte.invariant (get_or_default mixed place 0 byte (omega arith))
