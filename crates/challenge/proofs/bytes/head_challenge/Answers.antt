-- The fields that the code cuts are those at their places.
use Rattle.std.proofs.Common.{◌∙◌}
use Rattle.std.proofs.lemmas.List.{take_rest}
use Rattle.challenge.proofs.Spelling.{head_is}
use Rattle.challenge.proofs.bytes.head_challenge.Goals as goal

pub returns : goal.returns
returns c = head_is c.args.bytes.now c.in_ok-discipline.discipline c.discipline_with.result c.u32_at.result c.u32_at-2.result c.u64_at.result c.copy_from_slice.new.self c.if_spelled.result c.discipline_with.ensures c.in_ok-discipline.was c.u32_at.ensures c.u32_at-2.ensures c.u64_at.ensures (c.copy_from_slice.ensures.after ∙ take_rest c.args.bytes.now 24) c.if_spelled.ensures
