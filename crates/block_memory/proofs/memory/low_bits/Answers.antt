use Rattle.block_memory.proofs.Places.{mask_is}
use Rattle.block_memory.proofs.memory.low_bits.Goals as goal

pub returns : goal.returns
returns c = mask_is c.args.number c.args.count c.requires
