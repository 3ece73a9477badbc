use Rattle.block_memory.proofs.Places.{whole_view}
use Rattle.block_memory.proofs.memory.BlockMemory.geometry.Goals as goal

pub returns-clause-whole : goal.returns-clause-whole
returns-clause-whole c = whole_view c.args.self.now c.self.inside.geometry c.self.inside.blocks.items c.self.view_is c.self.invariant.3 c.self.invariant.2
