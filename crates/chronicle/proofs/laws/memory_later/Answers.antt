-- By induction on the entries between.
use Rattle.chronicle.proofs.Memories.{memory_next, memory_between, memory_patched}
use Rattle.chronicle.proofs.laws.memory_later.Goals as goal

pub returns : goal.returns
returns c = record { next = memory_next; between = memory_between; newer = memory_patched }
