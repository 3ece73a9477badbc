-- By induction on the entries, and by the width.
use Rattle.chronicle.proofs.Memories.{memory_byte, value_small}
use Rattle.chronicle.proofs.laws.memory_is_bytes.Goals as goal

pub returns : goal.returns
returns c = record { bytes = memory_byte; values = value_small }
