-- By induction on the entries.
use Rattle.trace.proofs.Bounds.{printable_history}
use Rattle.trace.proofs.laws.legal_entries_are_printable.Goals as goal

pub returns : goal.returns
returns c = printable_history (λ w s past addr width. c.memory_is_bytes.ensures.values _ (c.memory_is_bytes.ensures.bytes w s past) addr width) c.blocks_in_order.ensures.inside
