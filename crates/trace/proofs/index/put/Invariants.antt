use Rattle.std.proofs.Common.{◌≡◌, ℕ, ◌+◌, ◌<◌, length, slice_index}
use Rattle.trace.proofs.Stored.{put_first}
use Rattle.trace.proofs.index.put.Given as goal

abbrev pub invariant-loop-k : goal.invariant-loop-k
invariant-loop-k l = (j : ℕ) → j < length l.fn.window → slice_index l.window j ≡ put_first l.addr l.value l.k (l.low + j) (slice_index l.fn.window j)
