-- What a measurement digests: each block as memory was at the block's own Copy.
use Rattle.std.specs.Prelude.{ℕ, List, [], ◌∷◌, ◌++◌}
use Rattle.history.specs.declared.events.Act.{Act}
use Rattle.history.specs.declared.events.Act.TheVariants.{Start, Copy}
use Rattle.history.specs.declared.events.Entry.{Entry}
use Rattle.history.specs.Layout.{Setting}
use Rattle.history.specs.Memory.{memory_after, block_bytes}

-- the copied bytes once this act has come after those entries
abbrev pub copied_step : Setting → Act → List Entry → List ℕ → List ℕ
copied_step w (Start discipline counter) past before = []
copied_step w (Copy block) past before = before ++ block_bytes w (memory_after w past) block
copied_step w _ past before = before

-- the bytes copied since the last Start, after these entries, the newest first
abbrev pub copied_bytes : Setting → List Entry → List ℕ
copied_bytes w [] = []
copied_bytes w (entry ∷ past) = copied_step w entry.act past (copied_bytes w past)
