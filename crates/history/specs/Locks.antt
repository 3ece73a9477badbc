-- Which blocks are locked. Only a store into a locked block has to wait.
use Rattle.std.specs.Prelude.{ℕ, Bool, false, not, ◌&&◌, nat_le, nat_lt, List, Option, Some, None}
use Rattle.history.specs.declared.events.Discipline.{Discipline}
use Rattle.history.specs.declared.events.Discipline.TheVariants.{All, AllExt, Dec, Inc, IncExt}
use Rattle.history.specs.declared.events.Entry.{Entry}
use Rattle.history.specs.Attested.{is_attested, index_of}
use Rattle.history.specs.Layout.{Setting}
use Rattle.history.specs.Pass.{Pass, pass_after, copied_of, is_ended, is_released}

-- With so many blocks copied, with or without End, with or without Release: the discipline locks the
-- attested block with this index. One line for each discipline:
--   All-Lock from Start to End, All-Lock-Ext from Start to Release, Dec-Lock from Start to the block's own
--   Copy, Inc-Lock from the block's own Copy to End, Inc-Lock-Ext from the block's own Copy to Release.
abbrev pub locks : Discipline → ℕ → Bool → Bool → ℕ → Bool
locks All copied ended released index = not ended
locks AllExt copied ended released index = not released
locks Dec copied ended released index = not ended && nat_le copied index
locks Inc copied ended released index = not ended && nat_lt index copied
locks IncExt copied ended released index = not released && nat_lt index copied

-- the pass locks the attested block with this index
abbrev pub pass_locks : Pass → ℕ → Bool
pass_locks pass index = locks pass.discipline (copied_of pass) (is_ended pass) (is_released pass) index

-- before the first Start nothing is locked
abbrev pub locks_now : Option Pass → ℕ → Bool
locks_now None index = false
locks_now (Some pass) index = pass_locks pass index

-- the block is locked after these entries, the newest first
abbrev pub is_locked : Setting → List Entry → ℕ → Bool
is_locked w past block = is_attested w.ranges block && locks_now (pass_after past) (index_of w.ranges block)
