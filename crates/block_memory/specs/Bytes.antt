-- What a block memory holds, and what it means that it holds memory after these entries.
use Rattle.std.specs.Prelude.{◌≡◌, ℕ, ◌-◌, ◌<◌, ◌≤◌, Bool, true, false, List, length, slice_index}
use Rattle.history.specs.declared.events.Act.{Act}
use Rattle.history.specs.declared.events.Act.TheVariants.{Fetch, Load, Store, Start, Copy, End, Tick, Release}
use Rattle.history.specs.declared.events.Entry.{Entry}
use Rattle.history.specs.Layout.{Layout, Setting, byte_count, past_end}
use Rattle.history.specs.Memory.{Memory, memory_after}

-- a memory as its layout and all its bytes, by rising address
pub record Held : Type 0 where
  pub layout : Layout
  pub bytes : List ℕ

-- from each address in memory to the byte that is held for it
abbrev pub memory_of : Held → Memory
memory_of held x = slice_index held.bytes (x - held.layout.base)

-- the held bytes are memory after these entries, the newest first
pub record IsMemoryOf (w : Setting) (past : List Entry) (held : Held) : Type 0 where
  pub layout : held.layout ≡ w.layout
  pub count : length held.bytes ≡ byte_count w.layout
  pub each : (x : ℕ) → w.layout.base ≤ x → x < past_end w.layout → memory_of held x ≡ memory_after w past x

-- the act changes memory
abbrev pub is_store : Act → Bool
is_store (Store addr width value) = true
is_store (Fetch addr value) = false
is_store (Load addr width value) = false
is_store (Start discipline counter) = false
is_store (Copy block) = false
is_store End = false
is_store Tick = false
is_store Release = false
