-- Memory at a place of a recorded history, as bytes, and the copies of it that an index keeps.
use Rattle.std.specs.Prelude.{◌≡◌, ℕ, ◌+◌, ◌*◌, ◌/◌, ◌<◌, List, length, slice_get, slice_index, Some, Vec}
use Rattle.std.specs.Global.{Global}
use Rattle.history.specs.declared.events.Entry.{Entry}
use Rattle.history.specs.Layout.{Setting, byte_count}
use Rattle.history.specs.Memory.{Memory, bytes_from, memory_at}

-- the bytes of memory at a place, by rising address
abbrev pub memory_bytes : Setting → List Entry → ℕ → List ℕ
memory_bytes w history place = bytes_from (memory_at w history place) w.layout.base (byte_count w.layout)

-- these bytes are memory's from an address on
pub record IsWindow (m : Memory) (low : ℕ) (bytes : List ℕ) : Type 0 where
  pub each : (k : ℕ) → k < length bytes → slice_index bytes k ≡ m (low + k)

-- memory at place 0 and at each later place of the history that is divisible by 65,536
pub record AreCheckpoints (w : Setting) (history : List Entry) (copies : List (Vec ℕ Global)) : Type 0 where
  pub count : length copies ≡ length history / 65536 + 1
  pub each : (k : ℕ) (copy : Vec ℕ Global) → slice_get copies k ≡ Some copy → copy.items ≡ memory_bytes w history (65536 * k)
