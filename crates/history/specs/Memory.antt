-- Memory at a place of the history, by looking back through the entries before it.
use Rattle.std.specs.Prelude.{ℕ, zero, suc, ◌+◌, ◌-◌, ◌*◌, ◌/◌, ◌%◌, ◌^◌, Bool, ◌&&◌, nat_le, nat_lt, if◌then◌else◌, List, [], ◌∷◌, take, reverse, filter, flat_map, slice_index, Option, Some, None, unwrap_or}
use Rattle.history.specs.declared.events.Width.{Width}
use Rattle.history.specs.declared.events.Width.TheVariants.{Byte, Half, Word}
use Rattle.history.specs.declared.events.Act.{Act}
use Rattle.history.specs.declared.events.Act.TheVariants.{Fetch, Load, Store, Start, Copy, End, Tick, Release}
use Rattle.history.specs.declared.events.Entry.{Entry}
use Rattle.history.specs.Attested.{attested_blocks}
use Rattle.history.specs.Layout.{Setting, block_start, width_bytes}

-- A history is the list of its entries, the oldest first. Place p is the point after the first p entries,
-- and back gives those entries, the newest first: the definitions look back from there.
abbrev pub back : List Entry → ℕ → List Entry
back history place = reverse (take place history)

-- the entries of the actors from low up to below high, in their order
abbrev pub own : List Entry → ℕ → ℕ → List Entry
own history low high = filter (λ entry. nat_le low entry.actor && nat_lt entry.actor high) history

-- from each address to its byte
abbrev pub Memory : Type 0
Memory = ℕ → ℕ

-- the access covers the byte
abbrev pub covers : ℕ → Width → ℕ → Bool
covers addr width x = nat_le addr x && nat_lt x (addr + width_bytes width)

-- the byte that the act puts at x, if it is a store that covers x; the lowest byte of the value comes first
abbrev pub put_at : Act → ℕ → Option ℕ
put_at (Store addr width value) x = if covers addr width x then Some (value / 256 ^ (x - addr) % 256) else None
put_at (Fetch addr value) x = None
put_at (Load addr width value) x = None
put_at (Start discipline counter) x = None
put_at (Copy block) x = None
put_at End x = None
put_at Tick x = None
put_at Release x = None

-- memory after these entries, the newest first: the last store that covers a byte says what it is, and
-- where none covers it, the first image does
abbrev pub memory_after : Setting → List Entry → Memory
memory_after w [] x = slice_index w.image (x - w.layout.base)
memory_after w (entry ∷ past) x = unwrap_or (put_at entry.act x) (memory_after w past x)

-- memory at a place
abbrev pub memory_at : Setting → List Entry → ℕ → Memory
memory_at w history place = memory_after w (back history place)

-- the value of an access, the lowest byte first
abbrev pub value_in : Memory → ℕ → Width → ℕ
value_in m addr Byte = m addr
value_in m addr Half = m addr + 256 * m (addr + 1)
value_in m addr Word = m addr + 256 * m (addr + 1) + 65536 * m (addr + 2) + 16777216 * m (addr + 3)

-- so many bytes of memory from an address on
abbrev pub bytes_from : Memory → ℕ → ℕ → List ℕ
bytes_from m x zero = []
bytes_from m x (suc count) = m x ∷ bytes_from m (x + 1) count

-- the bytes of a block
abbrev pub block_bytes : Setting → Memory → ℕ → List ℕ
block_bytes w m block = bytes_from m (block_start w.layout block) w.layout.size

-- the bytes of the attested blocks, by rising address
abbrev pub attested_bytes : Setting → Memory → List ℕ
attested_bytes w m = flat_map (block_bytes w m) (attested_blocks w.ranges)
