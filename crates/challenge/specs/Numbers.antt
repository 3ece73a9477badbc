-- Numbers and codes in messages, at their places.
use Rattle.std.specs.Prelude.{ℕ, ◌==◌, if◌then◌else◌, List, drop, Option, Some, None}
use Rattle.std.specs.Int.{w32, w64, from_be_bytes}
use Rattle.history.specs.declared.events.Discipline.{Discipline}
use Rattle.history.specs.declared.events.Discipline.TheVariants.{All, AllExt, Dec, Inc, IncExt}

-- the number of the four bytes at this place, the highest byte first
unfoldable pub u32_at : List ℕ → ℕ → ℕ
u32_at bytes place = from_be_bytes w32 (drop place bytes)

-- the number of the eight bytes at this place, the highest byte first
unfoldable pub u64_at : List ℕ → ℕ → ℕ
u64_at bytes place = from_be_bytes w64 (drop place bytes)

-- the discipline with this code
unfoldable pub discipline_with : ℕ → Option Discipline
discipline_with code =
    if code == 1 then Some All
    else if code == 2 then Some AllExt
    else if code == 3 then Some Dec
    else if code == 4 then Some Inc
    else if code == 5 then Some IncExt
    else None
