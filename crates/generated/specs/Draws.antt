-- The numbers that a generated run is drawn with: a linear congruential generator modulo 2 ^ 64, with the multiplier and
-- the increment of Knuth's MMIX (The Art of Computer Programming, volume 2, section 3.3.4, table 1).
use Rattle.std.specs.Prelude.{ℕ, zero, suc, ◌+◌, ◌*◌, ◌/◌, ◌%◌, ◌^◌}

-- the state after this one
abbrev pub next_state : ℕ → ℕ
next_state state = (6364136223846793005 * state + 1442695040888963407) % 2 ^ 64

-- the state after so many draws from this seed
unfoldable pub state_after : ℕ → ℕ → ℕ
state_after seed zero = seed
state_after seed (suc count) = next_state (state_after seed count)

-- what a state gives for a number below the limit: its upper 31 bits, modulo the limit
abbrev pub number_below : ℕ → ℕ → ℕ
number_below limit state = state / 2 ^ 33 % limit

-- the draw with this number, counted from 1, of a number below the limit
unfoldable pub draw : ℕ → ℕ → ℕ → ℕ
draw seed place limit = number_below limit (state_after seed place)
