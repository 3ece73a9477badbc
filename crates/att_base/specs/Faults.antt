-- Counts of faults: they never fall, and stop at the end of their type.
use Rattle.std.specs.Prelude.{ℕ, ◌+◌, ◌-◌, ◌^◌, ◌≤◌, min}

-- the next value of a count of 64 bits, which stops at its end
abbrev pub one_more : ℕ → ℕ
one_more n = min (n + 1) (2 ^ 64 - 1)

-- the count has risen, or stands at the end of its type
abbrev pub FaultCountRose : ℕ → ℕ → Type 0
FaultCountRose before now = (before ≤ now) × (one_more before ≤ now)
