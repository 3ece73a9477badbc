use Rattle.std.proofs.Common.{◌≡◌, ℕ, ◌^◌, ◌<◌, ◌≤◌}
use Rattle.block_memory.proofs.geometry.Geometry.shift.Given as goal

-- the size is none of the powers so far
abbrev pub invariant-loop-exponent : goal.invariant-loop-exponent
invariant-loop-exponent l = (k : ℕ) → 4 ≤ k → k < l.exponent → l.self.size ≡ 2 ^ k → ⊥
