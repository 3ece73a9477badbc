-- One draw more, and how large it is.
use Rattle.std.proofs.Common.{◌≡◌, ℕ, ◌+◌, ◌<◌, ◌≤◌, refl, add-one, arith}
use Rattle.std.proofs.Math.Nat.{mod-lt}
use Rattle.std.specs.Prelude.{◌/◌, ◌^◌}
use Rattle.generated.specs.Draws.{draw, next_state, state_after}

pub state_more : (seed count : ℕ) → state_after seed (count + 1) ≡ next_state (state_after seed count)
unfolding state_after
state_more seed count = rw add-one refl

pub draw_below : (seed place limit : ℕ) → 1 ≤ limit → draw seed place limit < limit
unfolding draw
draw_below seed place limit some = mod-lt (state_after seed place / 2 ^ 33) (omega arith)
