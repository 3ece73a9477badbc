-- For private functions: why rounds come to an end.
use Rattle.std.specs.Prelude.{◌≡◌, ℕ, ◌+◌, ◌-◌, ◌<◌, ◌≤◌, Bool, true, false, length}
use Rattle.device.specs.declared.tallies.Stepped.{Stepped}
use Rattle.device.specs.declared.tallies.Stepped.TheVariants.{Over, Made, Again, Full}
use Rattle.device.specs.Setups.{Setup}
use Rattle.device.specs.Turns.{RunState, is_done, tally_of}

-- how many entries the history has room for
abbrev pub entries_left : Setup → RunState → ℕ
entries_left s state = s.world.cap - length state.history

-- the turn was an entry
abbrev pub adds_entry : Stepped → Bool
adds_entry Over = false
adds_entry (Made place) = true
adds_entry (Again place) = false
adds_entry (Full place) = false

-- what turns keep: the history is within its cap, and at it where an actor was stopped
pub record StopsAtCap (s : Setup) (state : RunState) : Type 0 where
  pub within : length state.history ≤ s.world.cap
  pub stopped : (actor : ℕ) → (tally_of state actor).stopped ≡ true → length state.history ≡ s.world.cap
  pub tallies : length state.tallies ≡ 1 + length s.programs

-- the actors before this one are done
abbrev pub DoneBelow : Setup → RunState → ℕ → Type 0
DoneBelow s state count = (actor : ℕ) → actor < count → is_done s state actor ≡ true
