use Rattle.std.proofs.Common.{◌≡◌, ℕ, ◌<◌, true}
use Rattle.device.specs.Turns.{is_done}
use Rattle.device.proofs.device.Device.all_over.Given as goal

-- the actors so far are done
abbrev pub invariant-loop-actor : goal.invariant-loop-actor
invariant-loop-actor l = (a : ℕ) → a < l.actor → is_done l.self.setup l.self.state a ≡ true
