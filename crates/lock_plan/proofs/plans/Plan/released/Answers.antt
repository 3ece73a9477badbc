use Rattle.std.proofs.Common.{◌≡◌, ℕ, Bool, true, false, List, sym, ap, ◌∙◌, arith}
use Rattle.std.proofs.lemmas.Bool.{false≢true}
use Rattle.std.specs.Option.{option_map}
use Rattle.lock_plan.specs.Plans.{next_step, pass_with, state_locks}
use Rattle.lock_plan.specs.Tables.{has_bit}
use Rattle.lock_plan.proofs.PassLocks.{locks_released, release_after_end}
use Rattle.lock_plan.proofs.WordBits.{no_bit}
use Rattle.lock_plan.proofs.plans.Plan.released.Goals as goal

pub invariant_of-self : goal.invariant_of-self
invariant_of-self c =
    let p = c.self.inside in
    let next = ap next_step c.self.view_is ∙ c.requires in
    let ended : p.ended ≡ true = release_after_end p.ranges p.discipline p.copied p.ended p.released next in
    let free : (index : ℕ) → state_locks (option_map (pass_with p.copied p.ended true) p.discipline) index ≡ false
    = λ index. ap (λ (e : Bool). state_locks (option_map (pass_with p.copied e true) p.discipline) index) ended ∙ locks_released p.discipline p.copied index in (
      c.self.invariant.0,
      c.self.invariant.1,
      c.self.invariant.2,
      c.self.invariant.3,
      λ open_pass. absurd (false≢true (sym open_pass ∙ ended)),
      λ index below. ap (λ (words : List ℕ). has_bit words index) c.filled-self-inside.ensures ∙ no_bit index (omega (arith, c.self.invariant.2)) ∙ sym (free index),
    )
