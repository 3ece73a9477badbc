use Rattle.std.proofs.Common.{ℕ, List, sym, ap, ◌∙◌}
use Rattle.lock_plan.specs.Tables.{has_bit}
use Rattle.lock_plan.proofs.PassLocks.{locks_begin}
use Rattle.lock_plan.proofs.WordBits.{every_bit, no_bit}
use Rattle.lock_plan.proofs.bits.at_start.Goals as goal

pub returns-then-locks_from_start : goal.returns-then-locks_from_start
returns-then-locks_from_start c = λ k few. ap (λ (words : List ℕ). has_bit words k) c.filled.ensures ∙ every_bit k few ∙ sym c.if-locks_from_start.true ∙ c.locks_from_start.ensures ∙ sym (locks_begin c.args.discipline k)

pub returns : goal.returns
returns c = λ k few. ap (λ (words : List ℕ). has_bit words k) c.filled-2.ensures ∙ no_bit k few ∙ sym c.if-locks_from_start.false ∙ c.locks_from_start.ensures ∙ sym (locks_begin c.args.discipline k)
