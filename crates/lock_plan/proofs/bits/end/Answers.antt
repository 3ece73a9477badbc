use Rattle.std.proofs.Common.{ℕ, ◌&&◌, Bool, List, sym, ap, ◌∙◌}
use Rattle.lock_plan.specs.Tables.{has_bit}
use Rattle.lock_plan.proofs.WordBits.{no_bit}
use Rattle.lock_plan.proofs.bits.end.Goals as goal

pub returns : goal.returns
returns c = λ k few. ap (λ (words : List ℕ). has_bit words k) c.filled.ensures ∙ no_bit k few ∙ ap (λ (t : Bool). t && has_bit c.args.words.now k) (sym c.if-outlasts.false ∙ c.outlasts.ensures)
