-- By what is left of the programs.
use Rattle.std.proofs.Common.{sym, ap, ◌∙◌}
use Rattle.std.specs.Prelude.{◌||◌, is_none}
use Rattle.device.proofs.Measurements.{measurer_done, next_step_of, none_is}
use Rattle.device.proofs.passes.Passes.is_done.Goals as goal

pub returns-else-self : goal.returns-else-self
returns-else-self c = λ key w history h.
    none_is c.args.self.now.under_way c.is_none.result c.is_none.ensures
    ∙ measurer_done c.own_entries.ensures.append key w history c.args.self.now h
    ∙ sym (ap (λ b. b || is_none (next_step_of w history c.args.self.now)) c.if-self.false)
