-- The plan is that of the measuring steps, and so it is with one step more.
use Rattle.std.proofs.Common.{[], ◌∙◌, sym, ap, refl}
use Rattle.lock_plan.specs.Plans.{plan_after}
use Rattle.script.specs.Measuring.{measured_after}
use Rattle.script.specs.Reading.{program_in}
use Rattle.std.proofs.lemmas.List.Elements.{All-push}
use Rattle.script.specs.Attested.{FitsWidth}
use Rattle.script.proofs.Measured.{measured_more, may_come_more}
use Rattle.script.proofs.script.Script.push_step.Goals as goal

pub follow-requires : goal.follow-requires
follow-requires c =
    let w = (program_in c.self.inside).setting in
    let past = measured_after w [] c.self.inside.steps.items in
    (w, past, c.self.invariant.setting.ranges, c.self.invariant.plan, sym (c.may_follow.ensures w past refl c.self.invariant.plan) ∙ c.if-not-may_follow.false)

pub invariant_of-self-2 : goal.invariant_of-self-2
invariant_of-self-2 c =
    let w = (program_in c.self.inside).setting in
    let old = c.self.invariant in
    let past = measured_after w [] c.self.inside.steps.items in
    record {
      setting = old.setting;
      ordered = rw c.in-Ok.ensures.items (may_come_more w [] c.self.inside.steps.items c.args.step old.ordered
          (sym (c.may_follow.ensures w past refl old.plan) ∙ c.if-not-may_follow.false));
      within = rw c.in-Ok.ensures.items (All-push FitsWidth c.self.inside.steps.items c.args.step old.within c.requires);
      plan = c.follow.ensures w past old.plan ∙ ap (plan_after c.self.inside.ranges)
          (sym (measured_more w [] c.self.inside.steps.items c.args.step) ∙ ap (measured_after w []) (sym c.in-Ok.ensures.items));
    }
