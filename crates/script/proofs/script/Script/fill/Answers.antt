use Rattle.std.proofs.Common.{◌≡◌, ◌∙◌, ap, []}
use Rattle.script.specs.Programs.{Program}
use Rattle.script.proofs.script.Script.fill.Goals as goal

pub invariant_of-self : goal.invariant_of-self
invariant_of-self c =
    let old = c.self.invariant in
    let none : c.self.inside.steps.items ≡ [] = ap (λ (p : Program). p.steps) c.self.view_is ∙ c.requires.no_step in
    record {
      setting = record {
        layout = old.setting.layout;
        ranges = old.setting.ranges;
        inside = old.setting.inside;
        image_length = c.fill.ensures.len ∙ old.setting.image_length;
        image_bytes = c.fill.ensures.bytes;
        some_entry = old.setting.some_entry;
        few_entries = old.setting.few_entries;
      };
      ordered = rw none tt;
      within = old.within;
      plan = rw none (rw none at old.plan);
    }
