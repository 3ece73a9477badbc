use Rattle.std.proofs.Common.{[], ◌∙◌, ◌++◌, ap}
use Rattle.script.specs.Printed.{steps_printed}
use Rattle.script.proofs.Runs.{same_text}
use Rattle.script.proofs.running.run.Goals as goal

pub returns-clause-text : goal.returns-clause-text
returns-clause-text c =
    c.in_ok-is_full.ensures.text
    ∙ ap (λ x. x ++ steps_printed c.in_ok-core.core.world c.new-tagger.result.key.items [] [] c.deref.result.now) c.new-text.ensures.items
    ∙ same_text c.in_ok-core.core.world c.args.script.setting c.new-tagger.result.key.items c.args.script.key c.deref.result.now c.args.script.steps
    (c.in_ok-core.ensures.world ∙ c.into_parts-world.ensures.world)
    ((c.new-tagger.ensures c.args.script.setting []).key_is ∙ c.into_parts-world.ensures.key)
    (c.deref.ensures.value ∙ c.into_parts-world.ensures.steps)
