-- Its place is one more than the entries before it.
use Rattle.std.proofs.Common.{◌≡◌, ◌+◌, ◌∙◌, ap, length, arith}
use Rattle.std.proofs.lemmas.Grind.{common_steps}
use Rattle.std.proofs.lemmas.List.{length-reverse}
use Rattle.script.specs.Running.{past_of}
use Rattle.chronicle.specs.Worlds.{shape_of}
use Rattle.script.proofs.running.start.Goals as goal

pub returns-in_ok-say_step-in-Done-clause-tagging : goal.returns-in_ok-say_step-in-Done-clause-tagging
returns-in_ok-say_step-in-Done-clause-tagging c = λ key old t.
    let place : c.in-Done.place ≡ length (past_of c.args.core.now) + 1 = grind (arith, common_steps, length-reverse c.args.core.now.history) in
    c.started.ensures c.args.core.now.world key old (past_of c.args.core.now) (c.shape-shape.ensures.value ∙ ap shape_of c.world.ensures.value) place t
