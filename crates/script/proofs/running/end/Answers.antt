-- Its place is one more than the entries before it.
use Rattle.std.proofs.Common.{◌≡◌, ◌+◌, length, arith}
use Rattle.std.proofs.lemmas.Grind.{common_steps}
use Rattle.std.proofs.lemmas.List.{length-reverse}
use Rattle.script.specs.Running.{past_of}
use Rattle.history.specs.Pass.{pass_after}
use Rattle.script.proofs.CoreSteps.{end_of_pass}
use Rattle.script.proofs.running.end.Goals as goal

pub returns-in_ok-say_bytes-in-Done-clause-tagging : goal.returns-in_ok-say_bytes-in-Done-clause-tagging
returns-in_ok-say_bytes-in-Done-clause-tagging c = λ key nonce t.
    let here = end_of_pass c.args.core.now.world (pass_after (past_of c.args.core.now)) c.requires in
    let place : c.in-Done.place ≡ length (past_of c.args.core.now) + 1 = grind (arith, common_steps, length-reverse c.args.core.now.history) in
    c.ended-tag.ensures.kept c.args.core.now.world key nonce (past_of c.args.core.now) here.0 place t here.1 here.2
