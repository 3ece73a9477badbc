-- The core has one entry more.
use Rattle.std.proofs.Common.{◌≡◌, ◌+◌, ◌++◌, ◌∙◌, ap₂, length, refl, arith}
use Rattle.std.specs.Prelude.{codes}
use Rattle.std.specs.Fmt.{decimal}
use Rattle.hex.specs.Hex.{encode_lower}
use Rattle.std.proofs.lemmas.Grind.{common_steps}
use Rattle.std.proofs.lemmas.List.{length-reverse}
use Rattle.script.specs.Printed.{line}
use Rattle.script.specs.Running.{past_of}
use Rattle.history.specs.Pass.{pass_after}
use Rattle.script.proofs.CoreSteps.{release_of_pass}
use Rattle.script.proofs.running.release.Goals as goal

pub returns-in_ok-say_bytes-in-Done : goal.returns-in_ok-say_bytes-in-Done
returns-in_ok-say_bytes-in-Done c = λ key nonce t.
    let place : c.in-Done.place ≡ length (past_of c.args.core.now) + 1 = grind (arith, common_steps, length-reverse c.args.core.now.history) in
    let here = release_of_pass c.args.core.now.world (pass_after (past_of c.args.core.now)) c.requires in
    let tag = c.released-tag.ensures c.args.core.now.world key nonce (past_of c.args.core.now) here.0 place t here.1 here.2 in
    record { room = grind (arith, common_steps); free = refl; grown = grind (arith, common_steps); said = c.in_ok-say_bytes-in-Done.ensures ∙ ap₂ (λ n t. c.args.out.now.items ++ line (decimal n ++ (codes " release " ++ encode_lower t))) place tag }
