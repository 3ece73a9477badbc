-- A Copy changes no byte.
use Rattle.std.proofs.Common.{arith}
use Rattle.std.proofs.lemmas.Grind.{common_steps}
use Rattle.script.specs.Running.{past_of}
use Rattle.script.proofs.CoreSteps.{copied_there}
use Rattle.script.proofs.running.copy.Goals as goal

pub returns-in_ok-say_number-in-Done-clause-tagging : goal.returns-in_ok-say_number-in-Done-clause-tagging
returns-in_ok-say_number-in-Done-clause-tagging c = λ key nonce t.
    let bytes = copied_there c.args.core.now.world c.args.core.now.history c.copy.new.self.core.now.history c.args.block c.copy.new.into (grind (arith, common_steps)) (grind (arith, common_steps)) in
    rw (← c.requires.next) (c.copied.ensures c.args.core.now.world key nonce (past_of c.args.core.now) c.args.block bytes t)
