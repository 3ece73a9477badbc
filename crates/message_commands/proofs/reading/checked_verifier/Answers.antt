use Rattle.message_commands.proofs.Names.{named_plan}
use Rattle.message_commands.proofs.reading.checked_verifier.Goals as goal

pub returns-in-Ok-clause-named : goal.returns-in-Ok-clause-named
returns-in-Ok-clause-named c = named_plan c.args.text.now c.in-Ok.plan c.in-Ok.ensures
