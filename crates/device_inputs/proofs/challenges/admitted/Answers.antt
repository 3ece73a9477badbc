use Rattle.std.proofs.Common.{length, ap, ◌∙◌}
use Rattle.device_inputs.proofs.Rising.{admissions_count}
use Rattle.device_inputs.proofs.challenges.admitted.Goals as goal

pub returns-in-Ok-clause-count : goal.returns-in-Ok-clause-count
returns-in-Ok-clause-count c = ap length c.in-Ok.ensures ∙ admissions_count c.args.key.now c.args.last c.args.sent.now
