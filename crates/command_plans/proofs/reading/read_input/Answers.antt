use Rattle.std.proofs.Common.{refl}
use Rattle.command_plans.proofs.Readings.{input_ok, input_long}
use Rattle.command_plans.proofs.reading.read_input.Goals as goal

pub returns-in-Ok-clause-read : goal.returns-in-Ok-clause-read
returns-in-Ok-clause-read g c = (refl, input_ok c.args.limit (g.S.Source.left c.args.input.now) c.in-Ok.text.items (λ known is. (c.in-Ok.ensures.ok known is).0) c.in-Ok.ensures.within)

pub returns-in_ok-line-in-Err-TooLong-clause-read : goal.returns-in_ok-line-in-Err-TooLong-clause-read
returns-in_ok-line-in-Err-TooLong-clause-read g c =
    (refl, input_long c.args.limit (g.S.Source.left c.args.input.now) _ (λ known is. (c.in-Err-TooLong.ensures.too_long (rw c.in-Err-TooLong.field-0-is refl) known is).0) c.in_ok-line-in-Err-TooLong.ensures)
