use Rattle.script.proofs.Ended.{leaves_input, is_too_long}
use Rattle.script.proofs.ends.run_script.Goals as goal

pub returns-in-Ok-clause-left : goal.returns-in-Ok-clause-left
returns-in-Ok-clause-left g c =
    leaves_input c.write_text.result c.in-Ok.text.items (g.O.Sink.held c.args.out.now) (g.O.Sink.held c.write_text.new.out) (g.S.Source.left c.args.input.now) (g.S.Source.left c.take_all.new.source)
    (rw c.deref.ensures.value at c.write_text.ensures.ends) c.in-Ok.ensures.ok

pub returns-in-Err-TooLong-clause-left : goal.returns-in-Err-TooLong-clause-left
returns-in-Err-TooLong-clause-left g c = c.in-Err-TooLong.ensures.too_long (is_too_long c.in-Err-TooLong.field-0 c.in-Err-TooLong.field-0-is)
