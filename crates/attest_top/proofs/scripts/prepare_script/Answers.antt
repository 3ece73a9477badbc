use Rattle.std.specs.Prelude.{ℕ, Vec}
use Rattle.std.specs.declared.alloc.Global.{Global}
use Rattle.attest_top.specs.Moments.{stream_view}
use Rattle.attest_top.proofs.ScriptRead.{unread_script, read_script}
use Rattle.attest_top.proofs.scripts.prepare_script.Goals as goal

pub returns-in-Ok : goal.returns-in-Ok
returns-in-Ok g c =
    let old = stream_view (g.S.Source.left c.args.input.now) (g.S.Source.faults c.args.input.now) in
    let new = stream_view (g.S.Source.left c.read_input.new.input) (g.S.Source.faults c.read_input.new.input) in
    read_script c.in-Ok.text c.in-Ok.text.items c.text_output.result old new c.in-Ok.ensures.read c.in-Ok.ensures.counted c.in-Ok.ensures.left c.in-Ok.ensures.front
    (rw c.deref.ensures.value at c.text_output.ensures.gives) (rw c.deref.ensures.value at c.text_output.ensures.found)

pub returns-in-Err : goal.returns-in-Err
returns-in-Err g c =
    let old = stream_view (g.S.Source.left c.args.input.now) (g.S.Source.faults c.args.input.now) in
    let new = stream_view (g.S.Source.left c.read_input.new.input) (g.S.Source.faults c.read_input.new.input) in
    unread_script (Vec ℕ Global) c.in-Err.stop old new c.in-Err.ensures.read c.in-Err.ensures.counted c.in-Err.ensures.left c.in-Err.ensures.front
