use Rattle.std.proofs.Common.{◌≡◌, ◌++◌, sym, ap}
use Rattle.command_plans.specs.Written.{Written, rest_bytes}
use Rattle.command_plans.proofs.Writings.{left_behind, puts_behind}
use Rattle.command_plans.proofs.output.Output.put_out.Goals as goal

pub returns-clause-puts : goal.returns-clause-puts
returns-clause-puts g c =
    let first = c.self.inside.out.items in
    let rest = rest_bytes g.P.Parts.told c.self.inside.rest in
    let out : first ++ rest ≡ c.args.self.now.out = ap (λ (w : Written). w.out) c.self.view_is in
    rw (← out) (puts_behind c.put_rest.result first rest (g.K.Sink.held c.args.out.now) (g.K.Sink.held c.put_all.new.sink) (g.K.Sink.held c.put_rest.new.sink) (g.K.Sink.faults c.args.out.now) (g.K.Sink.faults c.put_all.new.sink)
    (g.K.Sink.faults c.put_rest.new.sink) (rw c.deref.ensures.value at c.in_ok-put_all.ensures.puts.ok) c.in_ok-put_all.ensures.puts.counted c.put_rest.ensures.puts)

pub returns-clause-left : goal.returns-clause-left
returns-clause-left g c =
    let rest = rest_bytes g.P.Parts.told c.self.inside.rest in
    let left = rest_bytes g.P.Parts.told c.put_rest.new.rest in
    left_behind c.args.self.now.out c.self.inside.out.items rest c.clear.new.self.items left c.put_rest.ensures.left.0 (sym (ap (λ (w : Written). w.out) c.self.view_is)) c.put_rest.ensures.left.1 c.clear.ensures.items
