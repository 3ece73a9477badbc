use Rattle.std.proofs.Common.{take, ◌∙◌}
use Rattle.command_plans.proofs.Writings.{more_told, front_told, left_to_tell, puts_front}
use Rattle.command_plans.proofs.writing.put_parts.Goals as goal

pub telling-preserved : goal.telling-preserved
telling-preserved g c = record {
  told = more_told (g.P.Parts.told c.args.parts.now) (g.P.Parts.told c.telling.parts) (g.P.Parts.told c.next-count.new.self) (take c.next-count.result c.next-count.new.into) (g.K.Sink.held c.args.sink.now) (g.K.Sink.held c.telling.sink)
      (g.K.Sink.held c.put_all.new.sink) c.telling.invariant.told c.next-count.ensures.front c.in_ok-put_all.ensures.puts.ok;
  quiet = c.in_ok-put_all.ensures.puts.counted ∙ c.telling.invariant.quiet;
}

pub returns-in_err-put_all-clause-puts : goal.returns-in_err-put_all-clause-puts
returns-in_err-put_all-clause-puts g c =
    let front = front_told (g.P.Parts.told c.args.parts.now) (g.P.Parts.told c.telling.parts) (g.P.Parts.told c.next-count.new.self) (take c.next-count.result c.next-count.new.into) (g.K.Sink.held c.args.sink.now)
    (g.K.Sink.held c.telling.sink) (g.K.Sink.held c.put_all.new.sink) c.telling.invariant.told c.next-count.ensures.front c.in_err-put_all.ensures.puts.err in
    puts_front c.from_residual.result _ (g.P.Parts.told c.args.parts.now) (g.K.Sink.held c.args.sink.now) (g.K.Sink.held c.put_all.new.sink) (g.K.Sink.faults c.args.sink.now) (g.K.Sink.faults c.put_all.new.sink)
    c.from_residual.ensures.1 front (rw c.telling.invariant.quiet at c.in_err-put_all.ensures.puts.counted)

pub returns-in_err-put_all-clause-left : goal.returns-in_err-put_all-clause-left
returns-in_err-put_all-clause-left g c =
    left_to_tell (g.P.Parts.told c.args.parts.now) (g.P.Parts.told c.telling.parts) (g.P.Parts.told c.next-count.new.self) (take c.next-count.result c.next-count.new.into) (g.K.Sink.held c.args.sink.now) (g.K.Sink.held c.telling.sink)
    c.telling.invariant.told c.next-count.ensures.front
