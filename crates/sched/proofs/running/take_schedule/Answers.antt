-- One run more.
use Rattle.std.proofs.Common.{replicate, get_or, sym, ap, ◌∙◌}
use Rattle.schedule_text.specs.declared.reading.Run.{Run}
use Rattle.device.specs.Turns.{turns}
use Rattle.sched.proofs.Rounds.{said_more}
use Rattle.sched.proofs.running.take_schedule.Goals as goal

pub loop-run-preserved : goal.loop-run-preserved
loop-run-preserved c =
    let s = c.args.device.now.setup in
    let kept = c.loop-run.invariant in
    let none : Run = record { actor = 0; turns = 0 } in
    let run : Run = get_or c.args.schedule.now c.loop-run.run-index none in
    record {
      setup = c.take_turns.ensures.setup ∙ kept.setup;
      state = c.take_turns.ensures.state ∙ ap (λ t. turns t c.loop-run.device.state (replicate run.turns run.actor)) kept.setup ∙ ap (λ x. turns s x (replicate run.turns run.actor)) kept.state ∙ sym (said_more s c.args.device.now.state c.args.schedule.now c.loop-run.run-index none c.loop-run-test.true);
      stops_at_cap = c.take_turns.ensures.stops_at_cap;
    }
