-- One turn more.
use Rattle.std.proofs.Common.{sym, ap, ◌∙◌}
use Rattle.device.specs.Turns.{turn}
use Rattle.sched.proofs.Rounds.{turns_more}
use Rattle.sched.proofs.running.take_turns.Goals as goal

pub loop-turn-preserved : goal.loop-turn-preserved
loop-turn-preserved c =
    let s = c.args.device.now.setup in
    let run = c.args.run in
    let kept = c.loop-turn.invariant in
    record {
      setup = c.take_turn.ensures.setup ∙ kept.setup;
      state = c.take_turn.ensures.state ∙ ap (λ t. turn t c.loop-turn.device.state run.actor) kept.setup ∙ ap (λ x. turn s x run.actor) kept.state ∙ sym (turns_more s c.args.device.now.state run.actor c.loop-turn._turn);
      stops_at_cap = c.take_turn.ensures.stops_at_cap;
    }
