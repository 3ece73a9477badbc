-- One round more; the last one was without an entry.
use Rattle.std.proofs.Common.{suc, ◌∙◌, subst}
use Rattle.device.specs.Turns.{AllDone, first_state, turns}
use Rattle.sched.specs.Scheduled.{turns_said}
use Rattle.sched.proofs.Going.{first_stops}
use Rattle.sched.proofs.Rounds.{round_after}
use Rattle.sched.proofs.running.take_all_turns.Goals as goal

pub take_schedule-requires-clause-stops_at_cap : goal.take_schedule-requires-clause-stops_at_cap
take_schedule-requires-clause-stops_at_cap c = rw c.requires.fresh (first_stops c.args.device.now.setup)

pub loop-preserved : goal.loop-preserved
loop-preserved c =
    let s = c.args.device.now.setup in
    let kept = c.loop.invariant in
    let start = turns s (first_state s) (turns_said c.args.schedule.now) in
    record {
      setup = c.round.ensures.setup ∙ kept.setup;
      count = suc kept.count;
      state = round_after s c.loop.device.setup start c.loop.device.state c.round.new.device.state kept.count kept.setup kept.state c.round.ensures.state;
      stops_at_cap = c.round.ensures.stops_at_cap;
    }

pub returns : goal.returns
returns c =
    let s = c.args.device.now.setup in
    let kept = c.loop.invariant in
    let start = turns s (first_state s) (turns_said c.args.schedule.now) in
    let state = c.round.new.device.state in
    let same = c.round.ensures.setup ∙ kept.setup in
    record {
      setup = same;
      scheduled = record {
        count = suc kept.count;
        whole = round_after s c.loop.device.setup start c.loop.device.state state kept.count kept.setup kept.state c.round.ensures.state;
        done = subst (λ t. AllDone t state) same (c.round.ensures.done c.loop-test.false);
      };
    }
