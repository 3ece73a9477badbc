-- By cases on what the turn came to.
use Rattle.std.proofs.Common.{sym, ◌∙◌}
use Rattle.sched.specs.Rounds.{StopsAtCap}
use Rattle.sched.proofs.Going.{Goes, goes, less_by_entry, no_more, turn_stops}
use Rattle.sched.proofs.Waits.{done_more}
use Rattle.sched.proofs.running.take_turn.Goals as goal

pub returns : goal.returns
returns c =
    let s = c.args.device.now.setup in
    let state = c.args.device.now.state in
    let actor = c.args.actor in
    let new = c.step.new.self.state in
    let answer = c.step.result in
    let turned = c.step.ensures.turned in
    let kept : StopsAtCap s new = rw c.step.ensures.state (turn_stops s state actor c.requires.stops_at_cap) in
    let goes_so : Goes s state actor new = rw c.step.ensures.state (goes s state actor) in
    record {
      setup = c.step.ensures.setup;
      state = c.step.ensures.state;
      stops_at_cap = rw c.step.ensures.setup kept;
      left = rw c.step.ensures.setup (no_more s state new actor answer turned);
      went = λ went. rw c.step.ensures.setup (less_by_entry s state new actor answer kept (sym c.adds_entry.ensures ∙ went) turned);
      done = λ still below. rw c.step.ensures.setup (done_more s state new actor answer c.requires.stops_at_cap c.requires.actor (sym c.adds_entry.ensures ∙ still) turned goes_so below);
    }
