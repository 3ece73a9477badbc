use Rattle.std.proofs.Common.{◌≡◌, Some, None, refl}
use Rattle.attest_top.specs.Lines.{still_of}
use Rattle.attest_top.specs.Moments.{stream_view, Moment}
use Rattle.attest_top.proofs.Promises.{usage_kept, promise_kept}
use Rattle.attest_top.proofs.top.attest_still.Goals as goal

pub returns-in_default : goal.returns-in_default
returns-in_default g c =
    let files = g.F.Files.shows c.args.files.now in
    let input = stream_view (g.S.Source.left c.args.input.now) (g.S.Source.faults c.args.input.now) in
    let out = stream_view (g.O.Sink.held c.args.out.now) (g.O.Sink.faults c.args.out.now) in
    let before : Moment = record { files = files; input = input; out = out; err = stream_view (g.E.Sink.held c.args.err.now) (g.E.Sink.faults c.args.err.now) } in
    let after : Moment = record { files = files; input = input; out = out; err = stream_view (g.E.Sink.held c.say_usage.new.err) (g.E.Sink.faults c.say_usage.new.err) } in
    let none : still_of c.args.words.now ≡ None = cc c.in_default.ensures in
    rw none (usage_kept c.say_usage.result before after refl refl refl c.say_usage.ensures)

pub returns : goal.returns
returns g c =
    let mid = g.F.Files.shows c.prepare_still-prepared.new.files in
    let before : Moment = record {
      files = g.F.Files.shows c.args.files.now;
      input = stream_view (g.S.Source.left c.args.input.now) (g.S.Source.faults c.args.input.now);
      out = stream_view (g.O.Sink.held c.args.out.now) (g.O.Sink.faults c.args.out.now);
      err = stream_view (g.E.Sink.held c.args.err.now) (g.E.Sink.faults c.args.err.now);
    } in
    let after : Moment = record {
      files = g.F.Files.shows c.finish.new.files;
      input = stream_view (g.S.Source.left c.prepare_still-prepared.new.input) (g.S.Source.faults c.prepare_still-prepared.new.input);
      out = stream_view (g.O.Sink.held c.finish.new.out) (g.O.Sink.faults c.finish.new.out);
      err = stream_view (g.E.Sink.held c.finish.new.err) (g.E.Sink.faults c.finish.new.err);
    } in
    let form = c.in-Some.command in
    let some : still_of c.args.words.now ≡ Some form = cc c.in-Some.ensures in
    rw some (promise_kept (record {
      plans = c.one_plan.ensures.plans;
      setups = c.one_plan.ensures.setups;
      telling = record { names = c.files_have_different_names.ensures; threaded = c.uncut_runs_are_finished.ensures.threaded; scheduled = c.uncut_runs_are_finished.ensures.scheduled; unbroken = c.broken_is_exact.ensures.none; yes = c.confirmed_is_exact.ensures.yes; instants = c.confirmed_is_exact.ensures.instants; generated = c.uncut_runs_are_confirmed.ensures.generated };
    }) form c.prepare_still-prepared.result c.finish.result before after mid c.prepare_still-prepared.ensures
    (c.finish.ensures.comes before.input after.input) c.finish.ensures.asked c.finish.ensures.none)
