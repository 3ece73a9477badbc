-- The next entry breaks a rule, and is the first to do so, or is one more that breaks none.
use Rattle.std.proofs.Common.{◌+◌, ◌<◌, length, get_or, ap, sym, ◌∙◌, arith}
use Rattle.std.proofs.lemmas.Option.{slice_get-get_or}
use Rattle.history.specs.declared.events.Act.TheVariants.{Fetch}
use Rattle.history.specs.declared.events.Entry.{Entry}
use Rattle.history.specs.Broken.{Break}
use Rattle.history.specs.Memory.{back}
use Rattle.trace.proofs.Checks.{break_here, checked_more}
use Rattle.trace.proofs.checking.check.Goals as goal

pub returns-in-Some-clause-broken : goal.returns-in-Some-clause-broken
returns-in-Some-clause-broken c =
    let w = c.args.chronicle.now.world in
    let h = c.args.chronicle.now.entries in
    let place = c.loop-entry.entry-index in
    let kept = c.loop-entry.invariant in
    let inside : place < length h = omega (arith, ap length kept.items, c.loop-entry-test.true) in
    let default : Entry = record { actor = 0; act = Fetch 0 0 } in
    let entry = get_or h place default in
    let counted = c.places_of_a_history.ensures.count h place (omega arith) in
    let said = rw kept.items at (rw kept.world at c.in-Some.ensures) in
    let found : Break = record { place = place + 1; rule = c.in-Some.rule } in
    rw kept.count ((c.broken_is_exact.ensures.first w h found).1 (break_here w h place entry c.in-Some.rule (slice_get-get_or h place default inside) inside kept.checked.legal (sym (said (back h place) kept.checked.replayed (counted ∙ sym kept.count)))))

pub loop-entry-preserved : goal.loop-entry-preserved
loop-entry-preserved c =
    let w = c.args.chronicle.now.world in
    let h = c.args.chronicle.now.entries in
    let place = c.loop-entry.entry-index in
    let kept = c.loop-entry.invariant in
    let inside : place < length h = omega (arith, ap length kept.items, c.loop-entry-test.true) in
    let default : Entry = record { actor = 0; act = Fetch 0 0 } in
    let entry = get_or h place default in
    let past = back h place in
    let counted = c.places_of_a_history.ensures.count h place (omega arith) in
    let said = rw kept.items at (rw kept.world at c.in-None.ensures) in
    let may = (c.broken_is_exact.ensures.rules w past entry).0 (sym (said past kept.checked.replayed (counted ∙ sym kept.count))) in
    let memory = (rw kept.items at c.replay_memory.ensures) w past entry.actor kept.checked.replayed.memory in
    let plan = (rw kept.items at c.replay_plan.ensures) w.ranges past entry.actor kept.checked.replayed.plan in
    record {
      world = kept.world;
      items = kept.items;
      count = omega (arith, kept.count);
      checked = checked_more w h place entry c.loop-entry.memory c.replay_memory.new.memory c.loop-entry.plan c.replay_plan.new.plan kept.checked (c.places_of_a_history.ensures.next h place entry (slice_get-get_or h place default inside)) may memory plan;
    }
