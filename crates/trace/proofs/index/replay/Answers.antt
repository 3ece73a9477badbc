use Rattle.std.proofs.Common.{◌≡◌, ℕ, ◌+◌, ◌<◌, length, get_or, unwrap_or, sym, ap, ◌∙◌, subst, arith}
use Rattle.std.proofs.lemmas.Option.{slice_get-get_or}
use Rattle.history.specs.declared.events.Act.TheVariants.{Fetch}
use Rattle.history.specs.declared.events.Entry.{Entry}
use Rattle.history.specs.Memory.{memory_at, put_at}
use Rattle.trace.specs.Index.{IsWindow}
use Rattle.trace.proofs.index.replay.Goals as goal

pub loop-place-preserved : goal.loop-place-preserved
loop-place-preserved c = λ w began.
    let h = c.args.entries.now in
    let place = c.loop-place.place in
    let default : Entry = record { actor = 0; act = Fetch 0 0 } in
    let inside : place < length h = omega (arith, c.loop-place-test.true, c.requires.within) in
    let window = c.loop-place.invariant w began in
    let next = c.memory_later.ensures.next w h place (get_or h place default) (slice_get-get_or h place default inside) in
    record {
      each = λ k within.
          let there : k < length c.loop-place.window = omega (arith, within, c.replay_act.auto.window) in
          c.replay_act.ensures k there ∙ ap (λ old. unwrap_or (put_at (get_or h place default).act (c.args.low + k)) old) (window.each k there) ∙ sym (next (c.args.low + k));
    }

pub returns : goal.returns
returns c = λ w began.
    let upto : c.loop-place.place ≡ c.args.to = omega (arith, c.loop-place-test.false, c.loop-place.auto.place-end c.requires.order) in
    subst (λ (p : ℕ). IsWindow (memory_at w c.args.entries.now p) c.args.low c.loop-place.window) upto (c.loop-place.invariant w began)
