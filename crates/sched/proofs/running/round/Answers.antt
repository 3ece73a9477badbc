-- One actor more.
use Rattle.std.proofs.Common.{◌≡◌, Bool, true, false, refl, sym, ap, ◌∙◌, arith}
use Rattle.std.specs.Prelude.{◌||◌}
use Rattle.std.proofs.lemmas.Bool.{false≢true}
use Rattle.device.specs.Turns.{turn}
use Rattle.sched.proofs.Rounds.{round_more}
use Rattle.sched.proofs.running.round.Goals as goal

either : (P : Type 0) (a b : Bool) → (a ≡ true → P) → (b ≡ true → P) → (a || b) ≡ true → P
either P true b first second or = first refl
either P false b first second or = second or

neither : (a b : Bool) → (a || b) ≡ false → (a ≡ false) × (b ≡ false)
neither true b or = absurd (false≢true (sym or))
neither false b or = (refl, or)

pub loop-actor-preserved : goal.loop-actor-preserved
loop-actor-preserved c =
    let s = c.args.device.now.setup in
    let kept = c.loop-actor.invariant in
    let turned = c.take_turn-went.ensures in
    record {
      setup = turned.setup ∙ kept.setup;
      state = turned.state ∙ ap (λ t. turn t c.loop-actor.device.state c.loop-actor.actor) kept.setup ∙ ap (λ x. turn s x c.loop-actor.actor) kept.state ∙ sym (round_more s c.args.device.now.state c.loop-actor.actor);
      stops_at_cap = turned.stops_at_cap;
      left = omega (arith, turned.left, kept.left);
      went = either _ c.loop-actor.went c.take_turn-went.result (λ e. omega (arith, turned.left, kept.went e)) (λ e. omega (arith, turned.went e, kept.left));
      done = λ or. let still = neither c.loop-actor.went c.take_turn-went.result or in turned.done still.1 (kept.done still.0);
    }
