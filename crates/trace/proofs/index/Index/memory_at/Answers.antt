use Rattle.std.proofs.Common.{◌≡◌, ℕ, length, ap, subst, ◌∙◌, arith}
use Rattle.history.specs.Layout.{Layout, Setting, byte_count}
use Rattle.history.specs.Memory.{memory_at}
use Rattle.chronicle.specs.Worlds.{Recorded}
use Rattle.trace.specs.Index.{IsWindow}
use Rattle.trace.proofs.Copies.{whole_window}
use Rattle.trace.proofs.index.Index.memory_at.Goals as goal

pub returns : goal.returns
returns c =
    let kept = c.args.self.now in
    let w = kept.world in
    let base : c.base-base.result ≡ w.layout.base = c.base-base.ensures.value ∙ ap (λ (l : Layout). l.base) c.geometry.ensures.value ∙ ap (λ (s : Setting). s.layout.base) c.world.ensures.value ∙ ap (λ (r : Recorded). r.world.layout.base) c.chronicle.ensures in
    let whole : length c.window_at.new.window ≡ byte_count w.layout = omega (arith, c.window_at.auto.window, c.requires.room) in
    whole_window w kept.entries c.args.place c.window_at.new.window whole (subst (λ (low : ℕ). IsWindow (memory_at w kept.entries c.args.place) low c.window_at.new.window) base c.window_at.ensures)
