use Rattle.std.proofs.Common.{◌≡◌, ◌-◌, ◌*◌, ◌/◌, List, length, sym, ap, subst, ◌∙◌, arith}
use Rattle.history.specs.declared.events.Entry.{Entry}
use Rattle.history.specs.Layout.{Layout, Setting, byte_count}
use Rattle.history.specs.Memory.{memory_at}
use Rattle.chronicle.specs.Worlds.{Recorded}
use Rattle.trace.specs.Index.{AreCheckpoints, IsWindow, memory_bytes}
use Rattle.trace.proofs.Copies.{copy_is, copy_length, part_window}
use Rattle.trace.proofs.index.Index.window_at.Goals as goal

pub copy_part-requires : goal.copy_part-requires
copy_part-requires c =
    let kept = c.args.self.now in
    let w = kept.world in
    let base : c.base.result ≡ w.layout.base = c.base.ensures.value ∙ ap (λ (l : Layout). l.base) c.geometry.ensures.value ∙ ap (λ (s : Setting). s.layout.base) c.world.ensures.value ∙ ap (λ (r : Recorded). r.world.layout.base) c.self.view_is in
    let checkpoints = subst (λ (r : Recorded). AreCheckpoints r.world r.entries c.self.inside.checkpoints.items) c.self.view_is c.self.invariant in
    let is = copy_is w kept.entries c.self.inside.checkpoints.items c.args.place c.index.result.now checkpoints c.requires.place c.index.ensures in
    let long : length c.deref.result.now ≡ byte_count w.layout = ap length c.deref.ensures.value ∙ copy_length w kept.entries (65536 * (c.args.place / 65536)) c.index.result.now.items is in
    omega (arith, base, long, c.requires.low, c.requires.room)

pub returns : goal.returns
returns c =
    let kept = c.args.self.now in
    let w = kept.world in
    let nearest = 65536 * (c.args.place / 65536) in
    let base : c.base.result ≡ w.layout.base = c.base.ensures.value ∙ ap (λ (l : Layout). l.base) c.geometry.ensures.value ∙ ap (λ (s : Setting). s.layout.base) c.world.ensures.value ∙ ap (λ (r : Recorded). r.world.layout.base) c.self.view_is in
    let checkpoints = subst (λ (r : Recorded). AreCheckpoints r.world r.entries c.self.inside.checkpoints.items) c.self.view_is c.self.invariant in
    let is : c.deref.result.now ≡ memory_bytes w kept.entries nearest = c.deref.ensures.value ∙ copy_is w kept.entries c.self.inside.checkpoints.items c.args.place c.index.result.now checkpoints c.requires.place c.index.ensures in
    let part : IsWindow (memory_at w kept.entries nearest) c.args.low c.copy_part.new.window =
    part_window w kept.entries nearest c.args.low (c.args.low - c.base.result) (length c.args.window.now) c.deref.result.now c.copy_part.new.window is (omega (arith, base, c.requires.low)) (omega (arith, base, c.requires.low, c.requires.room)) c.copy_part.ensures in
    let entries : c.entries.result.now ≡ kept.entries = c.entries.ensures ∙ ap (λ (r : Recorded). r.entries) c.self.view_is in
    let later = c.replay.ensures w (subst (λ (es : List Entry). IsWindow (memory_at w es nearest) c.args.low c.copy_part.new.window) (sym entries) part) in
    subst (λ (es : List Entry). IsWindow (memory_at w es c.args.place) c.args.low c.replay.new.window) entries later
