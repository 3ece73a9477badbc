use Rattle.std.proofs.Common.{◌≡◌, ℕ, ◌+◌, ◌*◌, List, [], length, refl, sym, ap, ◌∙◌, arith}
use Rattle.std.proofs.lemmas.Option.{slice_get_read}
use Rattle.history.specs.declared.events.Entry.{Entry}
use Rattle.history.specs.Layout.{Layout, Setting}
use Rattle.trace.specs.Index.{memory_bytes}
use Rattle.trace.proofs.Copies.{copies_more, copies_none, image_bytes}
use Rattle.trace.proofs.index.checkpoints.Goals as goal

pub loop-k-init : goal.loop-k-init
loop-k-init c =
    let w = c.args.chronicle.now.world in
    let h = c.args.chronicle.now.entries in
    let image : c.in_ok-from_slice.field-0.items ≡ memory_bytes w h 0 =
    c.in_ok-from_slice.ensures.items ∙ c.image.ensures.value ∙ ap (λ (s : Setting). s.image) c.world-world.ensures.value ∙ image_bytes w h c.world-world.ensures.setting in
    rw (c.in_ok-push.ensures.items, c.in_ok-copies.ensures.items) (copies_more w h [] 0 c.in_ok-from_slice.field-0 (copies_none w h) image)

pub loop-k-preserved : goal.loop-k-preserved
loop-k-preserved c =
    let w = c.args.chronicle.now.world in
    let h = c.args.chronicle.now.entries in
    let kept = c.loop-k.invariant in
    let k = c.loop-k.k in
    let base : w.layout.base ≡ c.base-base.result = sym (c.base-base.ensures.value ∙ ap (λ (l : Layout). l.base) c.geometry.ensures.value ∙ ap (λ (s : Setting). s.layout.base) c.world-world.ensures.value) in
    let here = slice_get_read c.loop-k.copies.items (length c.loop-k.copies.items) k c.index.result.now refl (omega (arith, kept.number)) c.index.ensures in
    let copy = c.deref.ensures.value ∙ kept.each k c.index.result.now here ∙ ap (λ (es : List Entry). memory_bytes w es (65536 * k)) (sym c.entries-entries.ensures) in
    let next : c.in_ok-next.next.items ≡ memory_bytes w h (65536 * (k + 1)) =
    c.in_ok-next.ensures w base copy ∙ ap (λ (es : List Entry). memory_bytes w es (65536 * k + 65536)) c.entries-entries.ensures ∙ ap (λ (p : ℕ). memory_bytes w h p) (omega arith) in
    rw c.in_ok-push-2.ensures.items (copies_more w h c.loop-k.copies.items (k + 1) c.in_ok-next.next kept next)
