-- By what the measurer's turn leaves of itself, and of the applications.
use Rattle.std.proofs.Common.{◌≡◌, ◌+◌, ◌≤◌, ◌++◌, length, take, drop, sym, ap, ◌∙◌, subst, arith}
use Rattle.std.proofs.lemmas.List.{length-append, length-take-le}
use Rattle.device.specs.Keeping.{IsDevice, IsMeasuring}
use Rattle.device.proofs.Devices.{measurer_kept}
use Rattle.device.proofs.device.Device.step_measurer.Goals as goal

pub invariant_of-self : goal.invariant_of-self
invariant_of-self c =
    let d = c.self.inside in
    let t = c.turn.ensures in
    let measuring : IsMeasuring d.key.items d.core.world c.turn.new.core.history c.turn.new.self =
    subst (λ k. IsMeasuring k d.core.world c.turn.new.core.history c.turn.new.self) c.deref.ensures.value (subst (λ x. IsMeasuring c.deref.result.now x c.turn.new.core.history c.turn.new.self) t.world t.stands) in
    let buffer = c.turn.new.buffer ++ drop (length c.turn.new.buffer) d.buffer.items in
    let whole : length (take d.buffer.len (c.turn.new.buffer ++ drop (length c.turn.new.buffer) d.buffer.items)) ≡ d.buffer.len =
    length-take-le d.buffer.len (c.turn.new.buffer ++ drop (length c.turn.new.buffer) d.buffer.items) (omega (arith, length-append c.turn.new.buffer (drop (length c.turn.new.buffer) d.buffer.items), t.room, c.deref_mut.ensures.len)) in (
      subst (λ x. IsDevice x d.key.items c.turn.new.core.history d.slots.items c.turn.new.self) (sym t.world) (
          measurer_kept c.entries_are_own.ensures.other d.core.world d.key.items d.core.history c.turn.new.core.history d.slots.items d.passes c.turn.new.self c.self.invariant.0 t.state measuring),
      omega (arith, whole, c.self.invariant.1, d.buffer.ok.0, ap (λ x. x.layout.size) t.world),
      c.self.invariant.2,
      c.self.invariant.3,
    )
