-- By what is left of the measurer's programs, and by what the application asks next.
use Rattle.std.proofs.Common.{◌≡◌, ◌+◌, ◌-◌, ◌<◌, suc, length, sym, ap, ◌∙◌, subst, refl, arith}
use Rattle.std.specs.Prelude.{slice_get, Some}
use Rattle.std.proofs.lemmas.List.{length-map}
use Rattle.std.proofs.lemmas.Option.{slice_get_read}
use Rattle.device.specs.Turns.{is_done}
use Rattle.device.specs.Keeping.{program_of_slot}
use Rattle.device.proofs.Devices.{app_done}
use Rattle.device.proofs.device.Device.over.Goals as goal

pub returns-then-actor-eq0 : goal.returns-then-actor-eq0
returns-then-actor-eq0 c =
    let d = c.self.inside in
    subst (λ a. c.is_done.result ≡ is_done c.args.self.now.setup c.args.self.now.state a) (sym c.if-actor-eq0.true) (
    subst (λ x. c.is_done.result ≡ is_done x.setup x.state 0) c.self.view_is (c.is_done.ensures d.key.items d.core.world d.core.history c.self.invariant.0.measurer))

pub returns : goal.returns
returns c =
    let d = c.self.inside in
    let count : length d.slots.items ≡ length c.args.self.now.setup.programs = sym (length-map d.slots.items (program_of_slot d.core.world.layout)) ∙ ap (λ x. length x.setup.programs) c.self.view_is in
    let within : c.args.actor - 1 < length d.slots.items = omega (arith, c.requires, count, c.if-actor-eq0.false) in
    let is : c.args.actor ≡ suc (c.args.actor - 1) = omega (arith, c.if-actor-eq0.false) in
    let there : slice_get d.slots.items (c.args.actor - 1) ≡ Some c.index.result.now = slice_get_read d.slots.items (length d.slots.items) (c.args.actor - 1) c.index.result.now refl within c.index.ensures in
    subst (λ x. c.is_done-2.result ≡ is_done x.setup x.state c.args.actor) c.self.view_is (
    app_done d.core.world d.key.items d.core.history d.slots.items d.passes c.args.actor (c.args.actor - 1) is c.index.result.now there c.self.invariant.0 c.is_done-2.result (c.is_done-2.ensures d.core.world d.core.history))
