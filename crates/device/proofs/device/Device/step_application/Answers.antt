-- By what the application's turn leaves of itself, and of the others.
use Rattle.std.proofs.Common.{◌≡◌, ◌+◌, ◌-◌, ◌<◌, ◌≤◌, suc, length, set, sym, ap, ◌∙◌, subst, refl, arith}
use Rattle.std.specs.Prelude.{slice_get, Some}
use Rattle.std.proofs.lemmas.List.{length-map, length-set}
use Rattle.std.proofs.lemmas.Option.{slice_get_read}
use Rattle.history.specs.Layout.{IsSetting}
use Rattle.history.specs.Legal.{IsLegal}
use Rattle.device.specs.Turns.{answer_of, turn}
use Rattle.device.specs.Keeping.{IsDevice, program_of_slot, setup_kept}
use Rattle.device.proofs.Devices.{app_answer, app_kept, app_setup, app_state}
use Rattle.device.proofs.device.Device.step_application.Goals as goal

pub invariant_of-self : goal.invariant_of-self
invariant_of-self c =
    let d = c.self.inside in
    let w = d.core.world in
    let count : length d.slots.items ≡ length c.args.self.now.setup.programs = sym (length-map d.slots.items (program_of_slot d.core.world.layout)) ∙ ap (λ x. length x.setup.programs) c.self.view_is in
    let within : c.args.actor - 1 < length d.slots.items = omega (arith, c.requires.0, c.requires.1, count) in
    let is : c.args.actor ≡ suc (c.args.actor - 1) = omega (arith, c.requires.0) in
    let slot = c.index_mut-slot.result.now in
    let there : slice_get d.slots.items (c.args.actor - 1) ≡ Some c.index_mut-slot.result.now = slice_get_read d.slots.items (length d.slots.items) (c.args.actor - 1) c.index_mut-slot.result.now refl within c.index_mut-slot.ensures.value in
    let t = c.turn-stepped.ensures in (
      subst (λ x. IsDevice x d.key.items c.turn-stepped.new.core.history (set d.slots.items (c.args.actor - 1) c.turn-stepped.new.self) d.passes) (sym t.world) (
          app_kept c.own_entries.ensures.append c.own_entries.ensures.none c.entries_are_own.ensures.other c.measured_stays.ensures.report c.measured_stays.ensures.note c.measuring_stands.ensures.others w d.key.items d.core.history c.turn-stepped.new.core.history d.slots.items d.passes c.args.actor (c.args.actor - 1) slot c.turn-stepped.new.self
          is there c.self.invariant.0 t.rest t.state t.layout t.run (subst IsSetting t.world c.length-length.ensures.setting) (subst (λ x. IsLegal x c.turn-stepped.new.core.history) t.world c.length-length.ensures.legal)),
      c.self.invariant.1 ∙ ap (λ x. x.layout.size) (sym t.world),
      c.self.invariant.2,
      omega (arith, c.self.invariant.3, length-set d.slots.items (c.args.actor - 1) c.turn-stepped.new.self),
    )

pub returns-clause-setup : goal.returns-clause-setup
returns-clause-setup c =
    let d = c.self.inside in
    let count : length d.slots.items ≡ length c.args.self.now.setup.programs = sym (length-map d.slots.items (program_of_slot d.core.world.layout)) ∙ ap (λ x. length x.setup.programs) c.self.view_is in
    let within : c.args.actor - 1 < length d.slots.items = omega (arith, c.requires.0, c.requires.1, count) in
    let is : c.args.actor ≡ suc (c.args.actor - 1) = omega (arith, c.requires.0) in
    let there : slice_get d.slots.items (c.args.actor - 1) ≡ Some c.index_mut-slot.result.now = slice_get_read d.slots.items (length d.slots.items) (c.args.actor - 1) c.index_mut-slot.result.now refl within c.index_mut-slot.ensures.value in
    ap (λ x. setup_kept x d.key.items (set d.slots.items (c.args.actor - 1) c.turn-stepped.new.self) d.passes.challenges.items) c.turn-stepped.ensures.world
    ∙ app_setup d.core.world d.key.items d.core.history d.slots.items d.passes c.args.actor (c.args.actor - 1) is c.index_mut-slot.result.now there c.self.invariant.0 c.turn-stepped.new.self c.turn-stepped.ensures.rest
    ∙ ap (λ x. x.setup) c.self.view_is

pub returns-clause-state : goal.returns-clause-state
returns-clause-state c =
    let d = c.self.inside in
    let count : length d.slots.items ≡ length c.args.self.now.setup.programs = sym (length-map d.slots.items (program_of_slot d.core.world.layout)) ∙ ap (λ x. length x.setup.programs) c.self.view_is in
    let within : c.args.actor - 1 < length d.slots.items = omega (arith, c.requires.0, c.requires.1, count) in
    let is : c.args.actor ≡ suc (c.args.actor - 1) = omega (arith, c.requires.0) in
    let there : slice_get d.slots.items (c.args.actor - 1) ≡ Some c.index_mut-slot.result.now = slice_get_read d.slots.items (length d.slots.items) (c.args.actor - 1) c.index_mut-slot.result.now refl within c.index_mut-slot.ensures.value in
    app_state d.core.world d.key.items d.core.history d.slots.items d.passes c.args.actor (c.args.actor - 1) is c.index_mut-slot.result.now there c.self.invariant.0 c.turn-stepped.new.core.history c.turn-stepped.new.self c.turn-stepped.ensures.state
    ∙ ap (λ x. turn x.setup x.state c.args.actor) c.self.view_is

pub returns-clause-answer : goal.returns-clause-answer
returns-clause-answer c =
    let d = c.self.inside in
    let count : length d.slots.items ≡ length c.args.self.now.setup.programs = sym (length-map d.slots.items (program_of_slot d.core.world.layout)) ∙ ap (λ x. length x.setup.programs) c.self.view_is in
    let within : c.args.actor - 1 < length d.slots.items = omega (arith, c.requires.0, c.requires.1, count) in
    let is : c.args.actor ≡ suc (c.args.actor - 1) = omega (arith, c.requires.0) in
    let there : slice_get d.slots.items (c.args.actor - 1) ≡ Some c.index_mut-slot.result.now = slice_get_read d.slots.items (length d.slots.items) (c.args.actor - 1) c.index_mut-slot.result.now refl within c.index_mut-slot.ensures.value in
    app_answer d.core.world d.key.items d.core.history d.slots.items d.passes c.args.actor (c.args.actor - 1) is c.index_mut-slot.result.now there c.self.invariant.0 c.turn-stepped.result c.turn-stepped.ensures.answer
    ∙ ap (λ x. answer_of x.setup x.state c.args.actor) c.self.view_is
