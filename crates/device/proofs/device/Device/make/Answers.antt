-- The parts of a device before its first turn.
use Rattle.std.proofs.Common.{◌≡◌, ◌≤◌, [], length, map, sym, ap, ap₂, ◌∙◌, subst, All, arith}
use Rattle.std.proofs.lemmas.List.{length-map}
use Rattle.history.specs.Layout.{IsSetting}
use Rattle.chronicle.specs.Settings.{setting_of}
use Rattle.device.specs.Setups.{programs_at}
use Rattle.device.specs.Keeping.{IsDevice, IsFreshSlot, program_of_slot, state_kept, setup_kept}
use Rattle.device.specs.Turns.{first_state}
use Rattle.device.proofs.Beginnings.{begun_device, begun_state, count_programs}
use Rattle.device.proofs.device.Device.make.Goals as goal

pub invariant_of-result : goal.invariant_of-result
invariant_of-result c =
    let w = c.in-Some.world in
    let slots = c.in_ok-slots.slots.items in
    let count : length c.in_ok-slots.slots.items ≡ length (programs_at c.args.plan.now.geometry c.args.plan.now.apps c.args.placed.entries) =
    sym (length-map c.in_ok-slots.slots.items (program_of_slot c.args.plan.now.geometry)) ∙ ap length c.in_ok-slots.ensures.programs ∙ ap₂ (λ a e. length (programs_at c.args.plan.now.geometry a e)) c.as_slice.ensures c.as_slice-2.ensures in
    let all : length (programs_at c.args.plan.now.geometry c.args.plan.now.apps c.args.placed.entries) ≡ length c.args.plan.now.apps = count_programs c.args.plan.now.geometry c.args.plan.now.apps c.args.placed.entries c.requires.entries in
    let layout : c.in-Some.world.layout ≡ c.args.plan.now.geometry = ap (λ x. x.layout) c.in-Some.ensures.1 in (
      subst (λ x. IsDevice x c.args.key.items c.in_ok-core.core.history c.in_ok-slots.slots.items c.in_ok-passes.passes) (sym c.in_ok-core.ensures.world) (
          subst (λ h. IsDevice c.in-Some.world c.args.key.items h c.in_ok-slots.slots.items c.in_ok-passes.passes) (sym c.in_ok-core.ensures.empty) (
          begun_device w c.args.key.items slots c.in_ok-passes.passes (omega (arith, count, all, c.requires.apps.0)) (omega (arith, count, all, c.requires.apps.1))
          (subst (λ l. All (IsFreshSlot l) c.in_ok-slots.slots.items) (sym layout) c.in_ok-slots.ensures.fresh) (c.in_ok-passes.ensures.measuring c.args.key.items w (subst IsSetting (sym c.in-Some.ensures.1) c.in-Some.ensures.0)))),
      omega (arith, c.in_ok-buffer.buffer.ok.0, c.in_ok-buffer.ensures.len, c.size.ensures.value, ap (λ l. l.size) layout, ap (λ x. x.layout.size) c.in_ok-core.ensures.world),
      c.in_ok-apps.ensures.items,
      omega (arith, c.in_ok-apps.ensures.capacity, c.len.ensures, c.in_ok-slots.slots.ok.0),
    )

pub returns-clause-state : goal.returns-clause-state
returns-clause-state c =
    begun_state c.in_ok-core.core.world c.args.key.items c.in_ok-slots.slots.items c.in_ok-passes.passes.challenges.items c.in_ok-core.core.history c.in_ok-passes.passes.tally c.in_ok-core.ensures.empty c.in_ok-passes.ensures.tally
    (subst (λ l. All (IsFreshSlot l) c.in_ok-slots.slots.items) (sym (ap (λ x. x.layout) c.in_ok-core.ensures.world ∙ ap (λ x. x.layout) c.in-Some.ensures.1)) c.in_ok-slots.ensures.fresh)
