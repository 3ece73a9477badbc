-- By what is kept of each actor, and since all are done.
use Rattle.std.proofs.Common.{◌≡◌, length, map, sym, ap, ◌∙◌, subst}
use Rattle.device.specs.Runs.{IsRunOf, entries_of}
use Rattle.device.specs.Turns.{AllDone}
use Rattle.device.specs.Outcomes.{AreAppEnds, ArePassEnds, HaveWaited, acts_of}
use Rattle.device.specs.Keeping.{end_of_slot, program_of_slot, setup_kept, state_kept}
use Rattle.device.proofs.Devices.{run_so_far}
use Rattle.device.proofs.Ends.{app_ends, consoles, have_waited, pass_ends, room_at_last, run_over}
use Rattle.device.proofs.device.Device.finish.Goals as goal

pub ends_of-apps-requires-clause-consoles : goal.ends_of-apps-requires-clause-consoles
ends_of-apps-requires-clause-consoles c =
    let d = c.self.inside in consoles d.core.world d.key.items d.core.history d.slots.items d.passes c.self.invariant.0

pub passes_at_last-passes-requires-clause-under_way : goal.passes_at_last-passes-requires-clause-under_way
passes_at_last-passes-requires-clause-under_way c =
    let d = c.self.inside in room_at_last d.key.items d.core.world d.core.history d.passes c.self.invariant.0.measurer

pub returns-clause-run : goal.returns-clause-run
returns-clause-run c =
    let d = c.self.inside in
    subst (λ x. IsRunOf x.setup x.state.history) c.self.view_is (
    run_over d.core.world d.key.items d.core.history d.slots.items d.passes c.self.invariant.0 (run_so_far c.own_entries.ensures.append d.core.world d.key.items d.core.history d.slots.items d.passes c.length.ensures.legal c.self.invariant.0)
    (subst (λ x. AllDone x.setup x.state) (sym c.self.view_is) c.requires))

pub returns-clause-apps : goal.returns-clause-apps
returns-clause-apps c =
    let d = c.self.inside in
    let ends : c.from_vec.result ≡ map (end_of_slot (length d.core.history)) d.slots.items = c.from_vec.ensures ∙ c.ends_of-apps.ensures ∙ ap (λ n. map (end_of_slot n) c.self.inside.slots.items) c.length.ensures.value in
    subst (λ x. AreAppEnds x.setup.programs x.state.history c.from_vec.result) c.self.view_is (
    subst (AreAppEnds (map (program_of_slot d.core.world.layout) d.slots.items) d.core.history) (sym ends) (app_ends d.core.world d.key.items d.core.history d.slots.items d.passes c.self.invariant.0))

pub returns-clause-waits : goal.returns-clause-waits
returns-clause-waits c =
    let d = c.self.inside in
    let ends : c.from_vec.result ≡ map (end_of_slot (length d.core.history)) d.slots.items = c.from_vec.ensures ∙ c.ends_of-apps.ensures ∙ ap (λ n. map (end_of_slot n) c.self.inside.slots.items) c.length.ensures.value in
    subst (λ x. HaveWaited x.state.tallies c.from_vec.result) c.self.view_is (
    subst (HaveWaited (state_kept d.core.history d.passes.tally d.slots.items).tallies) (sym ends) (have_waited d.core.history d.passes.tally d.slots.items (length d.core.history)))

pub returns-clause-passes : goal.returns-clause-passes
returns-clause-passes c =
    let d = c.self.inside in
    subst (λ x. ArePassEnds x.setup x.state.history (acts_of (entries_of x.state.history 0)) x.setup.challenges c.from_vec-2.result) c.self.view_is (
    subst (ArePassEnds (setup_kept d.core.world d.key.items d.slots.items d.passes.challenges.items) d.core.history (acts_of (entries_of d.core.history 0)) d.passes.challenges.items) (sym (c.from_vec-2.ensures ∙ c.passes_at_last-passes.ensures)) (
    pass_ends c.own_entries.ensures.append c.measuring_stands.ensures.made d.core.world d.key.items d.core.history d.slots.items d.passes c.self.invariant.0.measurer))
