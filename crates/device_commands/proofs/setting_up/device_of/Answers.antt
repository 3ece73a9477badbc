use Rattle.std.proofs.Common.{ℕ, ◌<◌, ◌∷◌, List, All, length, sym, ap, ◌∙◌, subst}
use Rattle.std.specs.List.Sorted.{IsStrictlyIncreasing}
use Rattle.challenge.specs.declared.Challenge.{Challenge}
use Rattle.challenge.specs.Challenges.{IsChallenge}
use Rattle.device_inputs.specs.Admissions.{counters}
use Rattle.device.specs.Setups.{Setup}
use Rattle.device_commands.proofs.Comes.{if_ok}
use Rattle.device_commands.proofs.RunSetups.{programs_count, setup_stands}
use Rattle.device_commands.proofs.setting_up.device_of.Goals as goal

pub make-requires-clause-world : goal.make-requires-clause-world
make-requires-clause-world c =
    let plan = c.args.plan.now in
    let admitted = c.in_ok-admitted.admitted.items in
    let bytes = subst (λ (l : List ℕ). All (λ byte. byte < 256) l) c.as_slice.ensures c.bytes_fit.ensures in
    let valid = subst (λ (l : List Challenge). All IsChallenge l) (sym c.in_ok-admitted.ensures) c.requires.valid in
    let rising = subst (λ (l : List Challenge). IsStrictlyIncreasing (plan.last ∷ counters l)) (sym c.in_ok-admitted.ensures) c.requires.rising in
    (setup_stands plan c.args.placed c.in_ok-key.key.items admitted c.requires.plan c.requires.image bytes c.requires.entries valid rising).world

pub returns-clause-programs : goal.returns-clause-programs
returns-clause-programs c =
    let plan = c.args.plan.now in
    if_ok c.make.result _ _ (λ device is. ap (λ (s : Setup). length s.programs) is ∙ programs_count plan.geometry plan.apps c.args.placed.entries c.requires.entries) c.make.ensures.setup
