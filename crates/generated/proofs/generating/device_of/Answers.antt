-- The parts are those of the generated setup.
use Rattle.std.proofs.Common.{◌≡◌, List, All, IfOk, sym, ap, subst, ◌∙◌}
use Rattle.challenge.specs.declared.Challenge.{Challenge}
use Rattle.challenge.specs.Challenges.{IsChallenge}
use Rattle.loader.specs.declared.placed.Placed.{Placed}
use Rattle.device.specs.Setups.{Setup, setup_of}
use Rattle.generated.specs.Generated.{challenges, generated_setup, image}
use Rattle.generated.proofs.Setups.{challenges_fit, key_is, setup_is}
use Rattle.generated.proofs.generating.device_of.Goals as goal

pub make-requires-clause-challenges : goal.make-requires-clause-challenges
make-requires-clause-challenges c =
    subst (λ (l : List Challenge). All IsChallenge l) (sym c.in_ok-admitted.ensures.items) (challenges_fit c.image_of.new.draws.seed)

pub returns-clause-setup : goal.returns-clause-setup
returns-clause-setup c =
    let seed = c.args.draws.now.seed in
    let placed : Placed = record { image = c.from_vec.result; entries = c.in_ok-entries_of.field-0 } in
    let key = c.in_ok-key.key.items in
    let admitted = c.in_ok-admitted.admitted.items in
    let memory : placed.image ≡ image seed = c.from_vec.ensures ∙ c.in_ok-image_of.ensures.items in
    let asked : admitted ≡ challenges seed = c.in_ok-admitted.ensures.items ∙ ap challenges c.in_ok-image_of.ensures.seed in
    let whole : setup_of c.in_ok-plan.plan placed key admitted ≡ generated_setup seed =
    setup_is seed c.in_ok-plan.plan placed key admitted c.in_ok-plan.ensures memory c.in_ok-entries_of.ensures (key_is key c.in_ok-key.ensures.items) asked in
    subst (λ (s : Setup). IfOk c.make.result (λ device. device.setup ≡ s)) whole c.make.ensures.setup
