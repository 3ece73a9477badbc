-- The files that a run reads give a setup that a device may have.
use Rattle.std.proofs.Common.{◌≡◌, ℕ, suc, ◌+◌, ◌%◌, ◌<◌, ◌≤◌, true, List, [], ◌∷◌, length, All, refl, sym, ap, ◌∙◌, subst, arith}
use Rattle.std.specs.Prelude.{slice_index}
use Rattle.std.specs.List.Sorted.{IsStrictlyIncreasing}
use Rattle.std.proofs.lemmas.Bool.{and_parts, eqb-true}
use Rattle.std.proofs.lemmas.List.Elements.{All-nil, All-cons, All-head, All-tail}
use Rattle.history.specs.declared.events.Width.TheVariants.{Word}
use Rattle.history.specs.Layout.{Layout, byte_count, fits, is_aligned}
use Rattle.challenge.specs.declared.Challenge.{Challenge}
use Rattle.challenge.specs.Challenges.{IsChallenge}
use Rattle.rv_core.specs.Runs.{AppProgram}
use Rattle.loader.specs.declared.placed.Placed.{Placed}
use Rattle.loader.specs.Placing.{is_entry}
use Rattle.device_config.specs.declared.plans.AppPlan.{AppPlan}
use Rattle.device_config.specs.declared.plans.DevicePlan.{DevicePlan}
use Rattle.device_config.specs.Plans.{IsDevicePlan}
use Rattle.device_inputs.specs.Admissions.{counters}
use Rattle.device.specs.Setups.{IsSetup, Rise, program_of_app, programs_at, setup_of}

pub programs_count : (layout : Layout) (apps : List AppPlan) (entries : List ℕ) → length entries ≡ length apps → length (programs_at layout apps entries) ≡ length apps
programs_count layout [] entries same = refl
programs_count layout (app ∷ apps) [] same = absurd (omega (arith, same))
programs_count layout (app ∷ apps) (entry ∷ entries) same = let h = programs_count layout apps entries (omega (arith, same)) in omega (arith, h)

layouts_kept : (layout : Layout) (apps : List AppPlan) (entries : List ℕ) → All (λ program. program.core.layout ≡ layout) (programs_at layout apps entries)
layouts_kept layout [] entries = All-nil (λ (program : AppProgram). program.core.layout ≡ layout)
layouts_kept layout (app ∷ apps) [] = All-nil (λ (program : AppProgram). program.core.layout ≡ layout)
layouts_kept layout (app ∷ apps) (entry ∷ entries) =
    All-cons (λ (program : AppProgram). program.core.layout ≡ layout) (program_of_app layout app entry) (programs_at layout apps entries) refl (layouts_kept layout apps entries)

tail_rises : (a : ℕ) (xs : List ℕ) → IsStrictlyIncreasing (a ∷ xs) → IsStrictlyIncreasing xs
tail_rises a xs rises k below =
    let at = rises (suc k) (omega (arith, below)) in
    let next : suc k + 1 ≡ suc (k + 1) = omega arith in
    subst (λ (n : ℕ). slice_index xs k < slice_index (a ∷ xs) n) next at

first_rises : (a b : ℕ) (xs : List ℕ) → IsStrictlyIncreasing (a ∷ b ∷ xs) → a < b
first_rises a b xs rises = rises 0 (omega arith)

counters_rise : (last : ℕ) (challenges : List Challenge) → IsStrictlyIncreasing (last ∷ counters challenges) → Rise last challenges
counters_rise last [] rises = tt
counters_rise last (c ∷ more) rises = (first_rises last c.counter (counters more) rises, counters_rise c.counter more (tail_rises last (c.counter ∷ counters more) rises))

rise_from_zero : (last : ℕ) (challenges : List Challenge) → Rise last challenges → Rise 0 challenges
rise_from_zero last [] rise = tt
rise_from_zero last (c ∷ more) rise = (omega (arith, rise.0), rise.1)

pub setup_stands : (plan : DevicePlan) (placed : Placed) (key : List ℕ) (challenges : List Challenge) → IsDevicePlan plan → length placed.image ≡ byte_count plan.geometry
    → All (λ byte. byte < 256) placed.image → length placed.entries ≡ length plan.apps → All IsChallenge challenges → IsStrictlyIncreasing (plan.last ∷ counters challenges)
    → IsSetup (setup_of plan placed key challenges)
setup_stands plan placed key challenges is long bytes count valid rises =
    let programs : length (programs_at plan.geometry plan.apps placed.entries) ≡ length plan.apps = programs_count plan.geometry plan.apps placed.entries count in
    record {
      world = record {
        layout = is.layout;
        ranges = is.ranges;
        inside = is.ranges_inside;
        image_length = long;
        image_bytes = bytes;
        some_entry = omega (arith, is.some_entries);
        few_entries = is.most_entries;
      };
      some_program = omega (arith, programs, is.some_app);
      few_programs = omega (arith, programs, is.few_apps);
      layouts = layouts_kept plan.geometry plan.apps placed.entries;
      challenges = valid;
      rise = rise_from_zero plan.last challenges (counters_rise plan.last challenges rises);
    }

pub entries_aligned : (layout : Layout) (entries : List ℕ) → All (λ entry. is_entry layout entry ≡ true) entries → All (λ entry. entry % 4 ≡ 0) entries
entries_aligned layout [] all = All-nil (λ (entry : ℕ). entry % 4 ≡ 0)
entries_aligned layout (entry ∷ entries) all =
    let here = All-head (λ (e : ℕ). is_entry layout e ≡ true) entry entries all in
    let aligned : entry % 4 ≡ 0 = eqb-true (entry % 4) 0 (and_parts (is_aligned entry Word) (fits layout entry Word) here).0 in
    All-cons (λ (e : ℕ). e % 4 ≡ 0) entry entries aligned (entries_aligned layout entries (All-tail (λ (e : ℕ). is_entry layout e ≡ true) entry entries all))
