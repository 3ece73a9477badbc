-- What the parts of a generated device are together.
use Rattle.std.proofs.Common.{◌≡◌, ℕ, zero, suc, ◌+◌, ◌<◌, List, [], ◌∷◌, length, map, All, refl, sym, ap, ◌∙◌, arith, true}
use Rattle.std.specs.Prelude.{codes, flat_map, replicate}
use Rattle.std.specs.List.{range_with_len}
use Rattle.std.proofs.lemmas.Bool.{false≢true}
use Rattle.std.proofs.lemmas.List.Elements.{All-nil, All-cons}
use Rattle.history.specs.Attested.{IsRanges}
use Rattle.history.specs.Layout.{IsLayout, IsSetting}
use Rattle.history.specs.Pass.{is_extended}
use Rattle.history.specs.declared.events.Discipline.{Discipline}
use Rattle.history.specs.declared.events.Discipline.TheVariants as discipline
use Rattle.challenge.specs.declared.Challenge.{Challenge}
use Rattle.challenge.specs.Challenges.{IsChallenge}
use Rattle.chronicle.specs.Settings.{setting_of}
use Rattle.loader.specs.declared.placed.Placed.{Placed}
use Rattle.rv_core.specs.Runs.{AppProgram, app_program, started}
use Rattle.device_config.specs.declared.plans.DevicePlan.{DevicePlan}
use Rattle.device.specs.Setups.{programs_at, setup_of}
use Rattle.generated.specs.Draws.{draw}
use Rattle.generated.specs.Generated.{application_block, application_blocks, asked, challenges, first_address, generated_key, generated_run, generated_schedule, generated_setup, generated_layout, image, run_count}
use Rattle.generated.specs.Parts.{IsGeneratedPlan, counting_app}
use Rattle.generated.proofs.NextDraws.{draw_below}

pub layout_fits : IsLayout generated_layout
layout_fits = record {
  block_size = (8, omega arith, omega arith, refl);
  some_block = omega arith;
  few_blocks = omega arith;
  few_bytes = omega arith;
  on_block = refl;
  in_space = omega arith;
}

pub ranges_fit : IsRanges (record { first = 0; attested = 64 } ∷ [])
ranges_fit = record { some = omega arith; few = omega arith; apart = omega arith; low = omega arith }

-- memory with these bytes makes a world
pub world_fits : (bytes : List ℕ) → length bytes ≡ 65536 → All (λ byte. byte < 256) bytes → IsSetting (setting_of generated_layout (record { first = 0; attested = 64 } ∷ []) bytes 400000)
world_fits bytes count small = record {
  layout = layout_fits;
  ranges = ranges_fit;
  inside = omega arith;
  image_length = count;
  image_bytes = small;
  some_entry = omega arith;
  few_entries = omega arith;
}

-- the program of the application that begins at such an address
abbrev pub counting_program : ℕ → AppProgram
counting_program k = app_program (started generated_layout (first_address k) 0) 20000

pub programs_are : (first count : ℕ) → programs_at generated_layout (replicate count counting_app) (map first_address (range_with_len first count)) ≡ map counting_program (range_with_len first count)
programs_are first zero = refl
programs_are first (suc count) = ap (λ more. counting_program first ∷ more) (programs_are (first + 1) count)

pub setup_is : (seed : ℕ) (plan : DevicePlan) (placed : Placed) (key : List ℕ) (admitted : List Challenge)
    → IsGeneratedPlan plan → placed.image ≡ image seed → placed.entries ≡ map first_address (range_with_len 0 8) → key ≡ generated_key → admitted ≡ challenges seed
    → setup_of plan placed key admitted ≡ generated_setup seed
unfolding generated_setup
setup_is seed plan placed key admitted given memory entries right_key admitted_is =
    let programs : programs_at plan.geometry plan.apps placed.entries ≡ map counting_program (range_with_len 0 8) =
    rw (given.geometry, given.apps, entries) (programs_are 0 8) in
    rw (programs, given.geometry, given.ranges, given.cap, memory, right_key, admitted_is) refl

pub program_count : (seed : ℕ) → length (generated_setup seed).programs ≡ 8
unfolding generated_setup
program_count seed = refl

pub key_is : (key : List ℕ) → key ≡ codes "gen" → key ≡ generated_key
unfolding generated_key
key_is key e = e

-- ---- all of a list

pub blocks_are : (seed count : ℕ) → count ≡ 8 → flat_map (application_block seed) (range_with_len 0 count) ≡ application_blocks seed
unfolding application_blocks
blocks_are seed count e = ap (λ n. flat_map (application_block seed) (range_with_len 0 n)) e

pub runs_are : (seed count : ℕ) → count ≡ run_count → map (generated_run seed) (range_with_len 0 count) ≡ generated_schedule seed
unfolding generated_schedule
runs_are seed count e = ap (λ n. map (generated_run seed) (range_with_len 0 n)) e

pub run_count_is : run_count ≡ 4000
unfolding run_count
run_count_is = refl

-- ---- the challenges are valid

unheld_fits : (which : Discipline) (lead counter : ℕ) → lead < 100 → IsChallenge (asked which lead 0 counter)
unheld_fits which lead counter few = record { lead = omega arith; hold = omega arith; held = λ _. refl }

held_fits : (which : Discipline) (lead hold counter : ℕ) → lead < 100 → hold < 100 → is_extended which ≡ true → IsChallenge (asked which lead hold counter)
held_fits which lead hold counter few short extended =
    record { lead = omega arith; hold = omega arith; held = λ not_extended. absurd (false≢true (sym not_extended ∙ extended)) }

pub challenges_fit : (seed : ℕ) → All IsChallenge (challenges seed)
unfolding challenges
challenges_fit seed =
    let small : (place : ℕ) → draw seed place 100 < 100 = λ place. draw_below seed place 100 (omega arith) in
    let all = asked discipline.All (draw seed 17 100) 0 1 in
    let all_ext = asked discipline.AllExt (draw seed 18 100) (draw seed 19 100) 2 in
    let dec = asked discipline.Dec (draw seed 20 100) 0 3 in
    let inc = asked discipline.Inc (draw seed 21 100) 0 4 in
    let inc_ext = asked discipline.IncExt (draw seed 22 100) (draw seed 23 100) 5 in
    All-cons IsChallenge all (all_ext ∷ dec ∷ inc ∷ inc_ext ∷ []) (unheld_fits discipline.All (draw seed 17 100) 1 (small 17))
    (All-cons IsChallenge all_ext (dec ∷ inc ∷ inc_ext ∷ []) (held_fits discipline.AllExt (draw seed 18 100) (draw seed 19 100) 2 (small 18) (small 19) refl)
    (All-cons IsChallenge dec (inc ∷ inc_ext ∷ []) (unheld_fits discipline.Dec (draw seed 20 100) 3 (small 20))
    (All-cons IsChallenge inc (inc_ext ∷ []) (unheld_fits discipline.Inc (draw seed 21 100) 4 (small 21))
    (All-cons IsChallenge inc_ext [] (held_fits discipline.IncExt (draw seed 22 100) (draw seed 23 100) 5 (small 22) (small 23) refl) (All-nil IsChallenge)))))
