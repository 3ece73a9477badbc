-- The device and the schedule that are drawn from a seed.
--
-- The draws are made in this order: for each application its address and its count; for each challenge its lead and, in
-- an extended discipline, its hold; for each run of the schedule its actor and its turns.
use Rattle.std.specs.Prelude.{ℕ, ◌+◌, ◌*◌, nat_lt, if◌then◌else◌, List, [], ◌∷◌, codes, map, flat_map, replicate}
use Rattle.std.specs.List.{range_with_len}
use Rattle.history.specs.declared.events.Discipline.{Discipline}
use Rattle.history.specs.declared.events.Discipline.TheVariants.{All, AllExt, Dec, Inc, IncExt}
use Rattle.history.specs.Layout.{Layout}
use Rattle.challenge.specs.declared.Challenge.{Challenge}
use Rattle.chronicle.specs.Settings.{setting_of}
use Rattle.rv_core.specs.Runs.{app_program, started}
use Rattle.schedule_text.specs.declared.reading.Run.{Run}
use Rattle.device.specs.Setups.{Setup}
use Rattle.generated.specs.Draws.{draw}
use Rattle.generated.specs.Applications.{code, zero_padded, program}

-- ---- applications, from number 0 on: the first 16 draws

-- where an application counts: in a block of the attested ones for the first four, and above them for the others
abbrev pub counter_address : ℕ → ℕ → ℕ
counter_address seed k =
    if nat_lt k 4 then 0x80001000 + 256 * draw seed (2 * k + 1) 48 else 0x80004000 + 256 * draw seed (2 * k + 1) 192

-- how far it counts
abbrev pub count_of : ℕ → ℕ → ℕ
count_of seed k = 1000 + draw seed (2 * k + 2) 1000

-- its first instruction, at which its block begins
abbrev pub first_address : ℕ → ℕ
first_address k = 0x80000000 + 256 * k

-- the block that has its instructions
abbrev pub application_block : ℕ → ℕ → List ℕ
application_block seed k = zero_padded 256 (code (program (counter_address seed k) (count_of seed k)))

-- ---- memory: 256 blocks of 256 bytes, of which the first 64 are attested

abbrev pub generated_layout : Layout
generated_layout = record { base = 0x80000000; size = 256; blocks = 256 }

unfoldable pub application_blocks : ℕ → List ℕ
application_blocks seed = flat_map (application_block seed) (range_with_len 0 8)

unfoldable pub image : ℕ → List ℕ
image seed = zero_padded 65536 (application_blocks seed)

-- ---- challenges, one of each discipline: draws 17 to 23

abbrev pub asked : Discipline → ℕ → ℕ → ℕ → Challenge
asked discipline lead hold counter =
    record { discipline = discipline; lead = lead; hold = hold; counter = counter; nonce = replicate 16 counter }

unfoldable pub challenges : ℕ → List Challenge
challenges seed =
    asked All (draw seed 17 100) 0 1
    ∷ asked AllExt (draw seed 18 100) (draw seed 19 100) 2
    ∷ asked Dec (draw seed 20 100) 0 3
    ∷ asked Inc (draw seed 21 100) 0 4
    ∷ asked IncExt (draw seed 22 100) (draw seed 23 100) 5 ∷ []

-- ---- the device

unfoldable pub generated_key : List ℕ
generated_key = codes "gen"

-- it has the eight applications, which begin with no stack and may fetch 20,000 times
unfoldable pub generated_setup : ℕ → Setup
generated_setup seed = record {
  world = setting_of generated_layout (record { first = 0; attested = 64 } ∷ []) (image seed) 400000;
  programs = map (λ k. app_program (started generated_layout (first_address k) 0) 20000) (range_with_len 0 8);
  key = generated_key;
  challenges = challenges seed;
}

-- ---- the schedule, two draws for each run

abbrev pub generated_run : ℕ → ℕ → Run
generated_run seed k = record { actor = draw seed (2 * k + 24) 9; turns = 1 + draw seed (2 * k + 25) 16 }

-- how many runs there are
unfoldable pub run_count : ℕ
run_count = 4000

unfoldable pub generated_schedule : ℕ → List Run
generated_schedule seed = map (generated_run seed) (range_with_len 0 run_count)
