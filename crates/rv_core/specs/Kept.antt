-- Serves private functions alone: what a core keeps of the instruction that it has fetched.
use Rattle.std.specs.Prelude.{◌≡◌, ℕ, ◌%◌, ◌^◌, ◌<◌, ◌≤◌, true, Bool, if◌then◌else◌, slice_index, Option, Some, None}
use Rattle.history.specs.declared.events.Width.{Width}
use Rattle.history.specs.Layout.{Layout, width_bytes, fits, is_aligned}
use Rattle.rv_core.specs.declared.waits.TrapKind.TheVariants.{LoadAccess, LoadMisaligned, StoreAccess, StoreMisaligned}
use Rattle.rv_core.specs.declared.waits.Ending.TheVariants.{Trap}
use Rattle.rv_core.specs.declared.waits.CoreWant.TheVariants.{Ended}
use Rattle.rv_core.specs.declared.waits.Phase.{Phase}
use Rattle.rv_core.specs.declared.waits.Phase.TheVariants.{Fetching, Loading, Storing, Over}
use Rattle.rv_core.specs.declared.waits.Effect.TheVariants.{Loads, Stores}
use Rattle.rv_core.specs.Effects.{effect_of}
use Rattle.rv_core.specs.Runs.{CoreState, asked_by_word, console_bytes}

-- the word whose instruction isn't over
abbrev pub fetched_in : Phase → ℕ → Option ℕ
fetched_in Fetching word = None
fetched_in (Loading width is_signed addr d) word = Some word
fetched_in (Storing width addr value) word = Some word
fetched_in (Over ending) word = Some word

-- the phase is what the word of the last fetch asks
abbrev pub KeepsPhase : CoreState → ℕ → Phase → Type 0
KeepsPhase core word Fetching = Unit {0}
KeepsPhase core word (Loading width is_signed addr d) =
    (effect_of word core.registers core.pc ≡ Loads width is_signed addr d)
    × (is_aligned addr width ≡ true) × (fits core.layout addr width ≡ true) × (d < 32)
KeepsPhase core word (Storing width addr value) =
    (effect_of word core.registers core.pc ≡ Stores width addr value)
    × (is_aligned addr width ≡ true) × (fits core.layout addr width ≡ true) × (value < 256 ^ width_bytes width)
KeepsPhase core word (Over ending) = asked_by_word core word ≡ Some (Ended ending)

-- the phase of a load and of a store: a trap where the address isn't divisible by the width, else where it lies outside
abbrev pub load_phase : Layout → ℕ → Width → Bool → ℕ → ℕ → Phase
load_phase layout pc width is_signed addr d =
    if is_aligned addr width
    then (if fits layout addr width then Loading width is_signed addr d else Over (Trap LoadAccess pc))
    else Over (Trap LoadMisaligned pc)

abbrev pub store_phase : Layout → ℕ → Width → ℕ → ℕ → Phase
store_phase layout pc width addr value =
    if is_aligned addr width
    then (if fits layout addr width then Storing width addr value else Over (Trap StoreAccess pc))
    else Over (Trap StoreMisaligned pc)

-- x0 is 0, the pc is on a word, and the console has room for what it holds
pub record IsSound (core : CoreState) (count word : ℕ) (phase : Phase) : Type 0 where
  pub zero : slice_index core.registers 0 ≡ 0
  pub on_word : core.pc % 4 ≡ 0
  pub room : count ≤ console_bytes
  pub keeps : KeepsPhase core word phase
