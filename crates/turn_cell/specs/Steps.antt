-- For private functions alone: what each step on the table tells the seat that makes it. Before and after are the seat
-- with its slots, and found is the number that stood in the word.
use Rattle.std.specs.Prelude.{◌≡◌, ◌≢◌, ℕ, Option, Some, List, ◌∷◌, length}
use mathlib.Core.Option.{some}
use Rattle.atomic_table.specs.Table.{Me, Step, rest}
use Rattle.history.specs.declared.events.Entry.{Entry}
use Rattle.history.specs.Layout.{Setting}
use Rattle.chronicle.specs.Ports.{OthersFollow}
use Rattle.turn_cell.specs.declared.views.TurnStage.TheVariants.{Outside, Entered, Loaded}
use Rattle.turn_cell.specs.declared.views.SeatView.{SeatView}
use Rattle.turn_cell.specs.Cells.{longer_list}
use Rattle.turn_cell.specs.SeatViews.{staged, seeing, merged}

-- a seat, and the slots that it holds
abbrev pub Seated : Type 0 → Type 0
Seated T = Me (Option T) SeatView

module _ {T : Type 0} where
  -- compare and exchange on the held word: where it was 0, the turn is taken
  abbrev pub takes_turn : Step (Option T) → Seated T → ℕ → Seated T → Type 0
  takes_turn st before found after = (found ≡ 0 → after ≡ (staged before.0 Entered, before.1)) × (found ≢ 0 → after ≡ before)

  -- the load of the count by the holder: the value is its own now, and it has seen the value's history
  pub record Loads (world : T → Setting) (history : T → List Entry) (before : Seated T) (found : ℕ) (after : Seated T) : Type 0 where
    pub value : T
    pub seat : after ≡ (seeing before.0 (history value) Loaded, (0, Some value) ∷ before.1)
    pub same_world : world value ≡ before.0.world
    pub others : OthersFollow before.0.mine.low before.0.mine.high before.0.mine.seen (history value)
    pub count : found ≡ length (history value)

  abbrev pub loads_value : (T → Setting) → (T → List Entry) → Step (Option T) → Seated T → ℕ → Seated T → Type 0
  loads_value world history st before found after = Loads world history before found after

  -- the count is raised: the history is now that of the value that the step shows
  abbrev pub raises_count : (T → List Entry) → Step (Option T) → Seated T → ℕ → Seated T → Type 0
  raises_count history st before found after = (value : T) → st.said ≡ some (Some value) → after ≡ (seeing before.0 (history value) Loaded, before.1)

  -- the held word and the slot are given back
  abbrev pub gives_turn : Step (Option T) → Seated T → ℕ → Seated T → Type 0
  gives_turn st before found after = after ≡ (staged before.0 Outside, rest before.1)

  -- a store to the word of sleepers: the seat knows what it knew
  abbrev pub keeps_knowledge : Step (Option T) → Seated T → ℕ → Seated T → Type 0
  keeps_knowledge st before found after = after ≡ before

  -- a load outside a turn, after two seats were joined: of the two lists that were seen one begins the other
  pub record Settles (before after : Seated T) : Type 0 where
    pub seat : after ≡ (merged before.0, before.1)
    pub mine : OthersFollow before.0.mine.low before.0.mine.high before.0.mine.seen (longer_list before.0.mine.seen before.0.other.seen)
    pub other : OthersFollow before.0.other.low before.0.other.high before.0.other.seen (longer_list before.0.mine.seen before.0.other.seen)

  abbrev pub settles_parts : Step (Option T) → Seated T → ℕ → Seated T → Type 0
  settles_parts st before found after = Settles before after
