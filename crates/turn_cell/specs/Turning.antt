-- The rule of a turn cell. Its table has three words, whether a turn is held, how many entries the history has
-- and whether a thread may sleep, and one slot for the value, in a box. Of the third word the rule says nothing,
-- and nothing of a seat whose range is empty: that is spent.
use Rattle.std.specs.Prelude.{◌≡◌, ◌≢◌, ℕ, ◌<◌, ◌≤◌, Bool, true, false, Option, Some, List, length, slice_index}
use mathlib.Core.Option.{some}
use lib.ListN.{get_elem?}
use Rattle.atomic_table.specs.Table.{State}
use Rattle.history.specs.declared.events.Entry.{Entry}
use Rattle.history.specs.Layout.{Setting}
use Rattle.chronicle.specs.Ports.{OthersFollow}
use Rattle.turn_cell.specs.declared.views.RangeView.{RangeView}
use Rattle.turn_cell.specs.declared.views.TurnStage.{TurnStage}
use Rattle.turn_cell.specs.declared.views.TurnStage.TheVariants.{Outside, Entered, Loaded}
use Rattle.turn_cell.specs.declared.views.SeatView.{SeatView}
use Rattle.std.specs.Box.{box_value}
use Rattle.std.specs.declared.boxed.Box.{Box}
use Rattle.turn_cell.specs.Cells.{AllBelow}

-- what a function of values says of a box: what it says of the value in it
abbrev pub of_boxed : {T Z X : Type 0} → (T → X) → Box T Z → X
of_boxed f boxed = f (box_value boxed)

-- What a seat has seen begins the history, and goes on with entries of actors outside its range. Each actor
-- of the range is owned by that seat, so no two seats share one.
pub record FitsRange (log : List Entry) (actors : ℕ) (owner : ℕ → ℕ) (seat : ℕ) (p : RangeView) : Type 0 where
  pub seen : OthersFollow p.low p.high p.seen log
  pub inside : p.high ≤ actors
  pub owned : (actor : ℕ) → p.low ≤ actor → actor < p.high → owner actor ≡ seat

-- A seat in its turn is the one holder. The value is out from its load of the count on, and from there on it
-- has seen the whole history.
module _ (log : List Entry) (held holder : ℕ) (is_out : Bool) (seat : ℕ) (v : SeatView) where
  abbrev pub IsAt : TurnStage → Type 0
  IsAt Outside = Unit {0}
  IsAt Entered = (held ≡ 1) × (seat ≡ holder) × (v.mine.low < v.mine.high) × (is_out ≡ false)
  IsAt Loaded = (held ≡ 1) × (seat ≡ holder) × (v.mine.low < v.mine.high) × (is_out ≡ true) × (v.mine.seen ≡ log)

-- what the rule says of one seat
pub record Fits (log : List Entry) (place : Setting) (actors : ℕ) (owner : ℕ → ℕ) (held holder : ℕ) (is_out : Bool) (seat : ℕ) (v : SeatView) : Type 0 where
  pub mine : v.mine.low < v.mine.high → FitsRange log actors owner seat v.mine
  pub other : v.other.low < v.other.high → FitsRange log actors owner seat v.other
  pub whole : v.mine.low < v.mine.high → (v.world ≡ place) × (v.actors ≡ actors)
  pub turn : IsAt log held holder is_out seat v v.stage

-- The history is that of the value at home. While the value is out it is the list that the holder has seen.
pub record Turning {T : Type 0} (world : T → Setting) (history : T → List Entry) (s : State (Option T) SeatView) : Type 0 where
  pub log : List Entry
  pub place : Setting
  pub actors : ℕ
  pub owner : ℕ → ℕ
  pub holder : ℕ
  pub is_out : Bool
  pub wide : length s.words ≡ 3
  pub slots : length s.homes ≡ 1
  pub held : slice_index s.words 0 < 2
  pub count : slice_index s.words 1 ≡ length log
  pub free : slice_index s.words 0 ≡ 0 → is_out ≡ false
  pub busy : slice_index s.words 0 ≡ 1 → (v : SeatView) × (get_elem? s.views holder ≡ some v) × (v.stage ≢ Outside)
  pub home : is_out ≡ false → (value : T) × (get_elem? s.homes 0 ≡ some (some (Some value))) × (world value ≡ place) × (history value ≡ log)
  pub below : AllBelow actors log
  pub each_seat : (seat : ℕ) (v : SeatView) → get_elem? s.views seat ≡ some v → Fits log place actors owner (slice_index s.words 0) holder is_out seat v
