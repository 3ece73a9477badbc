-- The measurer's program as it is made: what is left of it, and the places that are known.
use Rattle.std.specs.Prelude.{ℕ, ◌≤◌, Bool, true, false, if◌then◌else◌, List, [], ◌∷◌, ◌++◌, drop, replicate}
use Rattle.history.specs.declared.events.Act.{Act}
use Rattle.history.specs.declared.events.Act.TheVariants as act
use Rattle.history.specs.Attested.{attested_blocks, total}
use Rattle.challenge.specs.declared.Challenge.{Challenge}
use Rattle.chronicle.specs.declared.worlds.Shape.{Shape}
use Rattle.measure.specs.declared.machine.PassWant.{PassWant}
use Rattle.measure.specs.declared.machine.PassWant.TheVariants as want
use Rattle.measure.specs.declared.machine.Stage.{Stage}
use Rattle.measure.specs.declared.machine.Stage.TheVariants.{Leading, Copying, Holding, Over}
use Rattle.measure.specs.Program.{copies, pass_acts, closing_acts, measuring_program}

-- the acts that are left, and the places that were told of Start and of End; 0 before
pub record Machine : Type 0 where
  pub left : List Act
  pub start : ℕ
  pub end : ℕ

-- before the first step all of the program is left
abbrev pub new_machine : Challenge → Shape → Machine
new_machine c shape = record { left = measuring_program c shape; start = 0; end = 0 }

-- the first act that is left
abbrev pub first_want : List Act → PassWant
first_want [] = want.Over
first_want (act.Tick ∷ left) = want.Tick
first_want (act.Start discipline counter ∷ left) = want.Start
first_want (act.Copy block ∷ left) = want.Copy block
first_want (act.End ∷ left) = want.End
first_want (act.Release ∷ left) = want.Release
first_want (other ∷ left) = want.Over

-- Start comes next; End comes next
abbrev pub is_at_start : List Act → Bool
is_at_start (act.Start discipline counter ∷ left) = true
is_at_start other = false

abbrev pub is_at_end : List Act → Bool
is_at_end (act.End ∷ left) = true
is_at_end other = false

-- the first act that was left is made, at this place
abbrev pub told_machine : Machine → ℕ → Machine
told_machine m place = record {
  left = drop 1 m.left;
  start = if is_at_start m.left then place else m.start;
  end = if is_at_end m.left then place else m.end;
}

-- what is left at a stage
abbrev pub acts_left : Challenge → Shape → Stage → List Act
acts_left c shape (Leading left) = replicate left act.Tick ++ pass_acts c shape ++ closing_acts c
acts_left c shape (Copying made) = copies (drop made (attested_blocks shape.ranges)) ++ (act.End ∷ []) ++ closing_acts c
acts_left c shape (Holding left) = replicate left act.Tick ++ (act.Release ∷ [])
acts_left c shape Over = []

-- no more blocks are copied than are attested
abbrev pub FitsShape : Shape → Stage → Type 0
FitsShape shape (Copying made) = made ≤ total shape.ranges
FitsShape shape other = Unit {0}
