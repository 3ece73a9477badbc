-- The measurer's program: what it does for a challenge, step by step.
use Rattle.std.specs.Prelude.{◌≡◌, ℕ, if◌then◌else◌, IsTrue, List, [], ◌∷◌, ◌++◌, length, map, replicate, reverse, flat_map}
use Rattle.history.specs.declared.events.Act.{Act}
use Rattle.history.specs.declared.events.Act.TheVariants.{Start, Copy, End, Tick, Release}
use Rattle.history.specs.declared.events.Entry.{Entry}
use Rattle.history.specs.Attested.{attested_blocks}
use Rattle.history.specs.Layout.{Setting}
use Rattle.history.specs.Memory.{own}
use Rattle.history.specs.Pass.{is_extended, pass_after}
use Rattle.history.specs.Legal.{in_order}
use Rattle.history.specs.declared.events.Discipline.{Discipline}
use Rattle.challenge.specs.declared.Challenge.{Challenge}
use Rattle.chronicle.specs.declared.worlds.Shape.{Shape}
use Rattle.chronicle.specs.Ports.{entry_by}

-- a Copy of each of these blocks
abbrev pub copies : List ℕ → List Act
copies blocks = map Copy blocks

-- the pass: Start, a Copy of each attested block in ascending order, End
abbrev pub pass_acts : Challenge → Shape → List Act
pass_acts c shape = (Start c.discipline c.counter ∷ []) ++ copies (attested_blocks shape.ranges) ++ (End ∷ [])

-- what comes after End: in an extended discipline the Ticks to hold for, and Release
abbrev pub closing_acts : Challenge → List Act
closing_acts c = if is_extended c.discipline then replicate c.hold Tick ++ (Release ∷ []) else []

-- the whole of it: the Ticks to lead with, the pass, and what comes after
abbrev pub measuring_program : Challenge → Shape → List Act
measuring_program c shape = replicate c.lead Tick ++ pass_acts c shape ++ closing_acts c

-- the programs of these challenges, one after the other
abbrev pub measuring_programs : List Challenge → Shape → List Act
measuring_programs challenges shape = flat_map (λ c. measuring_program c shape) challenges

-- no pass is open after these entries: any Start is in order
abbrev pub MayStart : Setting → List Entry → Type 0
MayStart w history = (discipline : Discipline) (counter : ℕ) → IsTrue (in_order w (pass_after (reverse history)) (Start discipline counter))

-- From one list of entries to a longer one, the measurer has made exactly these acts. What others made stands
-- between them as it may.
pub record HasMade (old new : List Entry) (acts : List Act) : Type 0 where
  pub rest : List Entry
  pub whole : new ≡ old ++ rest
  pub own : own rest 0 1 ≡ map (entry_by 0) acts

-- The measurer met a full history: it has made the first of the program's acts, and has at least one more to make.
pub record IsCut (w : Setting) (old new : List Entry) (program : List Act) (place : ℕ) (made : List Act) : Type 0 where
  pub next : Act
  pub missed : List Act
  pub whole : program ≡ made ++ next ∷ missed
  pub entries : HasMade old new made
  pub full : length new ≡ w.cap
  pub at : place ≡ w.cap
