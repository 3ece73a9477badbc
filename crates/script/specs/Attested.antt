-- What a script's history and printed tags are worth: the promise of a measurement.
use Rattle.std.specs.Prelude.{◌≡◌, ℕ, ◌+◌, ◌^◌, ◌<◌, false, IsTrue, List, [], ◌∷◌, ◌++◌, length, reverse, Some}
use Rattle.history.specs.declared.events.Entry.{Entry}
use Rattle.history.specs.Layout.{Setting, IsSetting, width_bytes}
use Rattle.history.specs.Memory.{memory_at, attested_bytes}
use Rattle.history.specs.Pass.{Pass, pass_after, start_of, is_extended}
use Rattle.history.specs.Legal.{IsLegal}
use Rattle.history.specs.Instants.{IsInstant, EndsAt, ReleasesAt}
use Rattle.script.specs.declared.steps.Step.{Step}
use Rattle.script.specs.declared.steps.Step.TheVariants.{Store, End, Release}
use Rattle.chronicle.specs.Worlds.{shape_of}
use Rattle.report.specs.Tags.{report_tag, note_tag}
use Rattle.script.specs.Steps.{entries_after, is_full}
use Rattle.script.specs.Measuring.{measured_with, may_come}
use Rattle.script.specs.Printed.{asked_by_pass, nonce_with, tag_at_end, tag_at_release, step_printed, printed}
use Rattle.script.specs.Programs.{Program}

-- each step may come after those before it
abbrev pub MayComeAll : Setting → List Entry → List Step → Type 0
MayComeAll w measured [] = Unit {0}
MayComeAll w measured (step ∷ steps) = IsTrue (may_come w measured step) × MayComeAll w (measured_with w measured step) steps

-- a stored value fits its width
abbrev pub FitsWidth : Step → Type 0
FitsWidth (Store width addr value) = value < 256 ^ width_bytes width
FitsWidth _ = Unit {0}

-- a script that is in the grammar
pub record IsScript (program : Program) : Type 0 where
  pub setting : IsSetting program.setting
  pub steps : MayComeAll program.setting [] program.steps

-- the script's history, in its own order
abbrev pub history_of : Program → List Entry
history_of program = reverse (entries_after program.setting [] program.steps)

-- the nonce of the last Start among these steps, else the one given
abbrev pub nonce_after : List ℕ → List Step → List ℕ
nonce_after nonce [] = nonce
nonce_after nonce (step ∷ steps) = nonce_after (nonce_with nonce step) steps

-- the entries once these first steps of the script are made, the newest first
abbrev pub entries_at : Program → List Step → List Entry
entries_at program before = entries_after program.setting [] before

-- the line of this step, which comes after those, stands in what the script prints
abbrev pub PrintsStep : Program → List Step → Step → Type 0
PrintsStep program before step = (earlier : List ℕ) × (later : List ℕ) × (printed program ≡ earlier ++ step_printed program.setting program.key (nonce_after [] before) (entries_at program before) step ++ later)

-- the tag that End prints at this place is that of a report on the attested memory at each instant of its pass
abbrev pub TagsInstants : Program → List ℕ → List Entry → Pass → Type 0
TagsInstants program nonce past pass =
    (place release : ℕ) → (IsTrue (is_extended pass.discipline) → ReleasesAt (history_of program) pass.discipline pass.counter (start_of pass) release) → IsInstant pass.discipline (start_of pass) (length past + 1) release place
    → tag_at_end program.setting program.key nonce past ≡ report_tag program.key (asked_by_pass pass nonce) (shape_of program.setting) (attested_bytes program.setting (memory_at program.setting (history_of program) place)) (start_of pass) (length past + 1)

-- The history is legal. Where an End finds room, its line is printed, its pass ends at that place, and its tag is that
-- of the attested memory at each of the pass's instants.
pub record IsAttested (program : Program) : Type 0 where
  pub legal : IsLegal program.setting (history_of program)
  pub tags : (before later : List Step) → program.steps ≡ before ++ End ∷ later → is_full program.setting (entries_at program before) ≡ false
      → PrintsStep program before End × (pass : Pass) × (pass_after (entries_at program before) ≡ Some pass)
      × EndsAt (history_of program) pass.discipline pass.counter (start_of pass) (length (entries_at program before) + 1) × TagsInstants program (nonce_after [] before) (entries_at program before) pass

-- What a note says: an End among these steps is printed and ends the pass at its own place, and the note's tag is that
-- of the counter, of the places of Start, End and Release, and of the tag that this End prints.
pub record NotesEnd (program : Program) (before : List Step) (pass : Pass) : Type 0 where
  pub earlier : List Step
  pub between : List Step
  pub steps : before ≡ earlier ++ End ∷ between
  pub room : is_full program.setting (entries_at program earlier) ≡ false
  pub ends : EndsAt (history_of program) pass.discipline pass.counter (start_of pass) (length (entries_at program earlier) + 1)
  pub tag : tag_at_release program.setting program.key (nonce_after [] before) (entries_at program before)
      ≡ note_tag program.key pass.counter (start_of pass) (length (entries_at program earlier) + 1) (length (entries_at program before) + 1) (tag_at_end program.setting program.key (nonce_after [] earlier) (entries_at program earlier))

-- Where a Release finds room, its line is printed, its pass is released at that place, and its tag is that of a note.
pub record IsReleased (program : Program) : Type 0 where
  pub notes : (before later : List Step) → program.steps ≡ before ++ Release ∷ later → is_full program.setting (entries_at program before) ≡ false
      → PrintsStep program before Release × (pass : Pass) × (pass_after (entries_at program before) ≡ Some pass)
      × ReleasesAt (history_of program) pass.discipline pass.counter (start_of pass) (length (entries_at program before) + 1) × NotesEnd program before pass
