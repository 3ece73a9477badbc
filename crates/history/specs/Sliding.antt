-- The sliding-lock fact: what a block's bytes are while a pass runs, and why a digest that is taken block by
-- block is the memory of one instant. Both statements are proved in the crate `chronicle`.
use Rattle.std.specs.Prelude.{◌≡◌, ℕ, ◌<◌, ◌≤◌, Bool, true, false, ◌==◌, IsTrue, if◌then◌else◌, List, [], ◌∷◌, Some}
use Rattle.history.specs.declared.events.Discipline.{Discipline}
use Rattle.history.specs.declared.events.Discipline.TheVariants.{All, AllExt, Dec, Inc, IncExt}
use Rattle.history.specs.declared.events.Act.{Act}
use Rattle.history.specs.declared.events.Act.TheVariants.{Copy}
use Rattle.history.specs.declared.events.Entry.{Entry}
use Rattle.history.specs.Attested.{is_attested, index_of}
use Rattle.history.specs.Layout.{Setting, IsSetting, block_of}
use Rattle.history.specs.Memory.{back, memory_after, memory_at, attested_bytes}
use Rattle.history.specs.Pass.{Pass, pass_after, copied_of, is_extended}
use Rattle.history.specs.Locks.{pass_locks}
use Rattle.history.specs.Legal.{IsLegal}
use Rattle.history.specs.Copied.{copied_bytes}
use Rattle.history.specs.Instants.{IsInstant, EndsAt, ReleasesAt}

-- the block has the same bytes after these entries as after those
abbrev pub SameBlock : Setting → ℕ → List Entry → List Entry → Type 0
SameBlock w block past other = (x : ℕ) → w.layout.base ≤ x → block_of w.layout x ≡ block → memory_after w past x ≡ memory_after w other x

abbrev pub copies_block : ℕ → Act → Bool
copies_block block (Copy other) = block == other
copies_block block _ = false

-- the entries up to and with the last Copy of the block
abbrev pub up_to_copy : ℕ → List Entry → List Entry
up_to_copy block [] = []
up_to_copy block (entry ∷ past) = if copies_block block entry.act then entry ∷ past else up_to_copy block past

-- the discipline locks a block from Start on, at least until its Copy
abbrev pub locks_at_start : Discipline → Bool
locks_at_start All = true
locks_at_start AllExt = true
locks_at_start Dec = true
locks_at_start Inc = false
locks_at_start IncExt = false

-- what a block's bytes are while the pass runs
pub record Slides (w : Setting) (past : List Entry) (pass : Pass) : Type 0 where
  -- a block that is still to be copied has the bytes of Start, where the discipline locks from Start on
  pub waiting : IsTrue (locks_at_start pass.discipline) → (block : ℕ) → IsTrue (is_attested w.ranges block) → copied_of pass ≤ index_of w.ranges block → SameBlock w block past pass.opened
  -- and so it had them at its Copy
  pub begun : IsTrue (locks_at_start pass.discipline) → (block : ℕ) → IsTrue (is_attested w.ranges block) → index_of w.ranges block < copied_of pass → SameBlock w block (up_to_copy block past) pass.opened
  -- a copied block that is still locked has the bytes of its Copy
  pub kept : (block : ℕ) → IsTrue (is_attested w.ranges block) → index_of w.ranges block < copied_of pass → IsTrue (pass_locks pass (index_of w.ranges block)) → SameBlock w block past (up_to_copy block past)

-- it holds at each place of a legal history
abbrev pub LocksSlide : Type 0
LocksSlide = (w : Setting) → IsSetting w → (history : List Entry) → IsLegal w history → (place : ℕ) (pass : Pass) → pass_after (back history place) ≡ Some pass → Slides w (back history place) pass

-- At each instant of a pass, the attested memory is what the pass has copied, block by block.
abbrev pub CopiedIsMemory : Type 0
CopiedIsMemory = (w : Setting) → IsSetting w → (history : List Entry) → IsLegal w history
    → (form : Discipline) (number start end release : ℕ) → EndsAt history form number start end → (IsTrue (is_extended form) → ReleasesAt history form number start release)
    → (place : ℕ) → IsInstant form start end release place
    → attested_bytes w (memory_at w history place) ≡ copied_bytes w (back history end)
