-- What a text says, or its first fault.
use Rattle.std.specs.Prelude.{ℕ, ◌+◌, if◌then◌else◌, List, length, Result, Ok, Err}
use Rattle.executable.specs.declared.Program.{Program}
use Rattle.asm_lines.specs.declared.kinds.Kind.TheVariants as kinds
use Rattle.asm_lines.specs.Lines.{source_lines}
use Rattle.rv_asm.specs.Gives.{Spot, located}
use Rattle.sequencing.specs.Results.{◌>>=◌}
use Rattle.rv_asm.specs.First.{Place, start, first_lines}
use Rattle.rv_asm.specs.Second.{nothing, second_lines, finished}

-- without `.entry` the line after the last is at fault
abbrev pub with_labels : List (List ℕ) → Place → Result Program Spot
with_labels lines place =
    if place.has_entry then (do
      output ← second_lines place.labels nothing 1 lines
      Ok (finished output))
    else located (length lines + 1) (Err kinds.Layout)

-- The first fault of the first pass, else the missing `.entry`, else the first fault of the second pass, else the
-- entry and the segments.
unfoldable pub assembled : List ℕ → Result Program Spot
assembled text = do
  place ← first_lines start 1 (source_lines text)
  with_labels (source_lines text) place
