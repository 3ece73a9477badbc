-- The lines of an assembler text.
use Rattle.std.specs.Prelude.{ℕ, ◌-◌, ◌==◌, if◌then◌else◌, List, [], ◌∷◌, length, take, slice_index}
use Rattle.text_readers.specs.Lines.{parts_at}

-- one CR (13) at the end of a line is passed over
abbrev pub without_cr : List ℕ → List ℕ
without_cr line = if slice_index line (length line - 1) == 13 then take (length line - 1) line else line

-- Each part but the last was ended by an LF. The last is a line where it has a byte, and its CR stands.
abbrev pub ended_lines : List (List ℕ) → List (List ℕ)
ended_lines [] = []
ended_lines (part ∷ []) = if length part == 0 then [] else part ∷ []
ended_lines (part ∷ next ∷ more) = without_cr part ∷ ended_lines (next ∷ more)

-- the lines of a text, each ended by an LF (10), which the last one may lack
abbrev pub source_lines : List ℕ → List (List ℕ)
source_lines text = ended_lines (parts_at 10 text)
