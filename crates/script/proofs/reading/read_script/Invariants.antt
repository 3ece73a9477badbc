use Rattle.std.proofs.Common.{◌≡◌, ◌+◌, ◌≤◌, length}
use Rattle.text_readers.specs.Lines.{lines_of}
use Rattle.script.specs.Grammar.{program_of}
use Rattle.script.specs.Gives.{IsDraft, rest_of}
use Rattle.script.proofs.reading.read_script.Given as goal

abbrev pub invariant-loop-line : goal.invariant-loop-line
invariant-loop-line l =
    (rest_of l.draft l.number (lines_of l.rest) ≡ program_of l.text) × IsDraft l.draft × (1 ≤ l.number) × (l.number + length l.rest ≤ length l.text + 1)

abbrev pub decreases-loop-line : goal.decreases-loop-line
decreases-loop-line l = length l.rest
