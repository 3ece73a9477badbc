use Rattle.std.proofs.Common.{◌≡◌, ◌++◌, ◌≤◌, length, All}
use Rattle.trace.specs.Text.{entries_text}
use Rattle.trace.specs.Printable.{IsPrintable}
use Rattle.trace.proofs.text_reading.read_entries.Given as goal

abbrev pub invariant-loop-entry : goal.invariant-loop-entry
invariant-loop-entry l = record {
  spelled : l.text ≡ entries_text l.entries.items ++ l.left;
  printable : All IsPrintable l.entries.items;
  few : length l.entries.items ≤ 4000000;
}

abbrev pub decreases-loop-entry : goal.decreases-loop-entry
decreases-loop-entry l = length l.left
