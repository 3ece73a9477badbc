use Rattle.std.proofs.Common.{◌≡◌, ◌++◌, map, drop}
use Rattle.trace.specs.Text.{text_of_lines, entry_text}
use Rattle.trace.proofs.lines.put_entries.Given as goal

abbrev pub invariant-loop-entry : goal.invariant-loop-entry
invariant-loop-entry l = l.out.items ++ text_of_lines (map entry_text (drop l.entry-index l.entries)) ≡ l.fn.out.items ++ text_of_lines (map entry_text l.entries)
