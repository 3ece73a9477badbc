use Rattle.std.proofs.Common.{All, take}
use Rattle.trace.specs.Printable.{IsPrintable}
use Rattle.trace.proofs.writing.are_printable.Given as goal

abbrev pub invariant-loop-entry : goal.invariant-loop-entry
invariant-loop-entry l = All IsPrintable (take l.entry-index l.entries)
