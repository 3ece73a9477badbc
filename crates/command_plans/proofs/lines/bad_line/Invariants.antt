use Rattle.std.proofs.Common.{◌≡◌, ◌∷◌, ◌++◌, drop, string_bytes}
use Rattle.command_plans.specs.Lines.{bad_line, numbers_text}
use Rattle.command_plans.proofs.lines.bad_line.Given as goal

abbrev pub invariant-loop-next : goal.invariant-loop-next
invariant-loop-next l = record { line : string_bytes l.line ++ numbers_text (drop l.next-index l.more) ≡ bad_line l.name l.word (l.fn.number ∷ l.more) }
