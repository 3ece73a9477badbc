use Rattle.std.proofs.Common.{sym, not}
use Rattle.asm_lines.specs.Cuts.{is_name_byte}
use Rattle.asm_lines.proofs.Symbols.{none_stops}
use Rattle.asm_lines.proofs.cuts.name_end.Goals as goal

pub returns-in-None-clause-place : goal.returns-in-None-clause-place
returns-in-None-clause-place c = none_stops (λ byte. not (is_name_byte byte)) c.args.text.now (sym c.in-None.ensures)
