use Rattle.std.proofs.Common.{◌≡◌, ◌+◌, ◌++◌, ◌≤◌, length}
use Rattle.asm_lines.specs.Lines.{source_lines}
use Rattle.rv_asm.specs.First.{start, first_pass_place, first_lines}
use Rattle.rv_asm.specs.Kept.{kept_orders, kept_from}
use Rattle.rv_asm.proofs.first.first_pass.Given as goal

abbrev pub invariant-lines : goal.invariant-lines
invariant-lines l = record {
  read : first_lines (first_pass_place l.place) l.number (source_lines l.rest) ≡ first_lines start 1 (source_lines l.text);
  kept : kept_orders l.kept.items ++ kept_from (first_pass_place l.place) l.number (source_lines l.rest) ≡ kept_from start 1 (source_lines l.text);
  count : l.number + length (source_lines l.rest) ≡ length (source_lines l.text) + 1;
  fits : l.number + length l.rest ≤ length l.text + 1;
}

abbrev pub decreases-lines : goal.decreases-lines
decreases-lines l = length l.rest
