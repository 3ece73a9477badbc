-- How many operands a text has: one more than commas.
use Rattle.std.proofs.Common.{◌≡◌, ◌==◌, ℕ, ◌+◌, List, length, sym, ◌∙◌}
use Rattle.std.specs.List.{slice_split, count_by}
use Rattle.std.proofs.lemmas.List.{length-map}
use Rattle.std.proofs.lemmas.List.Splits.{length-slice_split}
use Rattle.asm_lines.specs.Cuts.{trimmed}
use Rattle.asm_lines.specs.Operands.{operand_parts}

pub length-operand_parts : (text : List ℕ) → length (operand_parts text) ≡ count_by (λ byte. byte == 44) text + 1
length-operand_parts text = length-map (slice_split (λ byte. byte == 44) text) trimmed ∙ length-slice_split (λ byte. byte == 44) text

pub parts_counted : (text : List ℕ) → count_by (λ byte. byte == 44) text + 1 ≡ length (operand_parts text)
parts_counted text = sym (length-operand_parts text)
