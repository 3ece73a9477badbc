-- The lines of a text by the parts between its LFs, and how many operands a text has at least.
use Rattle.std.proofs.Common.{◌≡◌, ◌==◌, ℕ, ◌-◌, ◌<◌, List, [], ◌∷◌, length, take, drop, refl, ap, ◌∙◌, arith}
use Rattle.std.specs.List.{slice_split}
use Rattle.std.proofs.lemmas.List.{length-map}
use Rattle.std.proofs.lemmas.List.Splits.{length-slice_split}
use Rattle.std.proofs.lemmas.Bool.Decides.{nat_tests}
use Rattle.text_readers.specs.Lines.{parts_at}
use Rattle.asm_lines.specs.Cuts.{trimmed}
use Rattle.asm_lines.specs.Operands.{operand_parts}
use Rattle.asm_lines.specs.Lines.{source_lines, ended_lines, without_cr}

ended_lines_more : (line : List ℕ) (parts : List (List ℕ)) → 0 < length parts → ended_lines (line ∷ parts) ≡ without_cr line ∷ ended_lines parts
ended_lines_more line [] some = absurd (omega (arith, some))
ended_lines_more line (part ∷ parts) some = refl

-- where a text is split at its first line's end, that line is its first
pub lines_of_parts : (line text rest : List ℕ) → parts_at 10 text ≡ line ∷ parts_at 10 rest → source_lines text ≡ without_cr line ∷ source_lines rest
lines_of_parts line text rest h =
    ap ended_lines h ∙ ended_lines_more line (parts_at 10 rest) (omega (arith, length-slice_split (λ b. b == 10) rest))

one_part : (part : List ℕ) → 0 < length part → ended_lines (part ∷ []) ≡ part ∷ []
one_part part some = grind (arith, nat_tests)

-- a text with no line's end is one line
pub lines_of_one : (text : List ℕ) → 0 < length text → parts_at 10 text ≡ text ∷ [] → source_lines text ≡ text ∷ []
lines_of_one text some h = ap ended_lines h ∙ one_part text some

-- nothing stands after the end
pub nothing_after : (xs : List ℕ) → take (length xs - length xs) (drop (length xs) xs) ≡ []
nothing_after xs = let none : length xs - length xs ≡ 0 = omega arith in rw none refl

-- a text has at least one operand
pub some_parts : (text : List ℕ) → 0 < length (operand_parts text)
some_parts text = omega (arith, length-map (slice_split (λ byte. byte == 44) text) trimmed, length-slice_split (λ byte. byte == 44) text)
