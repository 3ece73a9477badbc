-- A line that one walk finds: it has no comment and no CR.
use Rattle.std.proofs.Common.{◌≡◌, ◌==◌, ℕ, ◌+◌, ◌-◌, ◌<◌, Bool, true, false, nat_lt, List, [], ◌∷◌, length, take, drop, get_or, slice_index, Some, refl, ap, sym, ◌∙◌, arith}
use Rattle.std.specs.List.{list_all, position, position_or_len}
use Rattle.std.proofs.lemmas.Bool.Decides.{nat_tests}
use Rattle.std.proofs.lemmas.Option.{cond_some}
use Rattle.std.proofs.lemmas.List.{get_or-take, length-take-le, take_all}
use Rattle.std.proofs.lemmas.List.Splits.{slice_split_first}
use Rattle.std.proofs.lemmas.List.Sums.{position_or_len_is, fails_before_first, list_all-from_AllPass}
use Rattle.text_readers.specs.Lines.{parts_at}
use Rattle.asm_lines.specs.Cuts.{is_text_byte, ends_plain, front_to, trimmed, worded, labelled, parse_line, nothing_said, FirstLineSays}
use Rattle.asm_lines.specs.Lines.{without_cr, source_lines}
use Rattle.asm_lines.proofs.Splits.{lines_of_parts}

text_byte : (b : ℕ) → ends_plain b ≡ false → is_text_byte b ≡ true
text_byte b h = grind (arith, nat_tests)

no_hash : (b : ℕ) → ends_plain b ≡ false → (b == 35) ≡ false
no_hash b h = grind (arith, nat_tests)

no_lf : (b : ℕ) → ends_plain b ≡ false → (b == 10) ≡ false
no_lf b h = grind (arith, nat_tests)

no_cr : (b : ℕ) → ends_plain b ≡ false → (b == 13) ≡ false
no_cr b h = grind (arith, nat_tests)

-- the bytes of the line that ends here
pub record IsPlain (line : List ℕ) : Type 0 where
  pub each : (k d : ℕ) → k < length line → ends_plain (get_or line k d) ≡ false

pub plain_front : (text : List ℕ) (at : ℕ) → position ends_plain text ≡ Some at → (at < length text) × IsPlain (take at text)
plain_front text at h =
    let parts = cond_some (nat_lt (position_or_len ends_plain text) (length text)) (position_or_len ends_plain text) at h in
    let inside : position_or_len ends_plain text < length text = grind (arith, nat_tests) in
    let long : length (take at text) ≡ at = length-take-le at text (omega (arith, inside, parts.1)) in (
      omega (arith, inside, parts.1),
      record {
        each = λ k d small.
            let near : k < at = omega (arith, small, long) in
            ap ends_plain (get_or-take at text k d near) ∙ fails_before_first ends_plain text k d (omega (arith, near, parts.1));
      },
    )

kept_cr : (line : List ℕ) (b : Bool) → (slice_index line (length line - 1) == 13) ≡ b → b ≡ false → without_cr line ≡ line
kept_cr line b e h = rw (e ∙ h) refl

last_stays : (line : List ℕ) → IsPlain line → (slice_index line (length line - 1) == 13) ≡ false
last_stays [] h = refl
last_stays (x ∷ xs) h = no_cr _ (h.each (length (x ∷ xs) - 1) 0 (omega arith))

-- the line is the text's first, where an LF stands behind it
pub plain_first : (text : List ℕ) (at : ℕ) → at < length text → IsPlain (take at text) → get_or text at 0 ≡ 10
    → source_lines text ≡ take at text ∷ source_lines (drop (at + 1) text)
plain_first text at inside plain lf =
    let long : length (take at text) ≡ at = length-take-le at text (omega (arith, inside)) in
    let place : position_or_len (λ b. b == 10) text ≡ at =
    position_or_len_is (λ b. b == 10) text at 0 (omega (arith, inside))
    (λ k near. no_lf _ (ap ends_plain (sym (get_or-take at text k 0 near)) ∙ plain.each k 0 (omega (arith, near, long)))) (λ _. grind (arith, nat_tests, lf)) in
    let split : parts_at 10 text ≡ take at text ∷ parts_at 10 (drop (at + 1) text) = rw place at (slice_split_first (λ b. b == 10) text 0 (omega (arith, place, inside))) in
    lines_of_parts (take at text) text (drop (at + 1) text) split ∙ ap (λ line. line ∷ source_lines (drop (at + 1) text)) (kept_cr (take at text) _ refl (last_stays (take at text) plain))

-- and no comment is cut off it
pub plain_says : (line : List ℕ) → IsPlain line → labelled (trimmed line) ≡ parse_line line
unfolding parse_line
plain_says line plain =
    let all : list_all is_text_byte line ≡ true = list_all-from_AllPass is_text_byte line (λ k d h. text_byte (get_or line k d) (plain.each k d h)) in
    let none : position_or_len (λ b. b == 35) line ≡ length line =
    position_or_len_is (λ b. b == 35) line (length line) 0 (omega arith) (λ k h. no_hash (get_or line k 0) (plain.each k 0 h)) (λ h. absurd (omega (arith, h))) in
    let uncut : front_to (λ b. b == 35) line ≡ line = take_all (position_or_len (λ b. b == 35) line) line (omega (arith, none)) in
    rw (all, uncut) refl

-- nothing is said by nothing
pub nothing_labelled : (text : List ℕ) → length text ≡ 0 → Some nothing_said ≡ labelled text
unfolding labelled worded
nothing_labelled [] h = refl
nothing_labelled (x ∷ xs) h = absurd (omega (arith, h))

nothing_parsed : Some nothing_said ≡ parse_line []
unfolding parse_line labelled worded
nothing_parsed = refl

pub empty_first : (text : List ℕ) → 0 < length text → get_or text 0 0 ≡ 10 → FirstLineSays text (Some nothing_said) (drop 1 text)
empty_first text some lf = record {
  line = [];
  first = plain_first text 0 some (record { each = λ k d h. absurd (omega (arith, h)) }) lf;
  says = nothing_parsed;
}
