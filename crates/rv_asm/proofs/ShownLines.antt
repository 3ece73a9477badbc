-- A text of one shown statement, line by line.
use Rattle.std.proofs.Common.{◌≡◌, ◌==◌, ℕ, ◌<◌, true, false, not, List, [], ◌∷◌, ◌++◌, length, length-append, Option, Some, Ok, refl, ap, ◌∙◌, arith, codes}
use Rattle.std.specs.List.{list_all}
use Rattle.std.proofs.lemmas.Bool.{and_parts}
use Rattle.std.proofs.lemmas.Bool.Decides.{nat_tests}
use Rattle.std.specs.Int.{w32, to_le_bytes}
use Rattle.rv_decode.specs.declared.instruction.Instr.{Instr}
use Rattle.rv_decode.specs.Words.{word_of}
use Rattle.asm_lines.specs.Lines.{source_lines}
use Rattle.asm_lines.specs.Cuts.{StatementWords, is_text_byte, is_blank, is_symbol, trim_front, trim_end, trimmed, before_trimmed, worded, labelled, parse_line}
use Rattle.asm_lines.specs.Numbers.{spelled}
use Rattle.asm_lines.specs.Operands.{number_operand, label_operand}
use Rattle.text_readers.specs.Numbers.{plain_decimal, digits_number}
use Rattle.asm_statements.specs.Forms.{statement_form, ternary_of, binary_of, imm_named, branch_named, reg_named, shift_named, mul_named, load_named, store_named, zero_branch_named, binary_named, unary_named, bare_named, cell_named}
use Rattle.asm_statements.specs.Orders.{Plain, with_one, order_in}
use Rattle.rv_asm.specs.Labels.{Addresses, no_labels, with_address}
use Rattle.rv_asm.specs.First.{Place, start, with_line, first_line}
use Rattle.rv_asm.specs.Coded.{resolved}
use Rattle.rv_asm.specs.Second.{Output, nothing, emitted_at, second_line}
use Rattle.rv_asm.specs.Assembled.{assembled}
use Rattle.rv_asm.specs.Shown.{one_statement, one_word_program}
use Rattle.rv_asm.proofs.Plain.{plain, shown, all_weaker, all_append, plain_shown, shown_text, shown_no_end, shown_no_comment, plain_no_blank, front_whole, front_first, behind_first, has_first, trim_end_append, split_none, before_some, not_true}

-- what stands behind a shown statement's name
pub record IsRest (rest : List ℕ) : Type 0 where
  pub some : 0 < length rest
  pub shown_all : list_all shown rest ≡ true
  pub front : trim_front rest ≡ rest
  pub end : trim_end rest ≡ rest

-- ---- the line, cut

pub trim_front_append : (xs ys : List ℕ) → 0 < length xs → list_all plain xs ≡ true → trim_front (xs ++ ys) ≡ xs ++ ys
trim_front_append [] ys some h = absurd (omega (arith, some))
trim_front_append (x ∷ xs) ys some h =
    let parts = and_parts (plain x) (list_all plain xs) h in
    let other : is_blank x ≡ false = not_true _ (plain_no_blank x parts.0) in
    rw other refl

not_empty : (xs ys : List ℕ) → 0 < length ys → (length (xs ++ ys) == 0) ≡ false
not_empty xs ys some = let longer = length-append xs ys in grind (arith, nat_tests, longer, some)

worded_statement : (label : Option (List ℕ)) (name rest : List ℕ) → is_symbol name ≡ true → list_all plain name ≡ true → IsRest rest
    → worded label (name ++ 32 ∷ rest) ≡ Some (record { label = label; statement = Some (record { mnemonic = name; operands = rest }) })
unfolding worded
worded_statement label name rest named plains r =
    let no_blank : list_all (λ b. not (is_blank b)) name ≡ true = all_weaker plain (λ b. not (is_blank b)) plain_no_blank name plains in
    rw (not_empty name (32 ∷ rest) (omega arith), front_first is_blank name 32 rest no_blank refl, named, behind_first is_blank name 32 rest no_blank refl, r.front) refl

labelled_statement : (text : List ℕ) → labelled (97 ∷ 58 ∷ text) ≡ worded (Some (97 ∷ [])) (trim_front text)
unfolding labelled
labelled_statement text = rw (has_first (λ b. b == 58) (97 ∷ []) 58 text refl refl) refl

cut_shown : (text : List ℕ) → list_all shown text ≡ true → trim_end text ≡ text → parse_line (97 ∷ 58 ∷ text) ≡ labelled (97 ∷ 58 ∷ text)
unfolding parse_line
cut_shown text h e =
    let line : List ℕ = 97 ∷ 58 ∷ text in
    let texts : list_all is_text_byte line ≡ true = all_weaker shown is_text_byte shown_text text h in
    let no_comment : list_all (λ b. not (b == 35)) line ≡ true = all_weaker shown (λ b. not (b == 35)) shown_no_comment text h in
    let trims : trimmed line ≡ line = ap (λ t. before_trimmed 97 (before_trimmed 58 t)) e in
    rw (texts, front_whole (λ b. b == 35) line no_comment, trims) refl

-- the end of a statement with operands
statement_end : (name rest : List ℕ) → IsRest rest → trim_end (name ++ 32 ∷ rest) ≡ name ++ 32 ∷ rest
statement_end name rest r =
    trim_end_append name (32 ∷ rest) (ap (before_trimmed 32) r.end ∙ before_some 32 rest r.some) (omega arith)

pub statement_shown : (name rest : List ℕ) → list_all plain name ≡ true → IsRest rest → list_all shown (name ++ 32 ∷ rest) ≡ true
statement_shown name rest plains r = all_append shown name (32 ∷ rest) (all_weaker plain shown plain_shown name plains) r.shown_all

pub cut_statement : (name rest : List ℕ) → 0 < length name → is_symbol name ≡ true → list_all plain name ≡ true → IsRest rest
    → parse_line (97 ∷ 58 ∷ (name ++ 32 ∷ rest)) ≡ Some (record { label = Some (97 ∷ []); statement = Some (record { mnemonic = name; operands = rest }) })
cut_statement name rest some named plains r =
    cut_shown (name ++ 32 ∷ rest) (statement_shown name rest plains r) (statement_end name rest r)
    ∙ labelled_statement (name ++ 32 ∷ rest)
    ∙ ap (worded (Some (97 ∷ []))) (trim_front_append name (32 ∷ rest) some plains)
    ∙ worded_statement (Some (97 ∷ [])) name rest named plains r

-- ---- the lines

pub source_lines-one : (text : List ℕ) → list_all shown text ≡ true → source_lines (one_statement text) ≡ codes ".segment 0" ∷ codes ".entry a" ∷ (97 ∷ 58 ∷ text) ∷ []
source_lines-one text h =
    rw (split_none (λ b. b == 10) text (all_weaker shown (λ b. not (b == 10)) shown_no_end text h), (let e : (length (97 ∷ 58 ∷ text) == 0) ≡ false = grind (arith, nat_tests) in e)) refl

-- ---- the passes

abbrev pub before_statement : Place
before_statement = record { next = Some 0; total = 0; segments = 1; has_entry = true; labels = no_labels }

abbrev pub label_a : Addresses
label_a = with_address no_labels (97 ∷ []) 0

abbrev pub after_statement : Place
after_statement = record { next = Some 4; total = 4; segments = 1; has_entry = true; labels = label_a }

abbrev begun_segment : Place
begun_segment = record { next = Some 0; total = 0; segments = 1; has_entry = false; labels = no_labels }

first_segment : first_line start (codes ".segment 0") ≡ Ok begun_segment
unfolding first_line with_line parse_line labelled worded order_in statement_form ternary_of binary_of imm_named branch_named reg_named shift_named mul_named load_named store_named zero_branch_named binary_named unary_named bare_named cell_named with_one number_operand spelled plain_decimal digits_number
first_segment = refl

first_entry : first_line begun_segment (codes ".entry a") ≡ Ok before_statement
unfolding first_line with_line parse_line labelled worded order_in statement_form ternary_of binary_of imm_named branch_named reg_named shift_named mul_named load_named store_named zero_branch_named binary_named unary_named bare_named cell_named with_one label_operand
first_entry = refl

abbrev pub begun_output : Output
begun_output = record { program = record { entry = 0; segments = [] }; here = Some (record { addr = 0; bytes = [] }) }

second_segment : second_line label_a nothing (codes ".segment 0") ≡ Ok begun_output
unfolding second_line emitted_at parse_line labelled worded order_in statement_form ternary_of binary_of imm_named branch_named reg_named shift_named mul_named load_named store_named zero_branch_named binary_named unary_named bare_named cell_named with_one number_operand spelled plain_decimal digits_number
second_segment = refl

second_entry : second_line label_a begun_output (codes ".entry a") ≡ Ok begun_output
unfolding second_line emitted_at parse_line labelled worded order_in statement_form ternary_of binary_of imm_named branch_named reg_named shift_named mul_named load_named store_named zero_branch_named binary_named unary_named bare_named cell_named with_one label_operand
second_entry = refl

-- a text whose third line takes one word
pub whole : (text line : List ℕ) (word : ℕ) → source_lines text ≡ codes ".segment 0" ∷ codes ".entry a" ∷ line ∷ []
    → first_line before_statement line ≡ Ok after_statement
    → second_line label_a begun_output line ≡ Ok (record { program = record { entry = 0; segments = [] }; here = Some (record { addr = 0; bytes = to_le_bytes w32 word }) })
    → assembled text ≡ Ok (one_word_program word)
unfolding assembled
whole text line word lines first second =
    rw (lines, first_segment, first_entry, first, second_segment, second_entry, second) refl

-- an instruction's line in both passes
pub first_plain : (line : List ℕ) (words : StatementWords) (i : Instr) → parse_line line ≡ Some (record { label = Some (97 ∷ []); statement = Some words }) → order_in words ≡ Ok (Plain i)
    → first_line before_statement line ≡ Ok after_statement
unfolding first_line with_line
first_plain line words i cut order = rw (cut, order) refl

pub second_plain : (line : List ℕ) (words : StatementWords) (i : Instr) (word : ℕ) → parse_line line ≡ Some (record { label = Some (97 ∷ []); statement = Some words }) → order_in words ≡ Ok (Plain i)
    → word_of i ≡ Some word
    → second_line label_a begun_output line ≡ Ok (record { program = record { entry = 0; segments = [] }; here = Some (record { addr = 0; bytes = to_le_bytes w32 word }) })
unfolding second_line emitted_at resolved
second_plain line words i word cut order h = rw (cut, order, h) refl

-- a shown statement with operands gives its instruction's word
pub statement_assembles : (name rest : List ℕ) (i : Instr) (word : ℕ) → 0 < length name → is_symbol name ≡ true → list_all plain name ≡ true → IsRest rest
    → order_in (record { mnemonic = name; operands = rest }) ≡ Ok (Plain i) → word_of i ≡ Some word
    → assembled (one_statement (name ++ 32 ∷ rest)) ≡ Ok (one_word_program word)
statement_assembles name rest i word some named plains r order h =
    let cut = cut_statement name rest some named plains r in
    whole (one_statement (name ++ 32 ∷ rest)) (97 ∷ 58 ∷ (name ++ 32 ∷ rest)) word (source_lines-one (name ++ 32 ∷ rest) (statement_shown name rest plains r))
    (first_plain (97 ∷ 58 ∷ (name ++ 32 ∷ rest)) (record { mnemonic = name; operands = rest }) i cut order)
    (second_plain (97 ∷ 58 ∷ (name ++ 32 ∷ rest)) (record { mnemonic = name; operands = rest }) i word cut order h)
