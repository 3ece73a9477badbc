use Rattle.std.proofs.Common.{◌≡◌, ◌<◌, ◌+◌, true, take, drop, length, get_or, refl, sym, ap, ◌∙◌, arith}
use Rattle.asm_lines.specs.Cuts.{is_symbol, is_blank, trim_front}
use Rattle.asm_lines.proofs.Symbols.{no_word, word_ends, absent, present, statement_same}
use Rattle.asm_lines.proofs.cuts.first_word.Goals as goal
use Rattle.asm_lines.proofs.cuts.first_word.Goals.{else-end-text-via-then-end-text+else-not-is_blank, else-end-text-via-else-end-text}

pub returns-then-not-is_blank : goal.returns-then-not-is_blank
returns-then-not-is_blank c =
    rw (no_word c.args.text.now c.name_end-end.result c.name_end-end.ensures.place c.if-end-text.true (sym c.is_blank.ensures ∙ c.if-not-is_blank.true)) refl

pub returns-in-None : goal.returns-in-None
returns-in-None c =
    let stops : c.name_end-end.result < length c.args.text.now → is_blank (get_or c.args.text.now c.name_end-end.result 0) ≡ true =
    λ some. elim c.else-end-text.branch [
      | else-end-text-via-then-end-text+else-not-is_blank w ↦ sym w.is_blank.ensures ∙ w.if-not-is_blank.false
      | else-end-text-via-else-end-text w ↦ absurd (omega (arith, some, w.if-end-text.false))
    ] in
    rw (word_ends c.args.text.now c.name_end-end.result c.name_end-end.ensures.place stops)
    (absent (is_symbol (take c.name_end-end.result c.args.text.now)) _ _ c.in-None.ensures)

pub returns-in-Some : goal.returns-in-Some
returns-in-Some c =
    let stops : c.name_end-end.result < length c.args.text.now → is_blank (get_or c.args.text.now c.name_end-end.result 0) ≡ true =
    λ some. elim c.else-end-text.branch [
      | else-end-text-via-then-end-text+else-not-is_blank w ↦ sym w.is_blank.ensures ∙ w.if-not-is_blank.false
      | else-end-text-via-else-end-text w ↦ absurd (omega (arith, some, w.if-end-text.false))
    ] in
    let named = present (is_symbol (take c.name_end-end.result c.args.text.now)) _ _ c.in-Some.ensures in
    let rest : c.trim_front.result.now ≡ trim_front (drop (c.name_end-end.result + 1) c.args.text.now) = c.trim_front.ensures ∙ ap trim_front c.behind.ensures in
    rw (word_ends c.args.text.now c.name_end-end.result c.name_end-end.ensures.place stops, named.0) (statement_same named.1 rest)
