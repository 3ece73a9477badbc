use Rattle.std.proofs.Common.{rules, ◌+◌, ◌∷◌, ◌++◌, drop, inl, inr, ap, sym, ◌∙◌}
use Rattle.listing.specs.Listing.{word, items, lines_text}
use Rattle.listing.proofs.Firsts.{first_word, first_byte}
use Rattle.listing.proofs.cursor.first_line.Goals.{else-at-eq0-via-then-at-eq0+else-bytes-ge4, else-at-eq0-via-else-at-eq0}
use Rattle.listing.proofs.cursor.first_line.Goals as goal

pub returns-then-bytes-ge4-clause-line : goal.returns-then-bytes-ge4-clause-line
returns-then-bytes-ge4-clause-line c =
    let rest = items (c.args.at + 4) (drop 4 c.args.bytes.now) in
    ap lines_text (first_word c.args.at c.args.bytes.now (search rules) (search rules) ∙ ap (λ value. word c.args.at value ∷ rest) (sym c.from_le_bytes-value.ensures))
    ∙ ap (λ l. l ++ lines_text rest) (sym c.word_line.ensures)

pub returns-clause-line : goal.returns-clause-line
returns-clause-line c =
    let rest = items (c.args.at + 1) (drop 1 c.args.bytes.now) in
    ap lines_text (first_byte c.args.at c.args.bytes.now c.requires (elim c.else-at-eq0.branch [
      | else-at-eq0-via-then-at-eq0+else-bytes-ge4 w ↦ inr (search rules)
      | else-at-eq0-via-else-at-eq0 w ↦ inl (search rules)
    ])) ∙ ap (λ l. l ++ lines_text rest) (sym c.byte_line.ensures)
