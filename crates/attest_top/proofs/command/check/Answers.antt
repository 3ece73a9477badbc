use Rattle.std.proofs.Common.{◌≡◌, ℕ, ◌≤◌, List, ◌∷◌, length, drop, All, refl, ap, subst, ◌∙◌, arith}
use Rattle.att_base.specs.Files.{IsName}
use Rattle.attest_top.proofs.Behind.{next_word, two_named}
use Rattle.attest_top.proofs.command.check.Goals as goal

pub invariant_of-result : goal.invariant_of-result
invariant_of-result c =
    let words = c.args.words.now in
    let trace = c.word-then-are_file_names.result.now in
    let key = c.word-then-are_file_names-2.result.now in
    let split : drop 1 words ≡ trace ∷ key ∷ drop 3 words =
    next_word words 1 trace c.word-then-are_file_names.ensures ∙ ap (λ (l : List (List ℕ)). trace ∷ l) (next_word words 2 key c.word-then-are_file_names-2.ensures) in
    let named = two_named trace key (drop 3 words) (subst (λ (l : List (List ℕ)). All IsName l) split (c.if-are_file_names.ensures.names refl)) in
    let count : 3 ≤ length words = omega (arith, c.if-count-lt3.false, c.count-count.ensures) in
    (named.0, named.1, count, named.2)
