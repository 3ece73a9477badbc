use Rattle.std.proofs.Common.{◌≡◌, ℕ, suc, ◌+◌, ◌≤◌, List, [], ◌∷◌, ◌++◌, length, drop, sym, ap, ◌∙◌, arith}
use Rattle.std.proofs.lemmas.List.{append_assoc, append-nil}
use Rattle.std.proofs.Math.Seq.{drop-length}
use Rattle.attest_top.proofs.Behind.{next_word}
use Rattle.attest_top.proofs.prepare.report_names.Goals as goal

pub loop-k-preserved : goal.loop-k-preserved
loop-k-preserved c =
    let words = c.args.words.now in
    let k = c.loop-k.k in
    let old = c.loop-k.names.items in
    let text = c.in_ok-from_str.field-0 in
    let word = c.word.result.now in
    let same : text ≡ word = c.in_ok-from_str.ensures in
    let next : suc k ≡ k + 1 = omega arith in
    record {
      kept = ap (λ (i : List (List ℕ)). i ++ drop (k + 1) words) c.in_ok-push.ensures.items
          ∙ append_assoc old (text ∷ []) (drop (k + 1) words)
          ∙ ap (λ (w : List ℕ). old ++ w ∷ drop (k + 1) words) same
          ∙ ap (λ (n : ℕ). old ++ word ∷ drop n words) (sym next)
          ∙ ap (λ (l : List (List ℕ)). old ++ l) (sym (next_word words k word c.word.ensures))
          ∙ c.loop-k.invariant.kept;
    }

pub returns : goal.returns
returns c =
    let words = c.args.words.now in
    let items = c.loop-k.names.items in
    let least : 3 ≤ c.count-count.result = omega (arith, c.requires, c.count-count.ensures) in
    let at : c.loop-k.k ≡ length words = omega (arith, c.loop-k-test.false, c.loop-k.auto.k-end least, c.count-count.ensures) in
    let none : drop c.loop-k.k words ≡ [] = ap (λ (n : ℕ). drop n words) at ∙ drop-length words in
    sym (append-nil items) ∙ ap (λ (l : List (List ℕ)). items ++ l) (sym none) ∙ c.loop-k.invariant.kept
