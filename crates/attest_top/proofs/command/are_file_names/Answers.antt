use Rattle.std.proofs.Common.{◌≡◌, ℕ, suc, ◌+◌, List, drop, All, Bool, true, false, sym, ap, subst, ◌∙◌, refl, arith}
use Rattle.std.specs.Prelude.{◌&&◌}
use Rattle.std.specs.List.{list_all}
use Rattle.std.proofs.lemmas.List.Elements.{All-cons}
use Rattle.att_base.specs.Files.{IsName}
use Rattle.attest_top.specs.Lines.{is_file_name}
use Rattle.attest_top.proofs.Behind.{next_word}
use Rattle.attest_top.proofs.command.are_file_names.Goals as goal

pub returns-then-not-is_file_name-clause-value : goal.returns-then-not-is_file_name-clause-value
returns-then-not-is_file_name-clause-value c =
    let words = c.args.words.now in
    let word = c.word.result.now in
    let split = next_word words c.loop-k.k word c.word.ensures in
    let no : is_file_name word ≡ false = cc c.if-not-is_file_name.ensures.value in
    sym (c.loop-k.invariant.value ∙ ap (λ (l : List (List ℕ)). list_all is_file_name l) split ∙ ap (λ (b : Bool). b && list_all is_file_name (drop (suc c.loop-k.k) words)) no)

pub loop-k-preserved : goal.loop-k-preserved
loop-k-preserved c =
    let words = c.args.words.now in
    let word = c.word.result.now in
    let split = next_word words c.loop-k.k word c.word.ensures in
    let yes : is_file_name word ≡ true = cc c.if-not-is_file_name.ensures.value in
    let next : suc c.loop-k.k ≡ c.loop-k.k + 1 = omega arith in
    record {
      value = c.loop-k.invariant.value ∙ ap (λ (l : List (List ℕ)). list_all is_file_name l) split ∙ ap (λ (b : Bool). b && list_all is_file_name (drop (suc c.loop-k.k) words)) yes
          ∙ ap (λ (k : ℕ). list_all is_file_name (drop k words)) next;
      names = λ behind. c.loop-k.invariant.names (subst (λ (l : List (List ℕ)). All IsName l) (sym split)
          (All-cons IsName word (drop (suc c.loop-k.k) words) (c.if-not-is_file_name.ensures.name refl) (subst (λ (k : ℕ). All IsName (drop k words)) (sym next) behind)));
    }
