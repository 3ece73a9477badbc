-- The tag that End prints is that of the attested memory at each instant of its pass.
use Rattle.std.proofs.Common.{◌≡◌, ℕ, ◌+◌, List, [], ◌∷◌, ◌++◌, length, reverse, Option, Some, None, refl, sym, ap, ◌∙◌, subst}
use Rattle.std.specs.Prelude.{IsTrue}
use Rattle.std.specs.Option.{option_map_or}
use Rattle.std.proofs.lemmas.Bool.{false≢true}
use Rattle.std.proofs.lemmas.List.{reverse-reverse, length-reverse}
use Rattle.history.specs.declared.events.Act.TheVariants as acts
use Rattle.history.specs.declared.events.Entry.{Entry}
use Rattle.history.specs.Layout.{Setting}
use Rattle.history.specs.Memory.{back, memory_at, attested_bytes}
use Rattle.history.specs.Pass.{Pass, pass_after, start_of}
use Rattle.history.specs.Legal.{in_order}
use Rattle.history.specs.Copied.{copied_bytes}
use Rattle.history.specs.Instants.{EndsAt}
use Rattle.history.specs.Sliding.{CopiedIsMemory}
use Rattle.script.specs.declared.steps.Step.TheVariants.{End}
use Rattle.chronicle.specs.Laws.{EndsThere, EndCopiesNone}
use Rattle.chronicle.specs.Worlds.{shape_of}
use Rattle.report.specs.Tags.{report_tag}
use Rattle.script.specs.Steps.{entry_of, entries_after}
use Rattle.script.specs.Printed.{asked_by_pass}
use Rattle.script.specs.Programs.{Program}
use Rattle.script.specs.Attested.{IsScript, IsAttested, history_of, nonce_after, TagsInstants}
use Rattle.script.proofs.Legals.{script_legal}
use Rattle.script.proofs.Parts.{stands}
use Rattle.script.proofs.Shown.{shown}

-- a pass is there
pub record HasPass (before : Option Pass) : Type 0 where
  pub pass : Pass
  pub is : before ≡ Some pass

-- where the order rule allows End
end_has_pass : (w : Setting) (before : Option Pass) → IsTrue (in_order w before acts.End) → HasPass before
end_has_pass w None h = absurd (false≢true h)
end_has_pass w (Some pass) h = record { pass = pass; is = refl }

-- End at its place in the history, the newest entries before it first
pub ends_here : EndsThere → (history past : List Entry) (entry : Entry) (more : List Entry) (pass : Pass) → history ≡ reverse past ++ entry ∷ more → pass_after past ≡ Some pass → entry.act ≡ acts.End → EndsAt history pass.discipline pass.counter (start_of pass) (length past + 1)
ends_here ends history past entry more pass whole last is =
    subst (λ l. EndsAt l pass.discipline pass.counter (start_of pass) (length past + 1)) (sym whole)
    (subst (λ n. EndsAt (reverse past ++ entry ∷ more) pass.discipline pass.counter (start_of pass) (n + 1)) (length-reverse past)
    (ends (reverse past) entry more pass (ap pass_after (reverse-reverse past) ∙ last) is))

-- what is copied there
copied_here : EndCopiesNone → (w : Setting) (history past : List Entry) (entry : Entry) (more : List Entry) → history ≡ reverse past ++ entry ∷ more → entry.act ≡ acts.End → copied_bytes w (back history (length past + 1)) ≡ copied_bytes w past
copied_here none w history past entry more whole is =
    ap (λ l. copied_bytes w (back l (length past + 1))) whole
    ∙ ap (λ n. copied_bytes w (back (reverse past ++ entry ∷ more) (n + 1))) (sym (length-reverse past))
    ∙ none w (reverse past) entry more is
    ∙ ap (copied_bytes w) (reverse-reverse past)

-- the tag at each instant
tags_instants : CopiedIsMemory → EndCopiesNone → (program : Program) → IsScript program → (nonce : List ℕ) (past : List Entry) (entry : Entry) (more : List Entry) (pass : Pass) → history_of program ≡ reverse past ++ entry ∷ more → entry.act ≡ acts.End → pass_after past ≡ Some pass
    → EndsAt (history_of program) pass.discipline pass.counter (start_of pass) (length past + 1) → TagsInstants program nonce past pass
tags_instants copied none program script nonce past entry more pass whole is last ends place release releases instant =
    let w = program.setting in
    let history = history_of program in
    let same : attested_bytes w (memory_at w history place) ≡ copied_bytes w past =
    copied w script.setting history (script_legal program script) pass.discipline pass.counter (start_of pass) (length past + 1) release ends releases place instant
    ∙ copied_here none w history past entry more whole is in
    ap (λ o. option_map_or (λ (p : Pass). report_tag program.key (asked_by_pass p nonce) (shape_of w) (copied_bytes w past) (start_of p) (length past + 1)) o []) last
    ∙ ap (λ bytes. report_tag program.key (asked_by_pass pass nonce) (shape_of w) bytes (start_of pass) (length past + 1)) (sym same)

-- all of it at one End
module _ (copied : CopiedIsMemory) (ends : EndsThere) (none : EndCopiesNone) where
  pub attested : (program : Program) → IsScript program → IsAttested program
  attested program script = record {
    legal = script_legal program script;
    tags = λ before later is room.
        let w = program.setting in
        let past = entries_after w [] before in
        let s = stands program script before later End is room refl in
        let p = end_has_pass w (pass_after past) s.follows.order in
        let here = ends_here ends (history_of program) past (entry_of w past End) s.more p.pass s.whole p.is refl in
        (shown program before later End is room refl, p.pass, p.is, here, tags_instants copied none program script (nonce_after [] before) past (entry_of w past End) s.more p.pass s.whole refl p.is here);
  }
