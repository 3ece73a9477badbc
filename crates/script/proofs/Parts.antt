-- The history of a script, cut at a step that isn't the last.
use Rattle.std.proofs.Common.{◌≡◌, Bool, true, false, cond, List, [], ◌∷◌, ◌++◌, reverse, refl, sym, ap, ◌∙◌, subst, append_assoc}
use Rattle.std.proofs.lemmas.Bool.{false≢true}
use Rattle.std.proofs.lemmas.List.{reverse-append}
use Rattle.history.specs.declared.events.Entry.{Entry}
use Rattle.history.specs.Layout.{Setting}
use Rattle.history.specs.Legal.{MayFollow, IsLegalBack}
use Rattle.script.specs.declared.steps.Step.{Step}
use Rattle.script.specs.Steps.{entry_of, is_full, waits, entries_after}
use Rattle.script.specs.Programs.{Program}
use Rattle.script.specs.Attested.{IsScript, history_of}
use Rattle.script.proofs.Legals.{outcomes, script_legal_back}

-- the entries go on from those before
record GoesOn (past all : List Entry) : Type 0 where
  newer : List Entry
  whole : all ≡ newer ++ past

-- over one entry more
goes_on_more : (entry : Entry) (past all : List Entry) → GoesOn (entry ∷ past) all → GoesOn past all
goes_on_more entry past all g = record { newer = g.newer ++ entry ∷ []; whole = g.whole ∙ sym (append_assoc g.newer (entry ∷ []) past) }

goes_on : (w : Setting) (past : List Entry) (steps : List Step) → GoesOn past (entries_after w past steps)
goes_on w past [] = record { newer = []; whole = refl }
goes_on w past (step ∷ steps) =
    outcomes (GoesOn past) (is_full w past) (waits w past step) past (entries_after w past steps) (entries_after w (entry_of w past step ∷ past) steps)
    (λ _. record { newer = []; whole = refl })
    (λ _ _. goes_on w past steps)
    (λ _ _. goes_on_more (entry_of w past step) past _ (goes_on w (entry_of w past step ∷ past) steps))

-- the outcomes of a step, first with more steps after it and then without
after_step : (full waiting : Bool) (past kept longer kept' longer' : List Entry) (test : List Entry → Bool) (next : List Entry → List Entry) → test past ≡ full → (test kept ≡ false → kept' ≡ next kept) → (test longer ≡ false → longer' ≡ next longer) → test (cond full past (cond waiting kept longer)) ≡ false → cond full past (cond waiting kept' longer') ≡ next (cond full past (cond waiting kept longer))
after_step true waiting past kept longer kept' longer' test next is a b h = absurd (false≢true (sym h ∙ is))
after_step false true past kept longer kept' longer' test next is a b h = a h
after_step false false past kept longer kept' longer' test next is a b h = b h

-- where there is room after some steps, the others go on from there
pub entries-append : (w : Setting) (past : List Entry) (before later : List Step) → is_full w (entries_after w past before) ≡ false → entries_after w past (before ++ later) ≡ entries_after w (entries_after w past before) later
entries-append w past [] later room = refl
entries-append w past (step ∷ before) later room =
    after_step (is_full w past) (waits w past step) past
    (entries_after w past before) (entries_after w (entry_of w past step ∷ past) before)
    (entries_after w past (before ++ later)) (entries_after w (entry_of w past step ∷ past) (before ++ later))
    (is_full w) (λ l. entries_after w l later) refl
    (λ h. entries-append w past before later h)
    (λ h. entries-append w (entry_of w past step ∷ past) before later h)
    room

-- one step with room
pub entries_next : (w : Setting) (past : List Entry) (step : Step) (later : List Step) → is_full w past ≡ false → waits w past step ≡ false → entries_after w past (step ∷ later) ≡ entries_after w (entry_of w past step ∷ past) later
entries_next w past step later room free =
    ap (λ b. cond b past (cond (waits w past step) (entries_after w past later) (entries_after w (entry_of w past step ∷ past) later))) room
    ∙ ap (λ b. cond b (entries_after w past later) (entries_after w (entry_of w past step ∷ past) later)) free

-- one step that waits
pub entries_waiting : (w : Setting) (past : List Entry) (step : Step) (later : List Step) → is_full w past ≡ false → waits w past step ≡ true → entries_after w past (step ∷ later) ≡ entries_after w past later
entries_waiting w past step later room waiting =
    ap (λ b. cond b past (cond (waits w past step) (entries_after w past later) (entries_after w (entry_of w past step ∷ past) later))) room
    ∙ ap (λ b. cond b (entries_after w past later) (entries_after w (entry_of w past step ∷ past) later)) waiting

-- the entry of a step stands in the history after those before it
pub record Stands (w : Setting) (past : List Entry) (entry : Entry) (history : List Entry) : Type 0 where
  pub more : List Entry
  pub whole : history ≡ reverse past ++ entry ∷ more
  pub follows : MayFollow w past entry

-- newer entries turned round
turned : (newer : List Entry) (entry : Entry) (past : List Entry) → reverse (newer ++ entry ∷ past) ≡ reverse past ++ entry ∷ reverse newer
turned newer entry past =
    reverse-append newer (entry ∷ past)
    ∙ ap (λ l. l ++ reverse newer) (reverse-append (entry ∷ []) past)
    ∙ append_assoc (reverse past) (entry ∷ []) (reverse newer)

-- an entry of a legal history may follow those before it
followed : (w : Setting) (newer : List Entry) (entry : Entry) (past : List Entry) → IsLegalBack w (newer ++ entry ∷ past) → MayFollow w past entry
followed w [] entry past legal = legal.1
followed w (first ∷ newer) entry past legal = followed w newer entry past legal.0

-- the entry of a step that finds room and doesn't wait
pub stands : (program : Program) → IsScript program → (before later : List Step) (step : Step) → program.steps ≡ before ++ step ∷ later
    → is_full program.setting (entries_after program.setting [] before) ≡ false
    → waits program.setting (entries_after program.setting [] before) step ≡ false
    → Stands program.setting (entries_after program.setting [] before) (entry_of program.setting (entries_after program.setting [] before) step) (history_of program)
stands program script before later step is room free =
    let w = program.setting in
    let past = entries_after w [] before in
    let entry = entry_of w past step in
    let g = goes_on w (entry ∷ past) later in
    let whole = ap (entries_after w []) is ∙ entries-append w [] before (step ∷ later) room ∙ entries_next w past step later room free ∙ g.whole in
    record {
      more = reverse g.newer;
      whole = ap reverse whole ∙ turned g.newer entry past;
      follows = followed w g.newer entry past (subst (λ l. IsLegalBack w l) whole (script_legal_back program script));
    }
