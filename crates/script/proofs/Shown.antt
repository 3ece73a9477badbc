-- The line of a step that finds room and doesn't wait stands in what its script prints.
use Rattle.std.proofs.Common.{◌≡◌, ℕ, true, false, cond, List, [], ◌∷◌, ◌++◌, length, refl, sym, ap, ◌∙◌, subst, append_assoc}
use Rattle.std.specs.Prelude.{codes}
use Rattle.std.specs.Fmt.{decimal}
use Rattle.std.proofs.lemmas.Bool.{false≢true}
use Rattle.history.specs.declared.events.Entry.{Entry}
use Rattle.history.specs.Layout.{Setting}
use Rattle.script.specs.declared.steps.Step.{Step}
use Rattle.script.specs.declared.steps.Step.TheVariants.{Load, Store, Start, Copy, End, Tick, Release}
use Rattle.script.specs.Steps.{entry_of, is_full, waits, entries_after}
use Rattle.script.specs.Printed.{line, step_printed, nonce_with, steps_printed}
use Rattle.script.specs.Programs.{Program}
use Rattle.script.specs.Attested.{PrintsStep, nonce_after}
use Rattle.script.proofs.Legals.{outcomes}

-- a store that waits has no nonce
pub waiting_nonce : (w : Setting) (past : List Entry) (nonce : List ℕ) (step : Step) → waits w past step ≡ true → nonce_with nonce step ≡ nonce
waiting_nonce w past nonce (Store width addr value) h = refl
waiting_nonce w past nonce (Load width addr) h = absurd (false≢true h)
waiting_nonce w past nonce (Start discipline counter new) h = absurd (false≢true h)
waiting_nonce w past nonce Copy h = absurd (false≢true h)
waiting_nonce w past nonce End h = absurd (false≢true h)
waiting_nonce w past nonce Tick h = absurd (false≢true h)
waiting_nonce w past nonce Release h = absurd (false≢true h)

-- what is printed where a step finds room and makes an entry
abbrev made_text : Setting → List ℕ → List ℕ → List Entry → Step → List Step → List ℕ
made_text w key nonce past step later = step_printed w key nonce past step ++ steps_printed w key (nonce_with nonce step) (entry_of w past step ∷ past) later

-- and where it waits
abbrev waiting_text : Setting → List ℕ → List ℕ → List Entry → List Step → List ℕ
waiting_text w key nonce past later = line (codes "again " ++ decimal (length past)) ++ steps_printed w key nonce past later

printed_made : (w : Setting) (key nonce : List ℕ) (past : List Entry) (step : Step) (later : List Step) → is_full w past ≡ false → waits w past step ≡ false → steps_printed w key nonce past (step ∷ later) ≡ made_text w key nonce past step later
printed_made w key nonce past step later room free =
    ap (λ b. cond b (line (codes "full " ++ decimal w.cap)) (cond (waits w past step) (waiting_text w key nonce past later) (made_text w key nonce past step later))) room
    ∙ ap (λ b. cond b (waiting_text w key nonce past later) (made_text w key nonce past step later)) free

printed_waiting : (w : Setting) (key nonce : List ℕ) (past : List Entry) (step : Step) (later : List Step) → is_full w past ≡ false → waits w past step ≡ true → steps_printed w key nonce past (step ∷ later) ≡ waiting_text w key nonce past later
printed_waiting w key nonce past step later room waiting =
    ap (λ b. cond b (line (codes "full " ++ decimal w.cap)) (cond (waits w past step) (waiting_text w key nonce past later) (made_text w key nonce past step later))) room
    ∙ ap (λ b. cond b (waiting_text w key nonce past later) (made_text w key nonce past step later)) waiting

-- the text has a line of this step in it, printed with this nonce after these entries
record HasLine (w : Setting) (key nonce : List ℕ) (past : List Entry) (step : Step) (text : List ℕ) : Type 0 where
  earlier : List ℕ
  later : List ℕ
  whole : text ≡ earlier ++ step_printed w key nonce past step ++ later

-- with something before it
line_later : (w : Setting) (key nonce : List ℕ) (past : List Entry) (step : Step) (front text whole : List ℕ) → whole ≡ front ++ text → HasLine w key nonce past step text → HasLine w key nonce past step whole
line_later w key nonce past step front text whole is h = record {
  earlier = front ++ h.earlier;
  later = h.later;
  whole = is ∙ ap (λ l. front ++ l) h.whole
      ∙ sym (append_assoc front (h.earlier ++ step_printed w key nonce past step) h.later)
      ∙ ap (λ l. l ++ h.later) (sym (append_assoc front h.earlier (step_printed w key nonce past step)));
}

has_line : (w : Setting) (key nonce : List ℕ) (past : List Entry) (before later : List Step) (step : Step) → is_full w (entries_after w past before) ≡ false → waits w (entries_after w past before) step ≡ false
    → HasLine w key (nonce_after nonce before) (entries_after w past before) step (steps_printed w key nonce past (before ++ step ∷ later))
has_line w key nonce past [] later step room free = record {
  earlier = [];
  later = steps_printed w key (nonce_with nonce step) (entry_of w past step ∷ past) later;
  whole = printed_made w key nonce past step later room free;
}
has_line w key nonce past (first ∷ before) later step room free =
    outcomes (λ all. is_full w all ≡ false → waits w all step ≡ false → HasLine w key (nonce_after nonce (first ∷ before)) all step (steps_printed w key nonce past (first ∷ before ++ step ∷ later)))
    (is_full w past) (waits w past first) past (entries_after w past before) (entries_after w (entry_of w past first ∷ past) before)
    (λ full open' free'. absurd (false≢true (sym open' ∙ full)))
    (λ open' waiting room' free'.
    line_later w key (nonce_after nonce (first ∷ before)) (entries_after w past before) step (line (codes "again " ++ decimal (length past))) (steps_printed w key nonce past (before ++ step ∷ later)) (steps_printed w key nonce past (first ∷ before ++ step ∷ later))
    (printed_waiting w key nonce past first (before ++ step ∷ later) open' waiting)
    (subst (λ n. HasLine w key (nonce_after n before) (entries_after w past before) step (steps_printed w key nonce past (before ++ step ∷ later))) (sym (waiting_nonce w past nonce first waiting))
    (has_line w key nonce past before later step room' free')))
    (λ open' made room' free'.
    line_later w key (nonce_after nonce (first ∷ before)) (entries_after w (entry_of w past first ∷ past) before) step (step_printed w key nonce past first) (steps_printed w key (nonce_with nonce first) (entry_of w past first ∷ past) (before ++ step ∷ later)) (steps_printed w key nonce past (first ∷ before ++ step ∷ later))
    (printed_made w key nonce past first (before ++ step ∷ later) open' made)
    (has_line w key (nonce_with nonce first) (entry_of w past first ∷ past) before later step room' free'))
    room free

pub shown : (program : Program) (before later : List Step) (step : Step) → program.steps ≡ before ++ step ∷ later
    → is_full program.setting (entries_after program.setting [] before) ≡ false → waits program.setting (entries_after program.setting [] before) step ≡ false
    → PrintsStep program before step
shown program before later step is room free =
    let h = has_line program.setting program.key [] [] before later step room free in
    (h.earlier, h.later, ap (steps_printed program.setting program.key [] []) is ∙ h.whole)
