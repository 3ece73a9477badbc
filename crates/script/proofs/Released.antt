-- The tag that Release prints is that of a note on the pass and on what its End printed.
use Rattle.std.proofs.Common.{◌≡◌, ℕ, ◌+◌, Bool, true, false, not, List, [], ◌∷◌, ◌++◌, length, reverse, Option, Some, None, option_map, refl, sym, ap, ap₂, ◌∙◌, subst, inl, inr, append_assoc}
use Rattle.std.specs.Prelude.{◌&&◌, ◌||◌, ◌⊎◌, IsTrue, if◌then◌else◌}
use Rattle.std.specs.Option.{option_map_or}
use Rattle.std.proofs.lemmas.Bool.{false≢true, and_parts}
use Rattle.std.proofs.lemmas.List.{reverse-reverse, length-reverse}
use Rattle.history.specs.declared.events.Act.TheVariants as acts
use Rattle.history.specs.declared.events.Entry.{Entry}
use Rattle.history.specs.Layout.{Setting}
use Rattle.history.specs.Pass.{Pass, longer, pass_after, start_of, is_end, is_ended, is_released, is_extended}
use Rattle.history.specs.Legal.{in_order}
use Rattle.history.specs.Instants.{EndsAt, ReleasesAt}
use Rattle.script.specs.declared.steps.Step.{Step}
use Rattle.script.specs.declared.steps.Step.TheVariants.{Load, Store, Start, Copy, End, Tick, Release}
use Rattle.report.specs.Tags.{note_tag}
use Rattle.script.specs.Steps.{entry_of, is_full, waits, entries_after}
use Rattle.script.specs.Printed.{before_end, nonce_with, tag_at_end, tag_at_release}
use Rattle.script.specs.Programs.{Program}
use Rattle.script.specs.Attested.{IsScript, IsReleased, NotesEnd, history_of, nonce_after}
use Rattle.script.proofs.Legals.{outcomes}
use Rattle.script.proofs.Parts.{stands, entries_next, entries_waiting}
use Rattle.script.proofs.Shown.{waiting_nonce, shown}
use Rattle.script.proofs.WentOn.{WentOn, went_on}
use Rattle.chronicle.specs.Laws.{EndsThere, ReleasesThere}
use Rattle.script.proofs.Tagged.{ends_here}

-- two passes have the same Start
record SameStart (earlier pass : Pass) : Type 0 where
  discipline : earlier.discipline ≡ pass.discipline
  counter : earlier.counter ≡ pass.counter
  opened : earlier.opened ≡ pass.opened

-- it has the Start of the pass that goes on
start_kept : (entry : Entry) (before : Option Pass) (middle pass : Pass) (g : WentOn entry before middle) → SameStart middle pass → SameStart g.earlier pass
start_kept entry before middle pass g same = record {
  discipline = ap (λ p. p.discipline) g.now ∙ same.discipline;
  counter = ap (λ p. p.counter) g.now ∙ same.counter;
  opened = ap (λ p. p.opened) g.now ∙ same.opened;
}

-- The pass's End is among these steps.
record EndsIn (w : Setting) (past : List Entry) (nonce : List ℕ) (steps : List Step) (pass : Pass) (all : List Entry) : Type 0 where
  earlier : List Step
  between : List Step
  split : steps ≡ earlier ++ End ∷ between
  room : is_full w (entries_after w past earlier) ≡ false
  last : before_end all ≡ entries_after w past earlier
  nonce_is : nonce_after nonce steps ≡ nonce_after nonce earlier
  begun : Pass
  was : pass_after (entries_after w past earlier) ≡ Some begun
  same : SameStart begun pass

-- The pass has ended before these steps.
record EndedBefore (past : List Entry) (nonce : List ℕ) (steps : List Step) (pass : Pass) (all : List Entry) : Type 0 where
  last : before_end all ≡ before_end past
  nonce_is : nonce_after nonce steps ≡ nonce
  begun : Pass
  was : pass_after past ≡ Some begun
  same : SameStart begun pass
  ended : is_ended begun ≡ true

abbrev HasEnded : Setting → List Entry → List ℕ → List Step → Pass → List Entry → Type 0
HasEnded w past nonce steps pass all = EndsIn w past nonce steps pass all ⊎ EndedBefore past nonce steps pass all

-- a step that waits changes nothing of it
past_waiting : (w : Setting) (past : List Entry) (nonce : List ℕ) (step : Step) (steps : List Step) (pass : Pass) (all : List Entry) → is_full w past ≡ false → waits w past step ≡ true → HasEnded w past nonce steps pass all → HasEnded w past nonce (step ∷ steps) pass all
past_waiting w past nonce step steps pass all room waiting (inl e) =
    let kept = entries_waiting w past step e.earlier room waiting in
    let none = waiting_nonce w past nonce step waiting in
    inl (record {
      earlier = step ∷ e.earlier;
      between = e.between;
      split = ap (λ l. step ∷ l) e.split;
      room = ap (is_full w) kept ∙ e.room;
      last = e.last ∙ sym kept;
      nonce_is = ap (λ n. nonce_after n steps) none ∙ e.nonce_is ∙ ap (λ n. nonce_after n e.earlier) (sym none);
      begun = e.begun;
      was = ap pass_after kept ∙ e.was;
      same = e.same;
    })
past_waiting w past nonce step steps pass all room waiting (inr e) = inr (record {
  last = e.last;
  nonce_is = ap (λ n. nonce_after n steps) (waiting_nonce w past nonce step waiting) ∙ e.nonce_is;
  begun = e.begun;
  was = e.was;
  same = e.same;
  ended = e.ended;
})

-- over a step at which the pass goes on, and which is no End
past_entry : (w : Setting) (past : List Entry) (nonce : List ℕ) (entry : Entry) (step : Step) (steps : List Step) (pass : Pass) (all : List Entry) → nonce_with nonce step ≡ nonce → is_end entry.act ≡ false → pass_after (entry ∷ past) ≡ option_map (longer entry) (pass_after past) → EndedBefore (entry ∷ past) (nonce_with nonce step) steps pass all → EndedBefore past nonce (step ∷ steps) pass all
past_entry w past nonce entry step steps pass all none other goes e =
    let g = went_on entry (pass_after past) e.begun (sym goes ∙ e.was) in
    record {
      last = e.last ∙ ap (λ b. if b then past else before_end past) other;
      nonce_is = e.nonce_is ∙ none;
      begun = g.earlier;
      was = g.was;
      same = start_kept entry (pass_after past) e.begun pass g e.same;
      ended = ap (λ b. b || is_ended g.earlier) (sym other) ∙ ap is_ended g.now ∙ e.ended;
    }

-- whether the pass that is there has ended
abbrev ended_of : Option Pass → Bool
ended_of None = false
ended_of (Some pass) = is_ended pass

-- over a step that makes an entry, where the pass has ended with it
at_step : (w : Setting) (past : List Entry) (nonce : List ℕ) (step : Step) (steps : List Step) (pass : Pass) (all : List Entry) → is_full w past ≡ false → EndedBefore (entry_of w past step ∷ past) (nonce_with nonce step) steps pass all → HasEnded w past nonce (step ∷ steps) pass all
at_step w past nonce (Load width addr) steps pass all room e = inr (past_entry w past nonce (entry_of w past (Load width addr)) (Load width addr) steps pass all refl refl refl e)
at_step w past nonce (Store width addr value) steps pass all room e = inr (past_entry w past nonce (entry_of w past (Store width addr value)) (Store width addr value) steps pass all refl refl refl e)
at_step w past nonce (Start discipline counter new) steps pass all room e =
    let fresh : is_ended e.begun ≡ false = sym (ap ended_of e.was) in
    absurd (false≢true (sym fresh ∙ e.ended))
at_step w past nonce Copy steps pass all room e = inr (past_entry w past nonce (entry_of w past Copy) Copy steps pass all refl refl refl e)
at_step w past nonce End steps pass all room e =
    let entry = entry_of w past End in
    let g = went_on entry (pass_after past) e.begun e.was in
    inl (record {
      earlier = [];
      between = steps;
      split = refl;
      room = room;
      last = e.last;
      nonce_is = e.nonce_is;
      begun = g.earlier;
      was = g.was;
      same = start_kept entry (pass_after past) e.begun pass g e.same;
    })
at_step w past nonce Tick steps pass all room e = inr (past_entry w past nonce (entry_of w past Tick) Tick steps pass all refl refl refl e)
at_step w past nonce Release steps pass all room e = inr (past_entry w past nonce (entry_of w past Release) Release steps pass all refl refl refl e)

-- over a step that makes an entry
past_step : (w : Setting) (past : List Entry) (nonce : List ℕ) (step : Step) (steps : List Step) (pass : Pass) (all : List Entry) → is_full w past ≡ false → waits w past step ≡ false → HasEnded w (entry_of w past step ∷ past) (nonce_with nonce step) steps pass all → HasEnded w past nonce (step ∷ steps) pass all
past_step w past nonce step steps pass all room free (inl e) =
    let next = entries_next w past step e.earlier room free in
    inl (record {
      earlier = step ∷ e.earlier;
      between = e.between;
      split = ap (λ l. step ∷ l) e.split;
      room = ap (is_full w) next ∙ e.room;
      last = e.last ∙ sym next;
      nonce_is = e.nonce_is;
      begun = e.begun;
      was = ap pass_after next ∙ e.was;
      same = e.same;
    })
past_step w past nonce step steps pass all room free (inr e) = at_step w past nonce step steps pass all room e

-- a pass that has ended after some steps ended among them or before them
find_end : (w : Setting) (past : List Entry) (nonce : List ℕ) (steps : List Step) (pass : Pass) → is_ended pass ≡ true → is_full w (entries_after w past steps) ≡ false → pass_after (entries_after w past steps) ≡ Some pass → HasEnded w past nonce steps pass (entries_after w past steps)
find_end w past nonce [] pass ended = λ room last. inr (record { last = refl; nonce_is = refl; begun = pass; was = last; same = record { discipline = refl; counter = refl; opened = refl }; ended = ended })
find_end w past nonce (step ∷ steps) pass ended =
    outcomes (λ all. is_full w all ≡ false → pass_after all ≡ Some pass → HasEnded w past nonce (step ∷ steps) pass all)
    (is_full w past) (waits w past step) past (entries_after w past steps) (entries_after w (entry_of w past step ∷ past) steps)
    (λ full room last. absurd (false≢true (sym room ∙ full)))
    (λ free waiting room last. past_waiting w past nonce step steps pass _ free waiting (find_end w past nonce steps pass ended room last))
    (λ free goes room last. past_step w past nonce step steps pass _ free goes (find_end w (entry_of w past step ∷ past) (nonce_with nonce step) steps pass ended room last))

-- from the first step on it ended among them
end_found : (w : Setting) (steps : List Step) (pass : Pass) (all : List Entry) → HasEnded w [] [] steps pass all → EndsIn w [] [] steps pass all
end_found w steps pass all (inl e) = e
end_found w steps pass all (inr e) = absurd (let was = e.was in cc)

-- a pass is there, and has ended
record HasEndedPass (before : Option Pass) : Type 0 where
  pass : Pass
  is : before ≡ Some pass
  ended : is_ended pass ≡ true

-- where the order rule allows Release
release_has_pass : (w : Setting) (before : Option Pass) → IsTrue (in_order w before acts.Release) → HasEndedPass before
release_has_pass w None h = absurd (false≢true h)
release_has_pass w (Some pass) h = record {
  pass = pass;
  is = refl;
  ended = (and_parts (is_extended pass.discipline) (is_ended pass) (and_parts (is_extended pass.discipline && is_ended pass) (not (is_released pass)) h).0).1;
}

-- Release at its place in the history, the newest entries before it first
releases_here : ReleasesThere → (history past : List Entry) (entry : Entry) (more : List Entry) (pass : Pass) → history ≡ reverse past ++ entry ∷ more → pass_after past ≡ Some pass → entry.act ≡ acts.Release → ReleasesAt history pass.discipline pass.counter (start_of pass) (length past + 1)
releases_here releases history past entry more pass whole last is =
    subst (λ l. ReleasesAt l pass.discipline pass.counter (start_of pass) (length past + 1)) (sym whole)
    (subst (λ n. ReleasesAt (reverse past ++ entry ∷ more) pass.discipline pass.counter (start_of pass) (n + 1)) (length-reverse past)
    (releases (reverse past) entry more pass (ap pass_after (reverse-reverse past) ∙ last) is))

-- the End of a pass is that of a pass with the same Start
ends_same : (history : List Entry) (begun pass : Pass) (place : ℕ) → SameStart begun pass → EndsAt history begun.discipline begun.counter (start_of begun) place → EndsAt history pass.discipline pass.counter (start_of pass) place
ends_same history begun pass place same ends =
    subst (λ discipline. EndsAt history discipline pass.counter (start_of pass) place) same.discipline
    (subst (λ counter. EndsAt history begun.discipline counter (start_of pass) place) same.counter
    (subst (λ start. EndsAt history begun.discipline begun.counter start place) (ap length same.opened) ends))

-- the note's tag
note_is : (w : Setting) (key nonce : List ℕ) (past : List Entry) (pass : Pass) (nonce_then : List ℕ) (past_then : List Entry) → pass_after past ≡ Some pass → before_end past ≡ past_then → nonce ≡ nonce_then
    → tag_at_release w key nonce past ≡ note_tag key pass.counter (start_of pass) (length past_then + 1) (length past + 1) (tag_at_end w key nonce_then past_then)
note_is w key nonce past pass nonce_then past_then last end same =
    ap (λ o. option_map_or (λ (p : Pass). note_tag key p.counter (start_of p) (length (before_end past) + 1) (length past + 1) (tag_at_end w key nonce (before_end past))) o []) last
    ∙ ap₂ (λ older n. note_tag key pass.counter (start_of pass) (length older + 1) (length past + 1) (tag_at_end w key n older)) end same

-- all of it at one Release
module _ (ends : EndsThere) (releases : ReleasesThere) where
  notes_end : (program : Program) → IsScript program → (before later : List Step) → program.steps ≡ before ++ Release ∷ later → (pass : Pass) → pass_after (entries_after program.setting [] before) ≡ Some pass
      → EndsIn program.setting [] [] before pass (entries_after program.setting [] before) → NotesEnd program before pass
  notes_end program script before later is pass last e =
      let w = program.setting in
      let past = entries_after w [] e.earlier in
      let steps = is ∙ ap (λ l. l ++ Release ∷ later) e.split ∙ append_assoc e.earlier (End ∷ e.between) (Release ∷ later) in
      let s = stands program script e.earlier (e.between ++ Release ∷ later) End steps e.room refl in
      record {
        earlier = e.earlier;
        between = e.between;
        steps = e.split;
        room = e.room;
        ends = ends_same (history_of program) e.begun pass (length past + 1) e.same (ends_here ends (history_of program) past (entry_of w past End) s.more e.begun s.whole e.was refl);
        tag = note_is w program.key (nonce_after [] before) (entries_after w [] before) pass (nonce_after [] e.earlier) past last e.last e.nonce_is;
      }

  pub released : (program : Program) → IsScript program → IsReleased program
  released program script = record {
    notes = λ before later is room.
        let w = program.setting in
        let past = entries_after w [] before in
        let s = stands program script before later Release is room refl in
        let p = release_has_pass w (pass_after past) s.follows.order in
        let e = end_found w before p.pass past (find_end w [] [] before p.pass p.ended room p.is) in
        (shown program before later Release is room refl, p.pass, p.is, releases_here releases (history_of program) past (entry_of w past Release) s.more p.pass s.whole p.is refl, notes_end program script before later is p.pass p.is e);
  }
