-- A pass of an extended discipline that has ended is released somewhere, at least at the history's end.
use Rattle.std.proofs.Common.{◌≡◌, ℕ, ◌≤◌, true, false, not, List, [], ◌∷◌, ◌++◌, length, take, drop, reverse, Some, refl, sym, ap, ◌∙◌, subst, inl, inr, arith, ap₂, length-append}
use Rattle.std.specs.Prelude.{◌&&◌, ◌||◌, ◌⊎◌, IsTrue}
use Rattle.std.specs.List.{list_any}
use Rattle.std.proofs.lemmas.Bool.{and_parts, false≢true, not-true}
use Rattle.history.specs.declared.events.Discipline.{Discipline}
use Rattle.history.specs.declared.events.Act.{Act}
use Rattle.history.specs.declared.events.Act.TheVariants.{Fetch, Load, Store, Start, Copy, End, Tick, Release}
use Rattle.history.specs.declared.events.Entry.{Entry}
use Rattle.history.specs.Layout.{Setting}
use Rattle.history.specs.Memory.{back}
use Rattle.history.specs.Pass.{Pass, longer, pass_after, is_ended, is_extended, is_released, is_end, is_release}
use Rattle.history.specs.Instants.{is_newest, EndsAt, ReleasesAt}
use Rattle.history.specs.Legal.{IsLegal, IsLegalBack, in_order}
use Rattle.chronicle.specs.Ports.{entry_by}
use Rattle.device.proofs.OnePass.{legal_back, length_back, back_split, back_older, pass_cases, newest_has}

-- ---- a Release comes after End

-- what a pass has, once it is longer
abbrev EndedFirst : Pass → Type 0
EndedFirst pass = is_ended pass ≡ false → is_released pass ≡ false

ended_first_on : (w : Setting) (actor : ℕ) (a : Act) (earlier : Pass) → EndedFirst earlier → IsTrue (in_order w (Some earlier) a) → EndedFirst (longer (entry_by actor a) earlier)
ended_first_on w actor (Fetch addr value) earlier t o = t
ended_first_on w actor (Load addr width value) earlier t o = t
ended_first_on w actor (Store addr width value) earlier t o = t
ended_first_on w actor (Start discipline counter) earlier t o = t
ended_first_on w actor Tick earlier t o = t
ended_first_on w actor (Copy block) earlier t o = t
ended_first_on w actor End earlier t o = λ none. absurd (false≢true (sym none))
ended_first_on w actor Release earlier t o = λ none. absurd (false≢true (sym none ∙ (and_parts _ _ (and_parts _ _ o).0).1))

ended_first : (w : Setting) (past : List Entry) → IsLegalBack w past → (pass : Pass) → pass_after past ≡ Some pass → EndedFirst pass
ended_first w [] legal pass h = absurd cc
ended_first w (entry ∷ past) legal pass h =
    elim (pass_cases entry past pass h) [
      | inl o ↦ λ none. ap (λ since. list_any (λ entry. is_release entry.act) since) o.since
      | inr g ↦ subst (λ p. EndedFirst p) g.now (ended_first_on w entry.actor entry.act g.earlier (ended_first w past legal.0 g.earlier g.was) (subst (λ b. IsTrue (in_order w b entry.act)) g.was legal.1.order))
    ]

-- the kinds of the newest entry exclude one another
end_releases_not : (a : Act) → IsTrue (is_end a) → is_release a ≡ false
end_releases_not End kind = refl
end_releases_not Release kind = absurd (false≢true kind)
end_releases_not (Fetch addr value) kind = refl
end_releases_not (Load addr width value) kind = refl
end_releases_not (Store addr width value) kind = refl
end_releases_not (Start discipline counter) kind = refl
end_releases_not (Copy block) kind = refl
end_releases_not Tick kind = refl

-- at End a pass was not ended before
end_is_first : (w : Setting) (a : Act) (pass : Pass) → IsTrue (is_end a) → IsTrue (in_order w (Some pass) a) → is_ended pass ≡ false
end_is_first w End pass kind order = not-true _ (and_parts _ _ order).0
end_is_first w (Fetch addr value) pass kind order = absurd (false≢true kind)
end_is_first w (Load addr width value) pass kind order = absurd (false≢true kind)
end_is_first w (Store addr width value) pass kind order = absurd (false≢true kind)
end_is_first w (Start discipline counter) pass kind order = absurd (false≢true kind)
end_is_first w (Copy block) pass kind order = absurd (false≢true kind)
end_is_first w Tick pass kind order = absurd (false≢true kind)
end_is_first w Release pass kind order = absurd (false≢true kind)

-- at its End a pass isn't released
unreleased_at_end : (w : Setting) (past : List Entry) → IsLegalBack w past → (pass : Pass) → pass_after past ≡ Some pass → IsTrue (is_newest is_end pass.since) → is_released pass ≡ false
unreleased_at_end w [] legal pass h newest = absurd cc
unreleased_at_end w (entry ∷ past) legal pass h newest =
    elim (pass_cases entry past pass h) [
      | inl o ↦ absurd (false≢true (sym (ap (λ l. is_newest is_end l) o.since) ∙ newest))
      | inr g ↦
          let kind : IsTrue (is_end entry.act) = subst (λ p. IsTrue (is_newest is_end p.since)) (sym g.now) newest in
          let none = end_is_first w entry.act g.earlier kind (subst (λ b. IsTrue (in_order w b entry.act)) g.was legal.1.order) in
          let unreleased : is_released g.earlier ≡ false = ended_first w past legal.0 g.earlier g.was none in
          subst (λ p. is_released p ≡ false) g.now (ap₂ (λ a b. a || b) (end_releases_not entry.act kind) unreleased)
    ]

-- ---- from End on

-- the same pass, ended, and not released
record Held (form : Discipline) (number : ℕ) (opened past : List Entry) : Type 0 where
  pub pass : Pass
  pub last : pass_after past ≡ Some pass
  pub discipline : pass.discipline ≡ form
  pub counter : pass.counter ≡ number
  pub began : pass.opened ≡ opened
  pub ended : is_ended pass ≡ true
  pub released : is_released pass ≡ false

-- the same pass, at its Release
record LetGo (form : Discipline) (number : ℕ) (opened newer older : List Entry) : Type 0 where
  pub since : List Entry
  pub between : List Entry
  pub whole : since ++ between ≡ newer
  pub pass : Pass
  pub last : pass_after (between ++ older) ≡ Some pass
  pub discipline : pass.discipline ≡ form
  pub counter : pass.counter ≡ number
  pub began : pass.opened ≡ opened
  pub newest : IsTrue (is_newest is_release pass.since)

-- no Start comes while the pass is held
no_start : (w : Setting) (form : Discipline) (number : ℕ) (pass : Pass) → IsTrue (is_extended pass.discipline) → is_ended pass ≡ true → is_released pass ≡ false → IsTrue (in_order w (Some pass) (Start form number)) → ⊥
no_start w form number pass extended ended unreleased order =
    let open_still : (not (is_ended pass) || (is_extended pass.discipline && not (is_released pass))) ≡ true =
    ap₂ (λ a b. not a || (is_extended pass.discipline && not b)) ended unreleased ∙ ap (λ b. b && true) extended in
    false≢true (sym (not-true _ order) ∙ open_still)

held_step : (w : Setting) (form : Discipline) (number : ℕ) (opened newer older : List Entry) (actor : ℕ) (a : Act) → IsTrue (is_extended form)
    → (h : Held form number opened (newer ++ older)) → IsTrue (in_order w (pass_after (newer ++ older)) a)
    → Held form number opened (entry_by actor a ∷ newer ++ older) ⊎ LetGo form number opened (entry_by actor a ∷ newer) older
held_step w form number opened newer older actor (Start discipline counter) extended h order =
    absurd (no_start w discipline counter h.pass (subst (λ f. IsTrue (is_extended f)) (sym h.discipline) extended) h.ended h.released (subst (λ b. IsTrue (in_order w b (Start discipline counter))) h.last order))
held_step w form number opened newer older actor Release extended h order =
    inr (record { since = []; between = entry_by actor Release ∷ newer; whole = refl; pass = longer (entry_by actor Release) h.pass; last = rw h.last refl; discipline = h.discipline; counter = h.counter; began = h.began; newest = refl })
held_step w form number opened newer older actor (Fetch addr value) extended h order =
    inl (record { pass = longer (entry_by actor (Fetch addr value)) h.pass; last = rw h.last refl; discipline = h.discipline; counter = h.counter; began = h.began; ended = h.ended; released = h.released })
held_step w form number opened newer older actor (Load addr width value) extended h order =
    inl (record { pass = longer (entry_by actor (Load addr width value)) h.pass; last = rw h.last refl; discipline = h.discipline; counter = h.counter; began = h.began; ended = h.ended; released = h.released })
held_step w form number opened newer older actor (Store addr width value) extended h order =
    inl (record { pass = longer (entry_by actor (Store addr width value)) h.pass; last = rw h.last refl; discipline = h.discipline; counter = h.counter; began = h.began; ended = h.ended; released = h.released })
held_step w form number opened newer older actor (Copy block) extended h order =
    inl (record { pass = longer (entry_by actor (Copy block)) h.pass; last = rw h.last refl; discipline = h.discipline; counter = h.counter; began = h.began; ended = h.ended; released = h.released })
held_step w form number opened newer older actor End extended h order =
    inl (record { pass = longer (entry_by actor End) h.pass; last = rw h.last refl; discipline = h.discipline; counter = h.counter; began = h.began; ended = refl; released = h.released })
held_step w form number opened newer older actor Tick extended h order =
    inl (record { pass = longer (entry_by actor Tick) h.pass; last = rw h.last refl; discipline = h.discipline; counter = h.counter; began = h.began; ended = h.ended; released = h.released })

held_or_let_go : (w : Setting) (form : Discipline) (number : ℕ) (opened newer older : List Entry) → IsLegalBack w (newer ++ older) → IsTrue (is_extended form)
    → Held form number opened older → Held form number opened (newer ++ older) ⊎ LetGo form number opened newer older
held_or_let_go w form number opened [] older legal extended h = inl h
held_or_let_go w form number opened (entry ∷ newer) older legal extended h =
    elim (held_or_let_go w form number opened newer older legal.0 extended h) [
      | inl still ↦ held_step w form number opened newer older entry.actor entry.act extended still legal.1.order
      | inr l ↦ inr (record { since = entry ∷ l.since; between = l.between; whole = ap (λ n. entry ∷ n) l.whole; pass = l.pass; last = l.last; discipline = l.discipline; counter = l.counter; began = l.began; newest = l.newest })
    ]

-- a place from End on at which the pass is released
abbrev pub Released : List Entry → Discipline → ℕ → ℕ → ℕ → Type 0
Released history form number start end = (release : ℕ) × (end ≤ release) × ReleasesAt history form number start release

append-assoc : {A : Type 0} (a b c : List A) → (a ++ b) ++ c ≡ a ++ (b ++ c)
append-assoc [] b c = refl
append-assoc (x ∷ a) b c = ap (λ l. x ∷ l) (append-assoc a b c)

let_go_there : (history : List Entry) (form : Discipline) (number start end : ℕ) (opened newer : List Entry) → length opened ≡ start → end ≤ length history → newer ++ back history end ≡ back history (length history)
    → LetGo form number opened newer (back history end) → Released history form number start end
let_go_there history form number start end opened newer began within whole l =
    let place = length (l.between ++ back history end) in
    let split : l.since ++ (l.between ++ back history end) ≡ back history (length history) = sym (append-assoc l.since l.between (back history end)) ∙ ap (λ n. n ++ back history end) l.whole ∙ whole in
    let here : l.between ++ back history end ≡ back history place = back_older history (length history) (omega arith) l.since (l.between ++ back history end) split in
    let all = sym (length-append l.since (l.between ++ back history end)) ∙ ap length split ∙ length_back history (length history) (omega arith) in (
      place,
      omega (arith, length-append l.between (back history end), length_back history end within),
      record {
        pass = l.pass;
        here = record { within = omega (arith, all); last = ap pass_after (sym here) ∙ l.last; discipline = l.discipline; counter = l.counter; began = ap length l.began ∙ began };
        newest = inl l.newest;
      },
    )

held_at_last : (history : List Entry) (form : Discipline) (number start end : ℕ) (opened : List Entry) → length opened ≡ start → end ≤ length history
    → Held form number opened (back history (length history)) → Released history form number start end
held_at_last history form number start end opened began within h = (
  length history,
  within,
  record {
    pass = h.pass;
    here = record { within = omega arith; last = h.last; discipline = h.discipline; counter = h.counter; began = ap length h.began ∙ began };
    newest = inr (refl, h.released);
  },
)

pub released : (w : Setting) (history : List Entry) → IsLegal w history → (form : Discipline) (number start end : ℕ) → EndsAt history form number start end → IsTrue (is_extended form) → Released history form number start end
released w history legal form number start end e extended =
    let newer = reverse (drop end (take (length history) history)) in
    let whole : newer ++ back history end ≡ back history (length history) = back_split history end (length history) e.here.within in
    let held : Held form number e.pass.opened (back history end) = record {
      pass = e.pass;
      last = e.here.last;
      discipline = e.here.discipline;
      counter = e.here.counter;
      began = refl;
      ended = newest_has is_end e.pass.since e.newest;
      released = unreleased_at_end w (back history end) (legal_back w history legal end) e.pass e.here.last e.newest;
    } in
    elim (held_or_let_go w form number e.pass.opened newer (back history end) (subst (λ l. IsLegalBack w l) (sym whole) (legal_back w history legal (length history))) extended held) [
      | inl still ↦ held_at_last history form number start end e.pass.opened e.here.began e.here.within (subst (λ l. Held form number e.pass.opened l) whole still)
      | inr l ↦ let_go_there history form number start end e.pass.opened newer e.here.began e.here.within whole l
    ]
