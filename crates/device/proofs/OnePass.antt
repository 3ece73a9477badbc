-- A pass of a legal history ends in one place, and is released in one.
use Rattle.std.proofs.Common.{◌≡◌, ℕ, ◌+◌, ◌<◌, ◌≤◌, Bool, true, false, List, [], ◌∷◌, ◌++◌, length, take, drop, reverse, Option, Some, None, option_map, refl, sym, ap, ◌∙◌, subst, inl, inr, arith, ap₂, length-append, length-take-le, take_all}
use Rattle.std.specs.Prelude.{◌||◌, ◌==◌, ◌⊎◌, IsTrue}
use Rattle.std.specs.List.{list_any}
use Rattle.std.proofs.lemmas.Bool.{and_parts, cases_lt, false≢true, not-true}
use Rattle.std.proofs.lemmas.List.{reverse-append, length-reverse, take-append-drop, take-take, drop_at}
use Rattle.std.proofs.lemmas.List.Folds.{list_any-append}
use Rattle.history.specs.declared.events.Discipline.{Discipline}
use Rattle.history.specs.declared.events.Act.{Act}
use Rattle.history.specs.declared.events.Act.TheVariants.{Fetch, Load, Store, Start, Copy, End, Tick, Release}
use Rattle.history.specs.declared.events.Entry.{Entry}
use Rattle.history.specs.Layout.{Setting}
use Rattle.history.specs.Memory.{back}
use Rattle.history.specs.Pass.{Pass, longer, pass_step, pass_after, start_of, is_released, is_end, is_release}
use Rattle.history.specs.Instants.{is_newest, IsPassAt, EndsAt, ReleasesAt}
use Rattle.history.specs.Legal.{IsLegal, IsLegalBack, in_order}
use Rattle.chronicle.specs.Ports.{entry_by}

-- ---- a history in its own order, and the entries before a place, the newest first

-- the older entries of a legal history are legal
pub legal_rest : (w : Setting) (newer older : List Entry) → IsLegalBack w (newer ++ older) → IsLegalBack w older
legal_rest w [] older h = h
legal_rest w (entry ∷ newer) older h = legal_rest w newer older h.0

-- a history is what comes after a place, and what comes before it
pub reverse_split : (history : List Entry) (place : ℕ) → reverse (drop place history) ++ back history place ≡ reverse history
reverse_split history place = sym (reverse-append (take place history) (drop place history)) ∙ ap reverse (take-append-drop place history)

pub legal_back : (w : Setting) (history : List Entry) → IsLegal w history → (place : ℕ) → IsLegalBack w (back history place)
legal_back w history legal place = legal_rest w (reverse (drop place history)) (back history place) (subst (λ l. IsLegalBack w l) (sym (reverse_split history place)) legal)

pub length_back : (history : List Entry) (place : ℕ) → place ≤ length history → length (back history place) ≡ place
length_back history place within = length-reverse (take place history) ∙ length-take-le place history within

-- the entries before a place end with those before an earlier one
pub back_split : (history : List Entry) (place later : ℕ) → place ≤ later → reverse (drop place (take later history)) ++ back history place ≡ back history later
back_split history place later order =
    ap (λ l. reverse (drop place (take later history)) ++ reverse l) (sym (take-take place later history order)) ∙ reverse_split (take later history) place

-- older entries before a place are those before their number
pub back_older : (history : List Entry) (later : ℕ) → later ≤ length history → (newer older : List Entry) → newer ++ older ≡ back history later → older ≡ back history (length older)
back_older history later within newer older whole =
    let place = length older in
    let count : length newer + place ≡ later = sym (length-append newer older) ∙ ap length whole ∙ length_back history later within in
    let order : place ≤ later = omega arith in
    let other = reverse (drop place (take later history)) in
    let both : other ++ back history place ≡ newer ++ older = back_split history place later order ∙ sym whole in
    let rest : place ≤ length history = omega arith in
    let counts : length other + length (back history place) ≡ length newer + length older = sym (length-append other (back history place)) ∙ ap length both ∙ length-append newer older in
    let same : length other ≡ length newer = omega (arith, length_back history place rest) in
    sym (drop_at newer older (length newer) refl) ∙ ap (λ l. drop (length newer) l) (sym both) ∙ drop_at other (back history place) (length newer) same

-- all of a history, the newest first
pub back_all : (history : List Entry) → back history (length history) ≡ reverse history
back_all history = ap reverse (take_all (length history) history (omega arith))

-- ---- a pass from one entry to the next

-- the act opens a pass with this counter
abbrev pub opens : ℕ → Act → Bool
opens counter (Start discipline number) = number == counter
opens counter _ = false

-- the entry opened the pass
pub record Opened (entry : Entry) (past : List Entry) (pass : Pass) : Type 0 where
  pub starts : entry.act ≡ Start pass.discipline pass.counter
  pub since : pass.since ≡ []
  pub opened : pass.opened ≡ entry ∷ past

-- an earlier pass went on with the entry
pub record WentOn (entry : Entry) (before : Option Pass) (pass : Pass) : Type 0 where
  pub earlier : Pass
  pub was : before ≡ Some earlier
  pub now : longer entry earlier ≡ pass

went_on : (entry : Entry) (before : Option Pass) (pass : Pass) → option_map (longer entry) before ≡ Some pass → WentOn entry before pass
went_on entry None pass h = absurd cc
went_on entry (Some earlier) pass h = record { earlier = earlier; was = refl; now = cc }

step_cases : (actor : ℕ) (act : Act) (past : List Entry) (before : Option Pass) (pass : Pass) → pass_step act (entry_by actor act) past before ≡ Some pass → Opened (entry_by actor act) past pass ⊎ WentOn (entry_by actor act) before pass
step_cases actor (Start discipline counter) past before pass h =
    let same : record { discipline = discipline; counter = counter; since = []; opened = entry_by actor (Start discipline counter) ∷ past } ≡ pass = cc in
    inl (record { starts = ap (λ p. Start p.discipline p.counter) same; since = sym (ap (λ p. p.since) same); opened = sym (ap (λ p. p.opened) same) })
step_cases actor (Fetch addr value) past before pass h = inr (went_on _ before pass h)
step_cases actor (Load addr width value) past before pass h = inr (went_on _ before pass h)
step_cases actor (Store addr width value) past before pass h = inr (went_on _ before pass h)
step_cases actor (Copy block) past before pass h = inr (went_on _ before pass h)
step_cases actor End past before pass h = inr (went_on _ before pass h)
step_cases actor Tick past before pass h = inr (went_on _ before pass h)
step_cases actor Release past before pass h = inr (went_on _ before pass h)

-- the newest entry opened the pass, or a pass went on with it
pub pass_cases : (entry : Entry) (past : List Entry) (pass : Pass) → pass_after (entry ∷ past) ≡ Some pass → Opened entry past pass ⊎ WentOn entry (pass_after past) pass
pass_cases entry past pass h = step_cases entry.actor entry.act past (pass_after past) pass h

-- a pass is the entries since its Start, and those up to it
pub pass_whole : (past : List Entry) (pass : Pass) → pass_after past ≡ Some pass → pass.since ++ pass.opened ≡ past
pass_whole [] pass h = absurd cc
pass_whole (entry ∷ past) pass h =
    elim (pass_cases entry past pass h) [
      | inl o ↦ ap₂ (λ since opened. since ++ opened) o.since o.opened
      | inr g ↦ subst (λ p. p.since ++ p.opened ≡ entry ∷ past) g.now (ap (λ l. entry ∷ l) (pass_whole past g.earlier g.was))
    ]

-- the same pass at an earlier place
pub record Before (newer older : List Entry) (pass : Pass) : Type 0 where
  pub earlier : Pass
  pub was : pass_after older ≡ Some earlier
  pub since : newer ++ earlier.since ≡ pass.since

-- a pass goes back to its Start
pub pass_before : (newer older : List Entry) (pass : Pass) → pass_after (newer ++ older) ≡ Some pass → start_of pass ≤ length older → Before newer older pass
pass_before [] older pass h from = record { earlier = pass; was = h; since = refl }
pass_before (entry ∷ newer) older pass h from =
    elim (pass_cases entry (newer ++ older) pass h) [
      | inl o ↦ absurd (omega (arith, from, ap length o.opened, length-append newer older))
      | inr g ↦
          let from' = subst (λ p. start_of p ≤ length older) (sym g.now) from in
          let e = pass_before newer older g.earlier g.was from' in
          subst (λ p. Before (entry ∷ newer) older p) g.now (record { earlier = e.earlier; was = e.was; since = ap (λ l. entry ∷ l) e.since })
    ]

-- the pass begins no later than where it is
pub starts_before : (history : List Entry) (form : Discipline) (number start place : ℕ) (pass : Pass) → IsPassAt history form number start place pass → start ≤ place
starts_before history form number start place pass here =
    let whole = ap length (pass_whole (back history place) pass here.last) in
    omega (arith, length-append pass.since pass.opened, whole, length_back history place here.within, here.began)

-- ---- entries that come once in a pass

abbrev pub has_one : (Act → Bool) → List Entry → Bool
has_one test entries = list_any (λ entry. test entry.act) entries

-- the order rule allows no act of this kind in a pass that has one
abbrev pub ComesOnce : Setting → (Act → Bool) → Type 0
ComesOnce w test = (a : Act) (pass : Pass) → IsTrue (test a) → IsTrue (in_order w (Some pass) a) → has_one test pass.since ≡ false

end_once : (w : Setting) → ComesOnce w is_end
end_once w End pass kind order = not-true _ (and_parts _ _ order).0
end_once w (Fetch addr value) pass kind order = absurd (false≢true kind)
end_once w (Load addr width value) pass kind order = absurd (false≢true kind)
end_once w (Store addr width value) pass kind order = absurd (false≢true kind)
end_once w (Start discipline counter) pass kind order = absurd (false≢true kind)
end_once w (Copy block) pass kind order = absurd (false≢true kind)
end_once w Tick pass kind order = absurd (false≢true kind)
end_once w Release pass kind order = absurd (false≢true kind)

release_once : (w : Setting) → ComesOnce w is_release
release_once w Release pass kind order = not-true _ (and_parts _ _ order).1
release_once w (Fetch addr value) pass kind order = absurd (false≢true kind)
release_once w (Load addr width value) pass kind order = absurd (false≢true kind)
release_once w (Store addr width value) pass kind order = absurd (false≢true kind)
release_once w (Start discipline counter) pass kind order = absurd (false≢true kind)
release_once w (Copy block) pass kind order = absurd (false≢true kind)
release_once w Tick pass kind order = absurd (false≢true kind)
release_once w End pass kind order = absurd (false≢true kind)

-- the newest entry is one of them
pub newest_has : (test : Act → Bool) (since : List Entry) → IsTrue (is_newest test since) → has_one test since ≡ true
newest_has test [] newest = absurd (false≢true newest)
newest_has test (entry ∷ since) newest = ap (λ b. b || has_one test since) newest

pub some_of : {A : Type 0} (x y : A) → Some x ≡ Some y → x ≡ y
some_of x y h = cc

or_none : (a b : Bool) → (a || b) ≡ false → b ≡ false
or_none true b h = absurd (false≢true (sym h))
or_none false b h = h

-- before its newest entry, which comes once, the pass had none such
none_before : (w : Setting) (test : Act → Bool) → ComesOnce w test → (past : List Entry) → IsLegalBack w past → (pass : Pass) → pass_after past ≡ Some pass → IsTrue (is_newest test pass.since)
    → (newer older : List Entry) → newer ++ older ≡ past → length older < length past → start_of pass ≤ length older
    → (other : Pass) → pass_after older ≡ Some other → has_one test other.since ≡ false
none_before w test once [] legal pass h newest newer older whole fewer from other was = absurd cc
none_before w test once (entry ∷ past) legal pass h newest [] older whole fewer from other was = absurd (omega (arith, ap length whole, fewer))
none_before w test once (entry ∷ past) legal pass h newest (e ∷ newer) older whole fewer from other was =
    elim (pass_cases entry past pass h) [
      | inl o ↦ absurd (false≢true (sym (ap (λ l. is_newest test l) o.since) ∙ newest))
      | inr g ↦
          let kind : IsTrue (test entry.act) = subst (λ p. IsTrue (is_newest test p.since)) (sym g.now) newest in
          let none : has_one test g.earlier.since ≡ false = once entry.act g.earlier kind (subst (λ b. IsTrue (in_order w b entry.act)) g.was legal.1.order) in
          let rest : newer ++ older ≡ past = cc in
          let from' = subst (λ p. start_of p ≤ length older) (sym g.now) from in
          let e = pass_before newer older g.earlier (ap pass_after rest ∙ g.was) from' in
          let same : e.earlier ≡ other = some_of _ _ (sym e.was ∙ was) in
          let split : (has_one test newer || has_one test other.since) ≡ false =
          ap (λ p. has_one test newer || has_one test p.since) (sym same) ∙ sym (list_any-append (λ entry. test entry.act) newer e.earlier.since) ∙ ap (has_one test) e.since ∙ none in
          or_none (has_one test newer) (has_one test other.since) split
    ]

-- where the newest entry of a pass comes once, the pass has none such at an earlier place
no_later : (w : Setting) (test : Act → Bool) → ComesOnce w test → (history : List Entry) → IsLegal w history → (form : Discipline) (number start place other : ℕ) (pass earlier : Pass)
    → IsPassAt history form number start place pass → IsTrue (is_newest test pass.since)
    → IsPassAt history form number start other earlier → has_one test earlier.since ≡ true → place ≤ other
no_later w test once history legal form number start place other pass earlier here newest there has =
    elim (cases_lt other place) [
      | inl before ↦
          let none = none_before w test once (back history place) (legal_back w history legal place) pass here.last newest
          (reverse (drop other (take place history))) (back history other) (back_split history other place (omega arith))
          (omega (arith, length_back history place here.within, length_back history other there.within))
          (omega (arith, here.began, starts_before history form number start other earlier there, length_back history other there.within)) earlier there.last in
          absurd (false≢true (sym none ∙ has))
      | inr after ↦ after
    ]

pub antisym : (a b : ℕ) → a ≤ b → b ≤ a → a ≡ b
antisym a b h k = omega arith

-- a pass has one End
pub one_end : (w : Setting) (history : List Entry) → IsLegal w history → (form : Discipline) (number start end other : ℕ) → EndsAt history form number start end → EndsAt history form number start other → end ≡ other
one_end w history legal form number start end other e o =
    antisym end other
    (no_later w is_end (end_once w) history legal form number start end other e.pass o.pass e.here e.newest o.here (newest_has is_end o.pass.since o.newest))
    (no_later w is_end (end_once w) history legal form number start other end o.pass e.pass o.here o.newest e.here (newest_has is_end e.pass.since e.newest))

-- a pass that is released no longer is unreleased at the history's end
not_unreleased : (w : Setting) (history : List Entry) → (form : Discipline) (number start place : ℕ) (pass last : Pass)
    → IsPassAt history form number start place pass → has_one is_release pass.since ≡ true
    → IsPassAt history form number start (length history) last → is_released last ≡ false → ⊥
not_unreleased w history form number start place pass last here has there none =
    let newer = reverse (drop place (take (length history) history)) in
    let e = pass_before newer (back history place) last (ap pass_after (back_split history place (length history) here.within) ∙ there.last)
    (omega (arith, there.began, starts_before history form number start place pass here, length_back history place here.within)) in
    let same : e.earlier ≡ pass = some_of _ _ (sym e.was ∙ here.last) in
    let split : (has_one is_release newer || has_one is_release pass.since) ≡ false =
    ap (λ p. has_one is_release newer || has_one is_release p.since) (sym same) ∙ sym (list_any-append (λ entry. is_release entry.act) newer e.earlier.since) ∙ ap (has_one is_release) e.since ∙ none in
    false≢true (sym (or_none (has_one is_release newer) (has_one is_release pass.since) split) ∙ has)

-- a pass is released in one place
pub one_release : (w : Setting) (history : List Entry) → IsLegal w history → (form : Discipline) (number start release other : ℕ) → ReleasesAt history form number start release → ReleasesAt history form number start other → release ≡ other
one_release w history legal form number start release other r o =
    elim r.newest [
      | inl newest ↦ elim o.newest [
        | inl also ↦ antisym release other
            (no_later w is_release (release_once w) history legal form number start release other r.pass o.pass r.here newest o.here (newest_has is_release o.pass.since also))
            (no_later w is_release (release_once w) history legal form number start other release o.pass r.pass o.here also r.here (newest_has is_release r.pass.since newest))
        | inr last ↦ absurd (not_unreleased w history form number start release r.pass o.pass r.here (newest_has is_release r.pass.since newest)
            (subst (λ n. IsPassAt history form number start n o.pass) last.0 o.here) last.1)
      ]
      | inr last ↦ elim o.newest [
        | inl also ↦ absurd (not_unreleased w history form number start other o.pass r.pass o.here (newest_has is_release o.pass.since also)
            (subst (λ n. IsPassAt history form number start n r.pass) last.0 r.here) last.1)
        | inr end ↦ last.0 ∙ sym end.0
      ]
    ]
