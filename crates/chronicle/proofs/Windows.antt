-- One pass at several places of a legal history, and the places just before its End and its Release.
use Rattle.std.proofs.Common.{◌≡◌, ℕ, ◌+◌, ◌<◌, ◌≤◌, Bool, true, false, not, List, [], ◌∷◌, ◌++◌, length, take, drop, reverse, Some, None, refl, sym, ap, ◌∙◌, subst, inl, inr, arith, length-append}
use Rattle.std.specs.Prelude.{◌&&◌, ◌==◌, IsTrue, unwrap_or}
use Rattle.std.specs.List.{list_any}
use Rattle.std.proofs.lemmas.Bool.{and_parts, or_parts, or_right, cases_lt, false≢true, not-true, eqb-true}
use Rattle.std.proofs.lemmas.List.Folds.{list_any-append}
use Rattle.history.specs.declared.events.Discipline.{Discipline}
use Rattle.history.specs.declared.events.Act.{Act}
use Rattle.history.specs.declared.events.Act.TheVariants.{Fetch, Load, Store, Start, Copy, End, Tick, Release}
use Rattle.history.specs.declared.events.Entry.{Entry}
use Rattle.history.specs.Attested.{total}
use Rattle.history.specs.Layout.{Setting}
use Rattle.history.specs.Memory.{back, memory_after, memory_at, put_at}
use Rattle.history.specs.Pass.{Pass, longer, pass_after, start_of, copied_of, is_ended, is_released, is_copy, is_end, is_release, is_extended}
use Rattle.history.specs.Legal.{IsLegalBack, IsLegal, in_order}
use Rattle.history.specs.Instants.{is_newest, IsPassAt, EndsAt, ReleasesAt}
use Rattle.chronicle.proofs.Passes.{pass_whole, earlier_pass, closes}
use Rattle.chronicle.proofs.Places.{legal_back, length_back, back_split, back_older}

-- the entries up to and with the pass's Start are those before the Start's place
pub opened_is : (history : List Entry) (form : Discipline) (number start place : ℕ) (pass : Pass) → IsPassAt history form number start place pass → pass.opened ≡ back history start
opened_is history form number start place pass here =
    back_older history place here.within pass.since pass.opened (pass_whole (back history place) pass here.last) ∙ ap (back history) here.began

-- the pass begins no later than where it is
pub starts_before : (history : List Entry) (form : Discipline) (number start place : ℕ) (pass : Pass) → IsPassAt history form number start place pass → start ≤ place
starts_before history form number start place pass here =
    let whole = ap length (pass_whole (back history place) pass here.last) in
    omega (arith, length-append pass.since pass.opened, whole, length_back history place here.within, here.began)

-- the pass at an earlier place, with the entries that came since
pub record WasAt (history : List Entry) (form : Discipline) (number start place later : ℕ) (pass : Pass) : Type 0 where
  pub earlier : Pass
  pub here : IsPassAt history form number start place earlier
  pub newer : List Entry
  pub whole : newer ++ back history place ≡ back history later
  pub since : newer ++ earlier.since ≡ pass.since

-- a pass was there from its Start on
pub was_at : (history : List Entry) (form : Discipline) (number start later : ℕ) (pass : Pass) → IsPassAt history form number start later pass → (place : ℕ) → start ≤ place → place ≤ later → WasAt history form number start place later pass
was_at history form number start later pass here place from upto =
    let newer = reverse (drop place (take later history)) in
    let within : place ≤ length history = omega (arith, here.within) in
    let last : pass_after (newer ++ back history place) ≡ Some pass = ap pass_after (back_split history place later upto) ∙ here.last in
    let began : start_of pass ≤ length (back history place) = omega (arith, here.began, length_back history place within) in
    let e = earlier_pass newer (back history place) pass last began in
    record {
      earlier = e.earlier;
      here = record { within = within; last = e.was; discipline = e.discipline ∙ here.discipline; counter = e.counter ∙ here.counter; began = ap length e.opened ∙ here.began };
      newer = newer;
      whole = back_split history place later upto;
      since = e.since;
    }

-- what never came in the longer pass never came in the shorter one
pub none_earlier : (test : Entry → Bool) (newer since all : List Entry) → newer ++ since ≡ all → list_any test all ≡ false → list_any test since ≡ false
none_earlier test newer since all whole none = (or_parts (list_any test newer) (list_any test since) (sym (list_any-append test newer since) ∙ ap (list_any test) whole ∙ none)).1

-- what came in the shorter pass came in the longer one
pub some_later : (test : Entry → Bool) (newer since all : List Entry) → newer ++ since ≡ all → list_any test since ≡ true → list_any test all ≡ true
some_later test newer since all whole some = ap (list_any test) (sym whole) ∙ list_any-append test newer since ∙ or_right (list_any test newer) (list_any test since) some

-- the place just before the newest entry of the pass
pub record ClosedAt (history : List Entry) (form : Discipline) (number start place : ℕ) (pass : Pass) (test : Act → Bool) : Type 0 where
  pub before : ℕ
  pub next : before + 1 ≡ place
  pub entry : Entry
  pub whole : back history place ≡ entry ∷ back history before
  pub kind : IsTrue (test entry.act)
  pub earlier : Pass
  pub here : IsPassAt history form number start before earlier
  pub now : longer entry earlier ≡ pass

-- the newest entry of a pass
pub closed_at : (test : Act → Bool) (history : List Entry) (form : Discipline) (number start place : ℕ) (pass : Pass) → IsPassAt history form number start place pass → IsTrue (is_newest test pass.since) → ClosedAt history form number start place pass test
closed_at test history form number start place pass here newest =
    let c = closes test (back history place) pass here.last newest in
    let before = length c.before in
    let next : before + 1 ≡ place = omega (arith, ap length c.whole, length_back history place here.within) in
    let same = back_older history place here.within (c.entry ∷ []) c.before (sym c.whole) in
    let now = c.on.now in
    record {
      before = before;
      next = next;
      entry = c.entry;
      whole = c.whole ∙ ap (λ l. c.entry ∷ l) same;
      kind = c.kind;
      earlier = c.on.earlier;
      here = record {
        within = omega (arith, here.within);
        last = ap pass_after (sym same) ∙ c.on.was;
        discipline = ap (λ p. p.discipline) now ∙ here.discipline;
        counter = ap (λ p. p.counter) now ∙ here.counter;
        began = ap start_of now ∙ here.began;
      };
      now = now;
    }

-- an End comes once every block is copied, and no second one
pub end_order : (w : Setting) (act : Act) (pass : Pass) → IsTrue (is_end act) → IsTrue (in_order w (Some pass) act) → (is_ended pass ≡ false) × (copied_of pass ≡ total w.ranges)
end_order w End pass is order = let o = and_parts (not (is_ended pass)) (copied_of pass == total w.ranges) order in (not-true _ o.0, eqb-true _ _ o.1)
end_order w (Fetch addr value) pass is order = absurd (false≢true is)
end_order w (Load addr width value) pass is order = absurd (false≢true is)
end_order w (Store addr width value) pass is order = absurd (false≢true is)
end_order w (Start discipline counter) pass is order = absurd (false≢true is)
end_order w (Copy block) pass is order = absurd (false≢true is)
end_order w Tick pass is order = absurd (false≢true is)
end_order w Release pass is order = absurd (false≢true is)

-- a Release comes after End, and no second one
pub release_order : (w : Setting) (act : Act) (pass : Pass) → IsTrue (is_release act) → IsTrue (in_order w (Some pass) act) → (is_released pass ≡ false) × (is_ended pass ≡ true)
release_order w Release pass is order =
    let o = and_parts (is_extended pass.discipline && is_ended pass) (not (is_released pass)) order in
    (not-true _ o.1, (and_parts (is_extended pass.discipline) (is_ended pass) o.0).1)
release_order w (Fetch addr value) pass is order = absurd (false≢true is)
release_order w (Load addr width value) pass is order = absurd (false≢true is)
release_order w (Store addr width value) pass is order = absurd (false≢true is)
release_order w (Start discipline counter) pass is order = absurd (false≢true is)
release_order w (Copy block) pass is order = absurd (false≢true is)
release_order w End pass is order = absurd (false≢true is)
release_order w Tick pass is order = absurd (false≢true is)

-- an End puts no byte, copies no block and is no Release
pub end_puts : (act : Act) → IsTrue (is_end act) → (x : ℕ) → (put_at act x ≡ None) × (is_copy act ≡ false) × (is_release act ≡ false)
end_puts End is x = (refl, refl, refl)
end_puts (Fetch addr value) is x = absurd (false≢true is)
end_puts (Load addr width value) is x = absurd (false≢true is)
end_puts (Store addr width value) is x = absurd (false≢true is)
end_puts (Start discipline counter) is x = absurd (false≢true is)
end_puts (Copy block) is x = absurd (false≢true is)
end_puts Tick is x = absurd (false≢true is)
end_puts Release is x = absurd (false≢true is)

-- a Release puts no byte
pub release_puts : (act : Act) → IsTrue (is_release act) → (x : ℕ) → put_at act x ≡ None
release_puts Release is x = refl
release_puts (Fetch addr value) is x = absurd (false≢true is)
release_puts (Load addr width value) is x = absurd (false≢true is)
release_puts (Store addr width value) is x = absurd (false≢true is)
release_puts (Start discipline counter) is x = absurd (false≢true is)
release_puts (Copy block) is x = absurd (false≢true is)
release_puts End is x = absurd (false≢true is)
release_puts Tick is x = absurd (false≢true is)

-- the entry at a place may follow the entries before it
pub followed : (w : Setting) (history : List Entry) → IsLegal w history → (place before : ℕ) (entry : Entry) (earlier : Pass) → back history place ≡ entry ∷ back history before → pass_after (back history before) ≡ Some earlier → IsTrue (in_order w (Some earlier) entry.act)
followed w history legal place before entry earlier whole was =
    let both = subst (λ l. IsLegalBack w l) whole (legal_back w history legal place) in
    subst (λ b. IsTrue (in_order w b entry.act)) was both.1.order

-- an entry that puts no byte leaves memory as it was
pub closed_same : (w : Setting) (history : List Entry) (form : Discipline) (number start close : ℕ) (pass : Pass) (test : Act → Bool) → (c : ClosedAt history form number start close pass test) → ((x : ℕ) → put_at c.entry.act x ≡ None) → (x : ℕ) → memory_at w history close x ≡ memory_at w history c.before x
closed_same w history form number start close pass test c puts x =
    ap (λ l. memory_after w l x) c.whole ∙ ap (λ o. unwrap_or o (memory_after w (back history c.before) x)) (puts x)

-- memory at this place is memory at an earlier one, where the pass is as told
pub record Window (w : Setting) (history : List Entry) (form : Discipline) (number start low place : ℕ) (test : Act → Bool) : Type 0 where
  pub at : ℕ
  pub from : low ≤ at
  pub upto : at ≤ place
  pub pass : Pass
  pub here : IsPassAt history form number start at pass
  pub none : list_any (λ entry. test entry.act) pass.since ≡ false
  pub same : (x : ℕ) → memory_at w history place x ≡ memory_at w history at x

-- a place at which the pass goes on and the entry of this kind is still to come
open_window : (w : Setting) (history : List Entry) (form : Discipline) (number start low later : ℕ) (pass : Pass) (test : Act → Bool) → IsPassAt history form number start later pass → list_any (λ entry. test entry.act) pass.since ≡ false → start ≤ low → (place : ℕ) → low ≤ place → place ≤ later → Window w history form number start low place test
open_window w history form number start low later pass test here none from place reaches upto =
    let e = was_at history form number start later pass here place (omega arith) upto in
    record { at = place; from = reaches; upto = omega arith; pass = e.earlier; here = e.here; none = none_earlier (λ entry. test entry.act) e.newer e.earlier.since pass.since e.since none; same = λ x. refl }

-- each place up to the entry that closes the pass, also its own: it changes no byte
pub closed_window : (w : Setting) (history : List Entry) (form : Discipline) (number start low close : ℕ) (pass : Pass) (test : Act → Bool) → (c : ClosedAt history form number start close pass test) → list_any (λ entry. test entry.act) c.earlier.since ≡ false → ((x : ℕ) → put_at c.entry.act x ≡ None) → start ≤ low → low < close → (place : ℕ) → low ≤ place → place ≤ close → Window w history form number start low place test
closed_window w history form number start low close pass test c none puts from low_before place reaches upto =
    elim (cases_lt place close) [
      | inl before ↦ open_window w history form number start low c.before c.earlier test c.here none from place reaches (omega (arith, c.next))
      | inr last ↦
          let at_close : place ≡ close = omega arith in
          record {
            at = c.before;
            from = omega (arith, c.next);
            upto = omega (arith, c.next);
            pass = c.earlier;
            here = c.here;
            none = none;
            same = λ x. ap (λ p. memory_at w history p x) at_close ∙ closed_same w history form number start close pass test c puts x;
          }
    ]

-- each place up to the End
pub end_window : (w : Setting) (history : List Entry) → IsLegal w history → (form : Discipline) (number start end : ℕ) → EndsAt history form number start end → (place : ℕ) → start ≤ place → place ≤ end → Window w history form number start start place is_end
end_window w history legal form number start end e place from upto =
    let c = closed_at is_end history form number start end e.pass e.here e.newest in
    let order = followed w history legal end c.before c.entry c.earlier c.whole c.here.last in
    let o = end_order w c.entry.act c.earlier c.kind order in
    let began = starts_before history form number start c.before c.earlier c.here in
    closed_window w history form number start start end e.pass is_end c o.0 (λ x. (end_puts c.entry.act c.kind x).0) (omega arith) (omega (arith, c.next)) place from upto

-- each place up to the Release, or to the history's end where none has come
pub release_window : (w : Setting) (history : List Entry) → IsLegal w history → (form : Discipline) (number start low release : ℕ) → (r : ReleasesAt history form number start release) → start ≤ low → (IsTrue (is_newest is_release r.pass.since) → low < release) → (place : ℕ) → low ≤ place → place ≤ release → Window w history form number start low place is_release
release_window w history legal form number start low release r from low_before place reaches upto =
    elim r.newest [
      | inl newest ↦
          let c = closed_at is_release history form number start release r.pass r.here newest in
          let order = followed w history legal release c.before c.entry c.earlier c.whole c.here.last in
          let o = release_order w c.entry.act c.earlier c.kind order in
          closed_window w history form number start low release r.pass is_release c o.0 (λ x. release_puts c.entry.act c.kind x) from (low_before newest) place reaches upto
      | inr still ↦ open_window w history form number start low release r.pass is_release r.here still.1 from place reaches upto
    ]
