-- A pass from one entry to the next.
use Rattle.std.proofs.Common.{◌≡◌, ℕ, suc, ◌<◌, ◌≤◌, Bool, true, false, not, List, [], ◌∷◌, ◌++◌, length, Option, Some, None, option_map, refl, sym, ap, ◌∙◌, subst, inl, inr, arith, ap₂, length-append}
use Rattle.std.specs.Prelude.{◌&&◌, ◌==◌, ◌⊎◌, IsTrue, nat_le}
use Rattle.std.specs.List.{list_any}
use Rattle.std.proofs.lemmas.Bool.{and_parts, false≢true, not-true, eqb-true, leb-true, le-leb, lt-ltb}
use Rattle.history.specs.declared.events.Discipline.{Discipline}
use Rattle.history.specs.declared.events.Discipline.TheVariants.{All, AllExt, Dec, Inc, IncExt}
use Rattle.history.specs.declared.events.Act.{Act}
use Rattle.history.specs.declared.events.Act.TheVariants.{Fetch, Load, Store, Start, Copy, End, Tick, Release}
use Rattle.history.specs.declared.events.Entry.{Entry}
use Rattle.history.specs.Attested.{is_attested, index_of, total}
use Rattle.history.specs.Layout.{Setting}
use Rattle.history.specs.Pass.{Pass, longer, pass_step, pass_after, start_of, copied_of, copies_in, is_ended, is_released, is_end, is_release}
use Rattle.history.specs.Instants.{is_newest}
use Rattle.history.specs.Locks.{locks}
use Rattle.history.specs.Legal.{IsLegalBack, in_order}
use Rattle.history.specs.Sliding.{locks_at_start}
use Rattle.chronicle.proofs.Indexes.{index_fits}

-- an entry of this actor and act
abbrev pub entry_of : ℕ → Act → Entry
entry_of actor act = record { actor = actor; act = act }

-- the act opens a pass
abbrev pub is_start : Act → Bool
is_start (Start discipline counter) = true
is_start _ = false

-- the entry opened the pass
pub record Opens (entry : Entry) (past : List Entry) (pass : Pass) : Type 0 where
  pub starts : IsTrue (is_start entry.act)
  pub since : pass.since ≡ []
  pub opened : pass.opened ≡ entry ∷ past

-- an earlier pass went on with the entry
pub record GoesOn (entry : Entry) (before : Option Pass) (pass : Pass) : Type 0 where
  pub runs : is_start entry.act ≡ false
  pub earlier : Pass
  pub was : before ≡ Some earlier
  pub now : longer entry earlier ≡ pass

-- a pass that is there with an entry more was there before
goes_on : (entry : Entry) (before : Option Pass) (pass : Pass) → is_start entry.act ≡ false → option_map (longer entry) before ≡ Some pass → GoesOn entry before pass
goes_on entry None pass runs h = absurd cc
goes_on entry (Some earlier) pass runs h = record { runs = runs; earlier = earlier; was = refl; now = cc }

-- what each act does to a pass
step_cases : (actor : ℕ) (act : Act) (past : List Entry) (before : Option Pass) (pass : Pass) → pass_step act (entry_of actor act) past before ≡ Some pass → Opens (entry_of actor act) past pass ⊎ GoesOn (entry_of actor act) before pass
step_cases actor (Start discipline counter) past before pass h =
    let same : record { discipline = discipline; counter = counter; since = []; opened = entry_of actor (Start discipline counter) ∷ past } ≡ pass = cc in
    inl (record { starts = refl; since = sym (ap (λ p. p.since) same); opened = sym (ap (λ p. p.opened) same) })
step_cases actor (Fetch addr value) past before pass h = inr (goes_on _ before pass refl h)
step_cases actor (Load addr width value) past before pass h = inr (goes_on _ before pass refl h)
step_cases actor (Store addr width value) past before pass h = inr (goes_on _ before pass refl h)
step_cases actor (Copy block) past before pass h = inr (goes_on _ before pass refl h)
step_cases actor End past before pass h = inr (goes_on _ before pass refl h)
step_cases actor Tick past before pass h = inr (goes_on _ before pass refl h)
step_cases actor Release past before pass h = inr (goes_on _ before pass refl h)

-- the newest entry opened the pass, or a pass went on with it
pub pass_cases : (entry : Entry) (past : List Entry) (pass : Pass) → pass_after (entry ∷ past) ≡ Some pass → Opens entry past pass ⊎ GoesOn entry (pass_after past) pass
pass_cases entry past pass h = step_cases entry.actor entry.act past (pass_after past) pass h

-- a pass is the entries since its Start, and those up to it
pub pass_whole : (past : List Entry) (pass : Pass) → pass_after past ≡ Some pass → pass.since ++ pass.opened ≡ past
pass_whole [] pass h = absurd cc
pass_whole (entry ∷ past) pass h =
    elim (pass_cases entry past pass h) [
      | inl o ↦ ap₂ (λ since opened. since ++ opened) o.since o.opened
      | inr g ↦ subst (λ p. p.since ++ p.opened ≡ entry ∷ past) g.now (ap (λ l. entry ∷ l) (pass_whole past g.earlier g.was))
    ]

-- the same pass at an earlier place
pub record Earlier (newer older : List Entry) (pass : Pass) : Type 0 where
  pub earlier : Pass
  pub was : pass_after older ≡ Some earlier
  pub discipline : earlier.discipline ≡ pass.discipline
  pub counter : earlier.counter ≡ pass.counter
  pub opened : earlier.opened ≡ pass.opened
  pub since : newer ++ earlier.since ≡ pass.since

-- a pass goes back to its Start
pub earlier_pass : (newer older : List Entry) (pass : Pass) → pass_after (newer ++ older) ≡ Some pass → start_of pass ≤ length older → Earlier newer older pass
earlier_pass [] older pass h from = record { earlier = pass; was = h; discipline = refl; counter = refl; opened = refl; since = refl }
earlier_pass (entry ∷ newer) older pass h from =
    elim (pass_cases entry (newer ++ older) pass h) [
      | inl o ↦ absurd (omega (arith, from, ap length o.opened, length-append newer older))
      | inr g ↦
          let from' = subst (λ p. start_of p ≤ length older) (sym g.now) from in
          let e = earlier_pass newer older g.earlier g.was from' in
          subst (λ p. Earlier (entry ∷ newer) older p) g.now (record { earlier = e.earlier; was = e.was; discipline = e.discipline; counter = e.counter; opened = e.opened; since = ap (λ l. entry ∷ l) e.since })
    ]

-- the newest entry, if it stands in the pass and passes the test
pub record Closes (test : Act → Bool) (past : List Entry) (pass : Pass) : Type 0 where
  pub entry : Entry
  pub before : List Entry
  pub whole : past ≡ entry ∷ before
  pub kind : IsTrue (test entry.act)
  pub on : GoesOn entry (pass_after before) pass

-- it is the entry with which the pass went on
pub closes : (test : Act → Bool) (past : List Entry) (pass : Pass) → pass_after past ≡ Some pass → IsTrue (is_newest test pass.since) → Closes test past pass
closes test [] pass h newest = absurd cc
closes test (entry ∷ past) pass h newest =
    elim (pass_cases entry past pass h) [
      | inl o ↦ absurd (false≢true (sym (ap (λ l. is_newest test l) o.since) ∙ newest))
      | inr g ↦ record { entry = entry; before = past; whole = refl; kind = subst (λ p. IsTrue (is_newest test p.since)) (sym g.now) newest; on = g }
    ]

-- End comes after the last Copy, and Release after End; there are no more copies than attested blocks
pub record InTurn (w : Setting) (pass : Pass) : Type 0 where
  pub whole : IsTrue (is_ended pass) → copied_of pass ≡ total w.ranges
  pub ended : IsTrue (is_released pass) → IsTrue (is_ended pass)
  pub few : copied_of pass ≤ total w.ranges

-- the order rule keeps this
in_turn_on : (w : Setting) (actor : ℕ) (act : Act) (earlier : Pass) → InTurn w earlier → IsTrue (in_order w (Some earlier) act) → InTurn w (longer (entry_of actor act) earlier)
in_turn_on w actor (Fetch addr value) earlier t o = record { whole = t.whole; ended = t.ended; few = t.few }
in_turn_on w actor (Load addr width value) earlier t o = record { whole = t.whole; ended = t.ended; few = t.few }
in_turn_on w actor (Store addr width value) earlier t o = record { whole = t.whole; ended = t.ended; few = t.few }
in_turn_on w actor (Start discipline counter) earlier t o = record { whole = t.whole; ended = t.ended; few = t.few }
in_turn_on w actor Tick earlier t o = record { whole = t.whole; ended = t.ended; few = t.few }
in_turn_on w actor (Copy block) earlier t o =
    let parts = and_parts (not (is_ended earlier) && is_attested w.ranges block) (index_of w.ranges block == copied_of earlier) o in
    let first = and_parts (not (is_ended earlier)) (is_attested w.ranges block) parts.0 in
    let running = not-true _ first.0 in
    let below = index_fits w.ranges block first.1 in
    record { whole = λ e. absurd (false≢true (sym running ∙ e)); ended = t.ended; few = omega (arith, below, eqb-true _ _ parts.1) }
in_turn_on w actor End earlier t o = record { whole = λ _. eqb-true _ _ (and_parts _ _ o).1; ended = λ _. refl; few = t.few }
in_turn_on w actor Release earlier t o =
    let over = (and_parts _ _ (and_parts _ _ o).0).1 in
    record { whole = t.whole; ended = λ _. over; few = t.few }

-- a pass that has just begun
in_turn_new : (w : Setting) (pass : Pass) → pass.since ≡ [] → InTurn w pass
in_turn_new w pass new = record {
  whole = λ e. absurd (false≢true (sym (ap (λ since. list_any (λ entry. is_end entry.act) since) new) ∙ e));
  ended = λ r. absurd (false≢true (sym (ap (λ since. list_any (λ entry. is_release entry.act) since) new) ∙ r));
  few = let none : copied_of pass ≡ 0 = ap copies_in new in omega arith;
}

-- of a pass in a legal history
pub in_turn : (w : Setting) (past : List Entry) → IsLegalBack w past → (pass : Pass) → pass_after past ≡ Some pass → InTurn w pass
in_turn w [] legal pass h = absurd cc
in_turn w (entry ∷ past) legal pass h =
    elim (pass_cases entry past pass h) [
      | inl o ↦ in_turn_new w pass o.since
      | inr g ↦ subst (λ p. InTurn w p) g.now (in_turn_on w entry.actor entry.act g.earlier (in_turn w past legal.0 g.earlier g.was) (subst (λ b. IsTrue (in_order w b entry.act)) g.was legal.1.order))
    ]

-- End and Release only take locks away
pub locks_past_end : (form : Discipline) (copied : ℕ) (ended released : Bool) (index : ℕ) → IsTrue (locks form copied true released index) → IsTrue (locks form copied ended released index)
locks_past_end All copied ended released index h = absurd (false≢true h)
locks_past_end AllExt copied ended released index h = h
locks_past_end Dec copied ended released index h = absurd (false≢true h)
locks_past_end Inc copied ended released index h = absurd (false≢true h)
locks_past_end IncExt copied ended released index h = h

-- the same of Release
pub locks_past_release : (form : Discipline) (copied : ℕ) (ended released : Bool) (index : ℕ) → IsTrue (locks form copied ended true index) → IsTrue (locks form copied ended released index)
locks_past_release All copied ended released index h = h
locks_past_release AllExt copied ended released index h = absurd (false≢true h)
locks_past_release Dec copied ended released index h = h
locks_past_release Inc copied ended released index h = h
locks_past_release IncExt copied ended released index h = absurd (false≢true h)

-- a Copy locks no block that was copied before it
pub locks_past_copy : (form : Discipline) (copied : ℕ) (ended released : Bool) (index : ℕ) → index < copied → IsTrue (locks form (suc copied) ended released index) → IsTrue (locks form copied ended released index)
locks_past_copy All copied ended released index before h = h
locks_past_copy AllExt copied ended released index before h = h
locks_past_copy Dec copied true released index before h = absurd (false≢true h)
locks_past_copy Dec copied false released index before h = absurd (omega (arith, leb-true (suc copied) index h))
locks_past_copy Inc copied true released index before h = absurd (false≢true h)
locks_past_copy Inc copied false released index before h = lt-ltb index copied before
locks_past_copy IncExt copied ended true index before h = absurd (false≢true h)
locks_past_copy IncExt copied ended false index before h = lt-ltb index copied before

-- where the discipline locks from Start on, a block that is still to be copied is locked
pub locks_waiting : (form : Discipline) (copied : ℕ) (ended released : Bool) (index : ℕ) → IsTrue (locks_at_start form) → ended ≡ false → released ≡ false → copied ≤ index → IsTrue (locks form copied ended released index)
locks_waiting All copied ended released index s e r c = ap not e
locks_waiting AllExt copied ended released index s e r c = ap not r
locks_waiting Dec copied ended released index s e r c = ap (λ b. not b && nat_le copied index) e ∙ le-leb copied index c
locks_waiting Inc copied ended released index s e r c = absurd (false≢true s)
locks_waiting IncExt copied ended released index s e r c = absurd (false≢true s)
