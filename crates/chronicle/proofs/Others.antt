-- What a measurer knows of its pass while others make their entries, and at its own.
use Rattle.std.proofs.Common.{◌≡◌, ℕ, suc, ◌+◌, ◌<◌, ◌≤◌, Bool, true, false, not, cond, List, [], ◌∷◌, ◌++◌, length, reverse, Option, Some, None, option_map, refl, sym, ap, ◌∙◌, subst, inl, inr, arith, append_assoc, append-nil, length-append}
use Rattle.std.specs.Prelude.{◌&&◌, ◌||◌, ◌==◌, IsTrue, nat_le, nat_lt, if◌then◌else◌}
use Rattle.std.proofs.lemmas.Bool.{and_parts, and_from, or_cases, cases_lt, false≢true, eqb-true, le-leb, lt-ltb}
use Rattle.std.proofs.lemmas.List.{reverse-append}
use Rattle.history.specs.declared.events.Discipline.{Discipline}
use Rattle.history.specs.declared.events.Act.{Act}
use Rattle.history.specs.declared.events.Act.TheVariants.{Fetch, Load, Store, Start, Copy, End, Tick, Release}
use Rattle.history.specs.declared.events.Entry.{Entry}
use Rattle.history.specs.Attested.{total}
use Rattle.history.specs.Layout.{Setting}
use Rattle.history.specs.Memory.{back, own}
use Rattle.history.specs.Pass.{Pass, longer, pass_step, pass_after, start_of, copied_of, copies_in, is_ended, is_released, is_copy, is_end, is_release}
use Rattle.history.specs.Legal.{IsLegalBack, IsLegal, is_access, actor_fits}
use Rattle.history.specs.Copied.{copied_step, copied_bytes}
use Rattle.history.specs.Instants.{IsPassAt, EndsAt, ReleasesAt}
use Rattle.chronicle.specs.Laws.{SamePass, KeepsPass}
use Rattle.chronicle.proofs.Passes.{entry_of}
use Rattle.chronicle.proofs.Places.{legal_rest, legal_less, reverse_more, back_all, back-append}
use Rattle.chronicle.proofs.Windows.{closed_at, starts_before}
use Rattle.chronicle.proofs.Copies.{all_copied, newest_any}

-- what an access does to a pass: nothing
record IsBeside (w : Setting) (actor : ℕ) (act : Act) (past : List Entry) : Type 0 where
  step : (before : Option Pass) → pass_step act (entry_of actor act) past before ≡ option_map (longer (entry_of actor act)) before
  bytes : (before : List ℕ) → copied_step w act past before ≡ before
  copy : is_copy act ≡ false
  end : is_end act ≡ false
  release : is_release act ≡ false

-- each access is beside the pass
access_beside : (w : Setting) (actor : ℕ) (act : Act) (past : List Entry) → IsTrue (is_access act) → IsBeside w actor act past
access_beside w actor (Fetch addr value) past is = record { step = λ _. refl; bytes = λ _. refl; copy = refl; end = refl; release = refl }
access_beside w actor (Load addr width value) past is = record { step = λ _. refl; bytes = λ _. refl; copy = refl; end = refl; release = refl }
access_beside w actor (Store addr width value) past is = record { step = λ _. refl; bytes = λ _. refl; copy = refl; end = refl; release = refl }
access_beside w actor (Start discipline counter) past is = absurd (false≢true is)
access_beside w actor (Copy block) past is = absurd (false≢true is)
access_beside w actor End past is = absurd (false≢true is)
access_beside w actor Tick past is = absurd (false≢true is)
access_beside w actor Release past is = absurd (false≢true is)

-- an entry of an application is an access
pub access_of : (entry : Entry) → IsTrue (actor_fits entry) → 1 ≤ entry.actor → IsTrue (is_access entry.act)
access_of entry fits application =
    let access = is_access entry.act in
    elim (or_cases (access && nat_le 1 entry.actor && nat_le entry.actor 8) (not access && (entry.actor == 0)) fits) [
      | inl accesses ↦ (and_parts access _ (and_parts (access && nat_le 1 entry.actor) _ accesses).0).0
      | inr steps ↦
          let none : entry.actor ≡ 0 = eqb-true _ _ (and_parts (not access) _ steps).1 in
          absurd (omega arith)
    ]

-- where the measurer has no entry, the first isn't the measurer's and the rest has none
first_other : (mine : Bool) (entry : Entry) (rest : List Entry) → cond mine (entry ∷ rest) rest ≡ [] → (mine ≡ false) × (rest ≡ [])
first_other true entry rest h = absurd cc
first_other false entry rest h = (refl, h)

-- an actor that is not the measurer is 1 or more
pub application_of : (entry : Entry) → (nat_le 0 entry.actor && nat_lt entry.actor 1) ≡ false → 1 ≤ entry.actor
application_of entry other =
    elim (cases_lt entry.actor 1) [
      | inl measurer ↦ absurd (false≢true (sym other ∙ and_from (nat_le 0 entry.actor) _ (le-leb 0 entry.actor (omega arith)) (lt-ltb entry.actor 1 measurer)))
      | inr application ↦ application
    ]

-- the pass is the same after such an entry
pub same_longer : (entry : Entry) (pass : Pass) → is_copy entry.act ≡ false → is_end entry.act ≡ false → is_release entry.act ≡ false → SamePass pass (longer entry pass)
same_longer entry pass copy end release = record {
  discipline = refl;
  counter = refl;
  opened = refl;
  copied = ap (λ b. if b then suc (copies_in pass.since) else copies_in pass.since) copy;
  ended = ap (λ b. b || is_ended pass) end;
  released = ap (λ b. b || is_released pass) release;
}

-- over two steps
same_trans : (a b c : Pass) → SamePass a b → SamePass b c → SamePass a c
same_trans a b c ab bc = record {
  discipline = bc.discipline ∙ ab.discipline;
  counter = bc.counter ∙ ab.counter;
  opened = bc.opened ∙ ab.opened;
  copied = bc.copied ∙ ab.copied;
  ended = bc.ended ∙ ab.ended;
  released = bc.released ∙ ab.released;
}

-- the first of others' entries after a history, and the rest
record OneOther (w : Setting) (history : List Entry) (entry : Entry) (others : List Entry) : Type 0 where
  beside : IsBeside w entry.actor entry.act (reverse history)
  none : own others 0 1 ≡ []
  legal : IsLegal w ((history ++ entry ∷ []) ++ others)
  whole : (history ++ entry ∷ []) ++ others ≡ history ++ entry ∷ others
  turned : reverse (history ++ entry ∷ []) ≡ entry ∷ reverse history

-- they are cut apart
one_other : (w : Setting) (history : List Entry) (entry : Entry) (others : List Entry) → IsLegal w (history ++ entry ∷ others) → own (entry ∷ others) 0 1 ≡ [] → OneOther w history entry others
one_other w history entry others legal none =
    let f = first_other (nat_le 0 entry.actor && nat_lt entry.actor 1) entry (own others 0 1) none in
    let whole = append_assoc history (entry ∷ []) others in
    let legal' = subst (λ l. IsLegal w l) (sym whole) legal in
    let back' = subst (λ l. IsLegalBack w l) (reverse-append (history ++ entry ∷ []) others) legal' in
    let front = legal_rest w (reverse others) (reverse (history ++ entry ∷ [])) back' in
    let may = (legal_less w history entry front).1 in
    record {
      beside = access_beside w entry.actor entry.act (reverse history) (access_of entry may.actor (application_of entry f.0));
      none = f.1;
      legal = legal';
      whole = whole;
      turned = reverse_more history entry;
    }

-- entries of others keep a pass
pub keeps_pass : (w : Setting) (history others : List Entry) → IsLegal w (history ++ others) → own others 0 1 ≡ [] → (pass : Pass) → pass_after (reverse history) ≡ Some pass → KeepsPass w history (history ++ others) pass
keeps_pass w history [] legal none pass last =
    subst (λ l. KeepsPass w history l pass) (sym (append-nil history)) (record { now = pass; last = last; same = record { discipline = refl; counter = refl; opened = refl; copied = refl; ended = refl; released = refl }; bytes = refl })
keeps_pass w history (entry ∷ others) legal none pass last =
    let o = one_other w history entry others legal none in
    let b = o.beside in
    let next = longer entry pass in
    let last' : pass_after (reverse (history ++ entry ∷ [])) ≡ Some next = ap pass_after o.turned ∙ b.step (pass_after (reverse history)) ∙ ap (option_map (longer entry)) last in
    let k = keeps_pass w (history ++ entry ∷ []) others o.legal o.none next last' in
    let bytes : copied_bytes w (reverse (history ++ entry ∷ [])) ≡ copied_bytes w (reverse history) = ap (copied_bytes w) o.turned ∙ b.bytes (copied_bytes w (reverse history)) in
    subst (λ l. KeepsPass w history l pass) o.whole (record { now = k.now; last = k.last; same = same_trans pass next k.now (same_longer entry pass b.copy b.end b.release) k.same; bytes = k.bytes ∙ bytes })

-- and open none
pub keeps_none : (w : Setting) (history others : List Entry) → IsLegal w (history ++ others) → own others 0 1 ≡ [] → pass_after (reverse history) ≡ None → pass_after (reverse (history ++ others)) ≡ None
keeps_none w history [] legal none last = ap (λ l. pass_after (reverse l)) (append-nil history) ∙ last
keeps_none w history (entry ∷ others) legal none last =
    let o = one_other w history entry others legal none in
    let last' : pass_after (reverse (history ++ entry ∷ [])) ≡ None = ap pass_after o.turned ∙ o.beside.step (pass_after (reverse history)) ∙ ap (option_map (longer entry)) last in
    ap (λ l. pass_after (reverse l)) (sym o.whole) ∙ keeps_none w (history ++ entry ∷ []) others o.legal o.none last'

-- the pass once an entry is appended
pub pass_more : (history : List Entry) (entry : Entry) → pass_after (reverse (history ++ entry ∷ [])) ≡ pass_step entry.act entry (reverse history) (pass_after (reverse history))
pass_more history entry = ap pass_after (reverse_more history entry)

-- and what it has copied then
pub bytes_more : (w : Setting) (history : List Entry) (entry : Entry) → copied_bytes w (reverse (history ++ entry ∷ [])) ≡ copied_step w entry.act (reverse history) (copied_bytes w (reverse history))
bytes_more w history entry = ap (copied_bytes w) (reverse_more history entry)

-- the place of an entry with a history before it and more after it
back_at : (history : List Entry) (entry : Entry) (more : List Entry) → back (history ++ entry ∷ more) (length history + 1) ≡ entry ∷ reverse history
back_at history entry more =
    let front = history ++ entry ∷ [] in
    let count : length front ≡ length history + 1 = length-append history (entry ∷ []) in
    ap (λ l. back l (length history + 1)) (sym (append_assoc history (entry ∷ []) more))
    ∙ ap (back (front ++ more)) (sym count)
    ∙ back-append front more (length front) (omega arith)
    ∙ back_all front
    ∙ reverse_more history entry

-- a pass that goes on with this entry is there
pass_at : (history : List Entry) (entry : Entry) (more : List Entry) (pass : Pass) → pass_after (reverse history) ≡ Some pass → pass_step entry.act entry (reverse history) (pass_after (reverse history)) ≡ option_map (longer entry) (pass_after (reverse history)) → IsPassAt (history ++ entry ∷ more) pass.discipline pass.counter (start_of pass) (length history + 1) (longer entry pass)
pass_at history entry more pass last step = record {
  within = omega (arith, length-append history (entry ∷ more));
  last = ap pass_after (back_at history entry more) ∙ step ∙ ap (option_map (longer entry)) last;
  discipline = refl;
  counter = refl;
  began = refl;
}

-- an End after a history with a pass ends that pass
pub ends_at : (history : List Entry) (entry : Entry) (more : List Entry) (pass : Pass) → pass_after (reverse history) ≡ Some pass → entry.act ≡ End → EndsAt (history ++ entry ∷ more) pass.discipline pass.counter (start_of pass) (length history + 1)
ends_at history entry more pass last is = record {
  pass = longer entry pass;
  here = pass_at history entry more pass last (ap (λ act. pass_step act entry (reverse history) (pass_after (reverse history))) is);
  newest = ap is_end is;
}

-- and a Release releases it
pub releases_at : (history : List Entry) (entry : Entry) (more : List Entry) (pass : Pass) → pass_after (reverse history) ≡ Some pass → entry.act ≡ Release → ReleasesAt (history ++ entry ∷ more) pass.discipline pass.counter (start_of pass) (length history + 1)
releases_at history entry more pass last is = record {
  pass = longer entry pass;
  here = pass_at history entry more pass last (ap (λ act. pass_step act entry (reverse history) (pass_after (reverse history))) is);
  newest = inl (ap is_release is);
}

-- where no Release has come, the history's end stands for it
pub unreleased_at : (history : List Entry) (pass : Pass) → pass_after (reverse history) ≡ Some pass → is_released pass ≡ false → ReleasesAt history pass.discipline pass.counter (start_of pass) (length history)
unreleased_at history pass last none = record {
  pass = pass;
  here = record { within = omega arith; last = ap pass_after (back_all history) ∙ last; discipline = refl; counter = refl; began = refl };
  newest = inr (refl, none);
}

-- an End copies nothing
pub bytes_at_end : (w : Setting) (history : List Entry) (entry : Entry) (more : List Entry) → entry.act ≡ End → copied_bytes w (back (history ++ entry ∷ more) (length history + 1)) ≡ copied_bytes w (reverse history)
bytes_at_end w history entry more is = ap (copied_bytes w) (back_at history entry more) ∙ ap (λ act. copied_step w act (reverse history) (copied_bytes w (reverse history))) is

-- a pass that has ended has copied every attested block, and its End comes after its Start
pub ended_whole : (w : Setting) (history : List Entry) → IsLegal w history → (form : Discipline) (number start end : ℕ) (e : EndsAt history form number start end) → (copied_of e.pass ≡ total w.ranges) × (start < end)
ended_whole w history legal form number start end e =
    let c = closed_at is_end history form number start end e.pass e.here e.newest in
    let began = starts_before history form number start c.before c.earlier c.here in
    (all_copied w history legal form number start end e.pass e.here (newest_any is_end e.pass.since e.newest), omega (arith, c.next))
