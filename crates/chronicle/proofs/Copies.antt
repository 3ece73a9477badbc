-- At each instant of a pass each attested block has the bytes of its Copy.
use Rattle.std.proofs.Common.{◌≡◌, ℕ, suc, ◌+◌, ◌<◌, ◌≤◌, Bool, true, false, not, List, [], ◌∷◌, ◌++◌, Some, refl, sym, ap, ◌∙◌, subst, inl, inr, arith, le_trans}
use Rattle.std.specs.Prelude.{◌&&◌, IsTrue, nat_lt, flat_map, if◌then◌else◌}
use Rattle.std.proofs.lemmas.List.{take_all}
use Rattle.std.specs.List.{list_any}
use Rattle.std.proofs.lemmas.Bool.{cases_lt, or_left, false≢true, lt-ltb}
use Rattle.history.specs.declared.events.Discipline.{Discipline}
use Rattle.history.specs.declared.events.Discipline.TheVariants.{All, AllExt, Dec, Inc, IncExt}
use Rattle.history.specs.declared.events.Act.{Act}
use Rattle.history.specs.declared.events.Entry.{Entry}
use Rattle.history.specs.Attested.{attested_blocks, is_attested, index_of, total}
use Rattle.history.specs.Layout.{Setting, IsSetting, block_of}
use Rattle.history.specs.Memory.{Memory, back, memory_after, memory_at, block_bytes, attested_bytes}
use Rattle.history.specs.Pass.{Pass, pass_after, copies_in, copied_of, is_ended, is_released, is_copy, is_end, is_release, is_extended}
use Rattle.history.specs.Locks.{locks, pass_locks}
use Rattle.history.specs.Legal.{IsLegal}
use Rattle.history.specs.Copied.{copied_bytes}
use Rattle.history.specs.Instants.{IsInstant, is_newest, IsPassAt, EndsAt, ReleasesAt}
use Rattle.history.specs.Sliding.{SameBlock, up_to_copy, locks_at_start}
use Rattle.chronicle.proofs.Passes.{in_turn}
use Rattle.chronicle.proofs.Indexes.{StandAtIndexes, index_fits}
use Rattle.chronicle.proofs.Slide.{slides, not_copied, up_to_same}
use Rattle.chronicle.proofs.Places.{legal_back}
use Rattle.chronicle.proofs.Bytes.{HasCopies, blocks_from, copied_are}
use Rattle.chronicle.proofs.Windows.{opened_is, starts_before, was_at, some_later, closed_at, closed_same, end_order, end_puts, followed, Window, end_window, release_window}

-- All-Lock locks every block until End
lock_all : (form : Discipline) → form ≡ All → (copied : ℕ) (ended released : Bool) (index : ℕ) → ended ≡ false → IsTrue (locks form copied ended released index)
lock_all form is copied ended released index none = ap (λ f. locks f copied ended released index) is ∙ ap not none

-- All-Lock-Ext locks every block until Release
lock_all_ext : (form : Discipline) → form ≡ AllExt → (copied : ℕ) (ended released : Bool) (index : ℕ) → released ≡ false → IsTrue (locks form copied ended released index)
lock_all_ext form is copied ended released index none = ap (λ f. locks f copied ended released index) is ∙ ap not none

-- Inc-Lock locks a copied block until End
lock_inc : (form : Discipline) → form ≡ Inc → (copied : ℕ) (ended released : Bool) (index : ℕ) → ended ≡ false → index < copied → IsTrue (locks form copied ended released index)
lock_inc form is copied ended released index none below = ap (λ f. locks f copied ended released index) is ∙ ap (λ b. not b && nat_lt index copied) none ∙ lt-ltb index copied below

-- Inc-Lock-Ext locks a copied block until Release
lock_inc_ext : (form : Discipline) → form ≡ IncExt → (copied : ℕ) (ended released : Bool) (index : ℕ) → released ≡ false → index < copied → IsTrue (locks form copied ended released index)
lock_inc_ext form is copied ended released index none below = ap (λ f. locks f copied ended released index) is ∙ ap (λ b. not b && nat_lt index copied) none ∙ lt-ltb index copied below

-- the newest entry is among the entries
pub newest_any : (test : Act → Bool) (since : List Entry) → IsTrue (is_newest test since) → IsTrue (list_any (λ entry. test entry.act) since)
newest_any test [] newest = absurd (false≢true newest)
newest_any test (entry ∷ since) newest = or_left (test entry.act) _ newest

-- an entry isn't both an End and a Release
newest_one : (since : List Entry) → IsTrue (is_newest is_end since) → IsTrue (is_newest is_release since) → ⊥
newest_one [] ends releases = absurd (false≢true ends)
newest_one (entry ∷ since) ends releases = absurd (false≢true (sym (end_puts entry.act ends 0).2 ∙ releases))

-- a pass that has ended has copied every attested block
pub all_copied : (w : Setting) (history : List Entry) → IsLegal w history → (form : Discipline) (number start place : ℕ) (pass : Pass) → IsPassAt history form number start place pass → IsTrue (is_ended pass) → copied_of pass ≡ total w.ranges
all_copied w history legal form number start place pass here over = (in_turn w (back history place) (legal_back w history legal place) pass here.last).whole over

module _ (w : Setting) (v : IsSetting w) (stand : StandAtIndexes w.ranges) (history : List Entry) (legal : IsLegal w history) (form : Discipline) (number start end : ℕ) (e : EndsAt history form number start end) where
  -- what is copied is any memory that has the bytes of each Copy
  copied_from : (m : Memory) → HasCopies w m (back history end) (total w.ranges) → attested_bytes w m ≡ copied_bytes w (back history end)
  copied_from m has =
      let count = all_copied w history legal form number start end e.pass e.here (newest_any is_end e.pass.since e.newest) in
      ap (flat_map (block_bytes w m)) (sym (take_all (total w.ranges) (attested_blocks w.ranges) (omega arith))) ∙ ap (blocks_from w m) (sym count) ∙ copied_are w stand m (back history end) (legal_back w history legal end) e.pass e.here.last (subst (λ n. HasCopies w m (back history end) n) (sym count) has)

  -- where the discipline locks from Start on, each block had the bytes of Start at its Copy
  copies_of_start : IsTrue (locks_at_start form) → (place : ℕ) → ((block : ℕ) → IsTrue (is_attested w.ranges block) → SameBlock w block (back history place) (back history start)) → HasCopies w (memory_at w history place) (back history end) (total w.ranges)
  copies_of_start begins place same =
      let count = all_copied w history legal form number start end e.pass e.here (newest_any is_end e.pass.since e.newest) in
      let s = slides w v stand (back history end) (legal_back w history legal end) e.pass e.here.last in
      let begins' = subst (λ f. IsTrue (locks_at_start f)) (sym e.here.discipline) begins in
      let opened = opened_is history form number start end e.pass e.here in
      record {
        each = λ block attested index x low here.
            let index' = subst (λ n. index_of w.ranges block < n) (sym count) index in
            same block attested x low here ∙ sym (s.begun begins' block attested index' x low here ∙ ap (λ l. memory_after w l x) opened);
      }

  -- and has them still where its lock is held
  start_bytes : IsTrue (locks_at_start form) → (at : ℕ) (pass : Pass) → IsPassAt history form number start at pass → ((index : ℕ) → IsTrue (pass_locks pass index)) → (block : ℕ) → IsTrue (is_attested w.ranges block) → SameBlock w block (back history at) (back history start)
  start_bytes begins at pass now locked block attested =
      let s = slides w v stand (back history at) (legal_back w history legal at) pass now.last in
      let begins' = subst (λ f. IsTrue (locks_at_start f)) (sym now.discipline) begins in
      let opened = opened_is history form number start at pass now in
      λ x low here.
      elim (cases_lt (index_of w.ranges block) (copied_of pass)) [
        | inl copied ↦ s.kept block attested copied (locked (index_of w.ranges block)) x low here ∙ s.begun begins' block attested copied x low here ∙ ap (λ l. memory_after w l x) opened
        | inr waits ↦ s.waiting begins' block attested waits x low here ∙ ap (λ l. memory_after w l x) opened
      ]

  -- a copied block that is still locked has the bytes of its Copy
  kept_bytes : (at : ℕ) (pass : Pass) → IsPassAt history form number start at pass → copied_of pass ≡ total w.ranges → ((index : ℕ) → index < copied_of pass → IsTrue (pass_locks pass index)) → (block : ℕ) → IsTrue (is_attested w.ranges block) → SameBlock w block (back history at) (up_to_copy block (back history at))
  kept_bytes at pass now count locked block attested =
      let s = slides w v stand (back history at) (legal_back w history legal at) pass now.last in
      let copied = subst (λ n. index_of w.ranges block < n) (sym count) (index_fits w.ranges block attested) in
      s.kept block attested copied (locked (index_of w.ranges block) copied)

  -- the law for a discipline that locks from Start on, at a place where it still holds every lock
  from_start : IsTrue (locks_at_start form) → (test : Act → Bool) (place : ℕ) → (t : Window w history form number start start place test) → ((index : ℕ) → IsTrue (pass_locks t.pass index)) → attested_bytes w (memory_at w history place) ≡ copied_bytes w (back history end)
  from_start begins test place t locked =
      copied_from (memory_at w history place) (copies_of_start begins place (λ block attested x low here. t.same x ∙ start_bytes begins t.at t.pass t.here locked block attested x low here))

  -- the law for one that locks from the Copy on, at a place where all is copied and every lock is held
  from_copies : (place at : ℕ) (pass : Pass) → IsPassAt history form number start at pass → copied_of pass ≡ total w.ranges → ((index : ℕ) → index < copied_of pass → IsTrue (pass_locks pass index)) → ((x : ℕ) → memory_at w history place x ≡ memory_at w history at x) → ((block : ℕ) → up_to_copy block (back history at) ≡ up_to_copy block (back history end)) → attested_bytes w (memory_at w history place) ≡ copied_bytes w (back history end)
  from_copies place at pass now count locked same last =
      copied_from (memory_at w history place) (record { each = λ block attested index x low here. same x ∙ kept_bytes at pass now count locked block attested x low here ∙ ap (λ l. memory_after w l x) (last block) })

-- one entry more on the left of a sum of counts
counted-append : (b : Bool) (more newer older : ℕ) → more ≡ newer + older → (if b then suc more else more) ≡ (if b then suc newer else newer) + older
counted-append true more newer older h = omega (arith, h)
counted-append false more newer older h = h

-- copies are counted part by part
copies_in-append : (newer older : List Entry) → copies_in (newer ++ older) ≡ copies_in newer + copies_in older
copies_in-append [] older = omega arith
copies_in-append (entry ∷ newer) older = counted-append (is_copy entry.act) (copies_in (newer ++ older)) (copies_in newer) (copies_in older) (copies_in-append newer older)

-- a count of none had none to count
none_counted : (b : Bool) (count : ℕ) → (if b then suc count else count) ≡ 0 → (b ≡ false) × (count ≡ 0)
none_counted true count h = absurd (omega (arith, h))
none_counted false count h = (refl, h)

-- where no newer entry is a Copy, the last Copy of a block is older
up_to_older : (block : ℕ) (newer older : List Entry) → copies_in newer ≡ 0 → up_to_copy block (newer ++ older) ≡ up_to_copy block older
up_to_older block [] older none = refl
up_to_older block (entry ∷ newer) older none =
    let n = none_counted (is_copy entry.act) (copies_in newer) none in
    up_to_same block entry (newer ++ older) (not_copied block entry.act n.0) ∙ up_to_older block newer older n.1

-- after End a pass has copied every block, and a block's last Copy stays
record StillCopied (w : Setting) (history : List Entry) (end at : ℕ) (pass : Pass) : Type 0 where
  count : copied_of pass ≡ total w.ranges
  last : (block : ℕ) → up_to_copy block (back history at) ≡ up_to_copy block (back history end)

-- since no Copy comes after an End
still_copied : (w : Setting) (v : IsSetting w) (history : List Entry) (legal : IsLegal w history) (form : Discipline) (number start end : ℕ) (e : EndsAt history form number start end) (at : ℕ) (pass : Pass) → IsPassAt history form number start at pass → end ≤ at → StillCopied w history end at pass
still_copied w v history legal form number start end e at pass now after =
    let began = starts_before history form number start end e.pass e.here in
    let was = was_at history form number start at pass now end began after in
    let same : e.pass ≡ was.earlier = cc (e.here.last, was.here.last) in
    let over = newest_any is_end e.pass.since e.newest in
    let over' : IsTrue (is_ended was.earlier) = subst (λ p. IsTrue (is_ended p)) same over in
    let over_now : IsTrue (is_ended pass) = some_later (λ entry. is_end entry.act) was.newer was.earlier.since pass.since was.since over' in
    let count = all_copied w history legal form number start at pass now over_now in
    let count' = all_copied w history legal form number start end was.earlier was.here over' in
    let total : copies_in was.newer + copied_of was.earlier ≡ copied_of pass = sym (copies_in-append was.newer was.earlier.since) ∙ ap copies_in was.since in
    let none : copies_in was.newer ≡ 0 = omega (arith, total, count, count') in
    record {
      count = count;
      last = λ block. ap (up_to_copy block) (sym was.whole) ∙ up_to_older block was.newer (back history end) none;
    }

-- a Release comes after the Start
start_released : (history : List Entry) (form : Discipline) (number start release : ℕ) (r : ReleasesAt history form number start release) → IsTrue (is_newest is_release r.pass.since) → start < release
start_released history form number start release r newest =
    let c = closed_at is_release history form number start release r.pass r.here newest in
    let began = starts_before history form number start c.before c.earlier c.here in
    omega (arith, c.next)

-- a Release that doesn't come before the End comes after it
end_released : (history : List Entry) (form : Discipline) (number start end release : ℕ) (e : EndsAt history form number start end) (r : ReleasesAt history form number start release) → end ≤ release → IsTrue (is_newest is_release r.pass.since) → end < release
end_released history form number start end release e r order newest =
    elim (cases_lt end release) [
      | inl below ↦ below
      | inr above ↦
          let same : end ≡ release = omega arith in
          let last : pass_after (back history end) ≡ Some r.pass = ap (λ p. pass_after (back history p)) same ∙ r.here.last in
          let one : r.pass ≡ e.pass = cc (last, e.here.last) in
          absurd (newest_one e.pass.since e.newest (subst (λ p. IsTrue (is_newest is_release p.since)) one newest))
    ]

-- the law, discipline by discipline
pub copied_at : (w : Setting) → IsSetting w → StandAtIndexes w.ranges → (history : List Entry) → IsLegal w history → (form : Discipline) (number start end release : ℕ) → EndsAt history form number start end → (IsTrue (is_extended form) → ReleasesAt history form number start release) → (place : ℕ) → IsInstant form start end release place → attested_bytes w (memory_at w history place) ≡ copied_bytes w (back history end)
copied_at w v stand history legal All number start end release e r place instant =
    let t = end_window w history legal All number start end e place instant.0 instant.1 in
    let locked = λ (index : ℕ). lock_all t.pass.discipline t.here.discipline (copied_of t.pass) (is_ended t.pass) (is_released t.pass) index t.none in
    from_start w v stand history legal All number start end e refl is_end place t locked
copied_at w v stand history legal AllExt number start end release e r place instant =
    let later = start_released history AllExt number start release (r refl) in
    let t = release_window w history legal AllExt number start start release (r refl) (omega arith) later place instant.0 instant.1 in
    let locked = λ (index : ℕ). lock_all_ext t.pass.discipline t.here.discipline (copied_of t.pass) (is_ended t.pass) (is_released t.pass) index t.none in
    from_start w v stand history legal AllExt number start end e refl is_release place t locked
copied_at w v stand history legal Dec number start end release e r place instant =
    let same = λ (block : ℕ) (attested : IsTrue (is_attested w.ranges block)) (x : ℕ) (low : w.layout.base ≤ x) (here : block_of w.layout x ≡ block). ap (λ p. memory_at w history p x) instant in
    copied_from w v stand history legal Dec number start end e (memory_at w history place) (copies_of_start w v stand history legal Dec number start end e refl place same)
copied_at w v stand history legal Inc number start end release e r place instant =
    let c = closed_at is_end history Inc number start end e.pass e.here e.newest in
    let o = end_order w c.entry.act c.earlier c.kind (followed w history legal end c.before c.entry c.earlier c.whole c.here.last) in
    let locked = λ (index : ℕ) (below : index < copied_of c.earlier). lock_inc c.earlier.discipline c.here.discipline (copied_of c.earlier) (is_ended c.earlier) (is_released c.earlier) index o.0 below in
    let puts = λ (x : ℕ). (end_puts c.entry.act c.kind x).0 in
    let same = λ (x : ℕ). ap (λ p. memory_at w history p x) instant ∙ closed_same w history Inc number start end e.pass is_end c puts x in
    let last = λ (block : ℕ). sym (up_to_same block c.entry (back history c.before) (not_copied block c.entry.act (end_puts c.entry.act c.kind 0).1)) ∙ ap (up_to_copy block) (sym c.whole) in
    from_copies w v stand history legal Inc number start end e place c.before c.earlier c.here o.1 locked same last
copied_at w v stand history legal IncExt number start end release e r place instant =
    let began = starts_before history IncExt number start end e.pass e.here in
    let order : end ≤ release = le_trans instant.0 instant.1 in
    let later = end_released history IncExt number start end release e (r refl) order in
    let t = release_window w history legal IncExt number start end release (r refl) began later place instant.0 instant.1 in
    let still = still_copied w v history legal IncExt number start end e t.at t.pass t.here t.from in
    let locked = λ (index : ℕ) (below : index < copied_of t.pass). lock_inc_ext t.pass.discipline t.here.discipline (copied_of t.pass) (is_ended t.pass) (is_released t.pass) index t.none below in
    from_copies w v stand history legal IncExt number start end e place t.at t.pass t.here still.count locked t.same still.last
