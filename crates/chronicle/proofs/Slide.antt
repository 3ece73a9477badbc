-- The sliding-lock fact, kept by every entry that may follow.
use Rattle.std.proofs.Common.{◌≡◌, ℕ, suc, ◌<◌, ◌≤◌, false, not, List, [], ◌∷◌, Some, refl, sym, ap, ◌∙◌, subst, inl, inr, arith, le_trans}
use Rattle.std.specs.Prelude.{IsTrue, ◌&&◌, ◌==◌, if◌then◌else◌}
use Rattle.std.proofs.lemmas.Bool.{cases_lt, and_parts, and_from, false≢true, false_from_ne_true, eqb-true, eq-eqb, ne_eqb}
use Rattle.history.specs.declared.events.Act.{Act}
use Rattle.history.specs.declared.events.Act.TheVariants.{Fetch, Load, Store, Start, Copy, End, Tick, Release}
use Rattle.history.specs.declared.events.Entry.{Entry}
use Rattle.history.specs.Attested.{is_attested, index_of}
use Rattle.history.specs.Layout.{Setting, IsSetting}
use Rattle.history.specs.Memory.{memory_after}
use Rattle.history.specs.Pass.{Pass, longer, pass_after, copied_of, copies_in, is_ended, is_released, is_copy}
use Rattle.history.specs.Locks.{pass_locks, locks_now, is_locked}
use Rattle.history.specs.Legal.{MayFollow, IsLegalBack, in_order}
use Rattle.history.specs.Sliding.{Slides, up_to_copy, copies_block, locks_at_start}
use Rattle.chronicle.proofs.Indexes.{StandAtIndexes, same_index, index_fits}
use Rattle.chronicle.proofs.Stores.{locked_stays}
use Rattle.chronicle.proofs.Passes.{entry_of, Opens, pass_cases, InTurn, in_turn, locks_past_end, locks_past_release, locks_past_copy, locks_waiting}

-- an attested block that the pass locks is locked
pub locked_by : (w : Setting) (past : List Entry) (pass : Pass) → pass_after past ≡ Some pass → (block : ℕ) → IsTrue (is_attested w.ranges block) → IsTrue (pass_locks pass (index_of w.ranges block)) → IsTrue (is_locked w past block)
locked_by w past pass is block attested locked =
    and_from (is_attested w.ranges block) _ attested (ap (λ o. locks_now o (index_of w.ranges block)) is ∙ locked)

-- a block that is still to be copied is locked, where the discipline locks from Start on
waiting_locked : (w : Setting) (pass : Pass) → InTurn w pass → IsTrue (locks_at_start pass.discipline) → (block : ℕ) → IsTrue (is_attested w.ranges block) → copied_of pass ≤ index_of w.ranges block → IsTrue (pass_locks pass (index_of w.ranges block))
waiting_locked w pass turn begins block attested waiting =
    let fits = index_fits w.ranges block attested in
    let running = false_from_ne_true (is_ended pass) (λ e. let all = turn.whole e in omega arith) in
    let kept = false_from_ne_true (is_released pass) (λ r. false≢true (sym running ∙ turn.ended r)) in
    locks_waiting pass.discipline (copied_of pass) (is_ended pass) (is_released pass) (index_of w.ranges block) begins running kept waiting

-- no entry but a Copy copies a block
pub not_copied : (block : ℕ) (act : Act) → is_copy act ≡ false → copies_block block act ≡ false
not_copied block (Copy other) n = absurd (false≢true (sym n))
not_copied block (Fetch addr value) n = refl
not_copied block (Load addr width value) n = refl
not_copied block (Store addr width value) n = refl
not_copied block (Start discipline counter) n = refl
not_copied block End n = refl
not_copied block Tick n = refl
not_copied block Release n = refl

-- an entry that copies another block, or none, moves no Copy of this one
pub up_to_same : (block : ℕ) (entry : Entry) (past : List Entry) → copies_block block entry.act ≡ false → up_to_copy block (entry ∷ past) ≡ up_to_copy block past
up_to_same block entry past other = ap (λ b. if b then entry ∷ past else up_to_copy block past) other

-- what a pass locks after an entry that is no Copy, it locked before
locked_before : (act : Act) (actor : ℕ) (earlier : Pass) (index : ℕ) → is_copy act ≡ false → IsTrue (pass_locks (longer (entry_of actor act) earlier) index) → IsTrue (pass_locks earlier index)
locked_before (Copy block) actor p index n h = absurd (false≢true (sym n))
locked_before (Fetch addr value) actor p index n h = h
locked_before (Load addr width value) actor p index n h = h
locked_before (Store addr width value) actor p index n h = h
locked_before (Start discipline counter) actor p index n h = h
locked_before Tick actor p index n h = h
locked_before End actor p index n h = locks_past_end p.discipline (copied_of p) (is_ended p) (is_released p) index h
locked_before Release actor p index n h = locks_past_release p.discipline (copied_of p) (is_ended p) (is_released p) index h

-- an entry that is no Copy
slides_on : (w : Setting) → IsSetting w → (past : List Entry) (entry : Entry) → MayFollow w past entry → (earlier : Pass) → pass_after past ≡ Some earlier → InTurn w earlier → is_copy entry.act ≡ false → Slides w past earlier → Slides w (entry ∷ past) (longer entry earlier)
slides_on w v past entry may p is turn other s =
    let count : copied_of (longer entry p) ≡ copied_of p = ap (λ b. if b then suc (copies_in p.since) else copies_in p.since) other in
    let still = λ (block : ℕ). up_to_same block entry past (not_copied block entry.act other) in
    record {
      waiting = λ begins block attested waits.
          let waits' = subst (λ n. n ≤ index_of w.ranges block) count waits in
          let locked = locked_by w past p is block attested (waiting_locked w p turn begins block attested waits') in
          λ x low here. locked_stays w v past entry may block locked x here ∙ s.waiting begins block attested waits' x low here;
      begun = λ begins block attested copied.
          let copied' = subst (λ n. index_of w.ranges block < n) count copied in
          λ x low here. ap (λ l. memory_after w l x) (still block) ∙ s.begun begins block attested copied' x low here;
      kept = λ block attested copied locked.
          let copied' = subst (λ n. index_of w.ranges block < n) count copied in
          let locked' = locked_before entry.act entry.actor p (index_of w.ranges block) other locked in
          let before = locked_by w past p is block attested locked' in
          λ x low here. locked_stays w v past entry may block before x here ∙ s.kept block attested copied' locked' x low here ∙ sym (ap (λ l. memory_after w l x) (still block));
    }

-- the next block is copied
slides_copy : (w : Setting) → StandAtIndexes w.ranges → (past : List Entry) (actor copy : ℕ) (earlier : Pass) → IsTrue (is_attested w.ranges copy) → index_of w.ranges copy ≡ copied_of earlier → Slides w past earlier → Slides w (entry_of actor (Copy copy) ∷ past) (longer (entry_of actor (Copy copy)) earlier)
slides_copy w at past actor copy p there next s =
    let entry = entry_of actor (Copy copy) in
    let here_now = λ (block : ℕ) (e : block ≡ copy). ap (λ b. if b then entry ∷ past else up_to_copy block past) (eq-eqb block copy e) in
    let still = λ (block : ℕ) (n : block ≡ copy → ⊥). ap (λ b. if b then entry ∷ past else up_to_copy block past) (ne_eqb block copy n) in
    record {
      waiting = λ begins block attested waits. s.waiting begins block attested (le_trans (omega arith) waits);
      begun = λ begins block attested copied.
          elim (cases_lt (index_of w.ranges block) (copied_of p)) [
            | inl before ↦
                let apart : block ≡ copy → ⊥ = λ e. absurd (omega (arith, before, next, ap (index_of w.ranges) e)) in
                λ x low here. ap (λ l. memory_after w l x) (still block apart) ∙ s.begun begins block attested before x low here
            | inr waits ↦
                let same : block ≡ copy = same_index w.ranges at block copy attested there (omega (arith, waits, copied, next)) in
                λ x low here. ap (λ l. memory_after w l x) (here_now block same) ∙ s.waiting begins block attested waits x low here
          ];
      kept = λ block attested copied locked.
          elim (cases_lt (index_of w.ranges block) (copied_of p)) [
            | inl before ↦
                let apart : block ≡ copy → ⊥ = λ e. absurd (omega (arith, before, next, ap (index_of w.ranges) e)) in
                let locked' = locks_past_copy p.discipline (copied_of p) (is_ended p) (is_released p) (index_of w.ranges block) before locked in
                λ x low here. s.kept block attested before locked' x low here ∙ sym (ap (λ l. memory_after w l x) (still block apart))
            | inr waits ↦
                let same : block ≡ copy = same_index w.ranges at block copy attested there (omega (arith, waits, copied, next)) in
                λ x low here. sym (ap (λ l. memory_after w l x) (here_now block same))
          ];
    }

-- a pass that has just begun
slides_new : (w : Setting) (entry : Entry) (past : List Entry) (pass : Pass) → Opens entry past pass → Slides w (entry ∷ past) pass
slides_new w entry past pass o =
    let none : copied_of pass ≡ 0 = ap (λ since. copies_in since) o.since in
    record {
      waiting = λ begins block attested waits. λ x low here. sym (ap (λ l. memory_after w l x) o.opened);
      begun = λ begins block attested copied. absurd (omega (arith, none, copied));
      kept = λ block attested copied locked. absurd (omega (arith, none, copied));
    }

-- any entry that may follow, with which the pass goes on
slides_act : (w : Setting) → IsSetting w → StandAtIndexes w.ranges → (past : List Entry) (actor : ℕ) (act : Act) → MayFollow w past (entry_of actor act) → (earlier : Pass) → pass_after past ≡ Some earlier → InTurn w earlier → IsTrue (in_order w (Some earlier) act) → Slides w past earlier → Slides w (entry_of actor act ∷ past) (longer (entry_of actor act) earlier)
slides_act w v at past actor (Copy copy) may p is turn order s =
    let parts = and_parts (not (is_ended p) && is_attested w.ranges copy) (index_of w.ranges copy == copied_of p) order in
    slides_copy w at past actor copy p (and_parts (not (is_ended p)) (is_attested w.ranges copy) parts.0).1 (eqb-true _ _ parts.1) s
slides_act w v at past actor (Fetch addr value) may p is turn order s = slides_on w v past (entry_of actor (Fetch addr value)) may p is turn refl s
slides_act w v at past actor (Load addr width value) may p is turn order s = slides_on w v past (entry_of actor (Load addr width value)) may p is turn refl s
slides_act w v at past actor (Store addr width value) may p is turn order s = slides_on w v past (entry_of actor (Store addr width value)) may p is turn refl s
slides_act w v at past actor (Start discipline counter) may p is turn order s = slides_on w v past (entry_of actor (Start discipline counter)) may p is turn refl s
slides_act w v at past actor End may p is turn order s = slides_on w v past (entry_of actor End) may p is turn refl s
slides_act w v at past actor Tick may p is turn order s = slides_on w v past (entry_of actor Tick) may p is turn refl s
slides_act w v at past actor Release may p is turn order s = slides_on w v past (entry_of actor Release) may p is turn refl s

-- the sliding-lock fact after these entries, the newest first
pub slides : (w : Setting) → IsSetting w → StandAtIndexes w.ranges → (past : List Entry) → IsLegalBack w past → (pass : Pass) → pass_after past ≡ Some pass → Slides w past pass
slides w v at [] legal pass h = absurd cc
slides w v at (entry ∷ past) legal pass h =
    elim (pass_cases entry past pass h) [
      | inl o ↦ slides_new w entry past pass o
      | inr g ↦
          let order = subst (λ b. IsTrue (in_order w b entry.act)) g.was legal.1.order in
          let turn = in_turn w past legal.0 g.earlier g.was in
          let before = slides w v at past legal.0 g.earlier g.was in
          subst (λ p. Slides w (entry ∷ past) p) g.now (slides_act w v at past entry.actor entry.act legal.1 g.earlier g.was turn order before)
    ]
