-- The order of a pass by its plan, which entries of others leave as it is.
use Rattle.std.proofs.Common.{◌≡◌, ℕ, ◌<◌, ◌≤◌, Bool, true, false, not, cond, List, [], ◌∷◌, ◌++◌, reverse, Option, Some, None, option_map, refl, sym, ap, ap₂, ◌∙◌, subst, inl, inr, arith, append-nil}
use Rattle.std.specs.Prelude.{◌&&◌, ◌||◌, ◌==◌, IsTrue, nat_lt, if◌then◌else◌}
use Rattle.std.proofs.lemmas.Bool.{cases_Bool, cases_lt, and_parts, and_from, lt-ltb, le-ltb, ltb-true, ne_eqb, eq-eqb, eqb-true, false≢true, false_from_ne_true}
use Rattle.std.proofs.lemmas.List.{reverse-append}
use Rattle.history.specs.declared.events.Discipline.{Discipline}
use Rattle.history.specs.declared.events.Act.{Act}
use Rattle.history.specs.declared.events.Act.TheVariants.{Fetch, Load, Store, Start, Copy, End, Tick, Release}
use Rattle.history.specs.declared.events.Entry.{Entry}
use Rattle.history.specs.declared.ranges.Range.{Range}
use Rattle.history.specs.Attested.{attested_block, index_of, is_attested, total}
use Rattle.history.specs.Layout.{Setting}
use Rattle.history.specs.Memory.{own}
use Rattle.history.specs.Pass.{Pass, longer, pass_after, copied_of, is_ended, is_released, is_extended, is_copy, is_end, is_release}
use Rattle.history.specs.Legal.{IsLegalBack, IsLegal, MayFollow, is_access, in_order}
use Rattle.lock_plan.specs.declared.steps.PlanStep.{PlanStep}
use Rattle.lock_plan.specs.declared.steps.PlanStep.TheVariants as next
use Rattle.lock_plan.specs.Plans.{PassState, PlanState, state_of, step_after, plan_after, next_step, pass_with, with_copy, with_end, with_release}
use Rattle.chronicle.specs.Laws.{lock_plan_of, plan_step, is_next}
use Rattle.chronicle.proofs.Indexes.{StandAtIndexes, index_fits}
use Rattle.chronicle.proofs.Passes.{entry_of, in_turn}
use Rattle.chronicle.proofs.Places.{legal_rest, legal_less, reverse_more}
use Rattle.chronicle.proofs.Own.{own-append, own_none, in_actors}
use Rattle.chronicle.proofs.Others.{access_of, application_of, same_longer}
use Rattle.chronicle.specs.Ports.{OthersFollow, AddsEntry}

-- a full count isn't below, and a count below isn't full
full_or_below : (copied attested : ℕ) → copied ≤ attested → (copied == attested) ≡ not (nat_lt copied attested)
full_or_below copied attested few =
    elim (cases_lt copied attested) [
      | inl below ↦ ne_eqb copied attested (λ full. omega arith) ∙ ap not (sym (lt-ltb copied attested below))
      | inr full ↦ eq-eqb copied attested (omega arith) ∙ ap not (sym (le-ltb copied attested full))
    ]

-- what comes next, once the parts of a pass are known
step_by : Bool → Bool → Bool → ℕ → PlanStep
step_by ended holds below expected = if ended then (if holds then next.Release else next.Start) else (if below then next.Copy expected else next.End)

-- the order rule of each step, by the parts of the pass
start_next : (ended holds below : Bool) (expected : ℕ) (discipline : Discipline) (counter : ℕ) → not (not ended || holds) ≡ is_next (step_by ended holds below expected) (Start discipline counter)
unfolding step_by
start_next true true below expected discipline counter = refl
start_next true false below expected discipline counter = refl
start_next false holds true expected discipline counter = refl
start_next false holds false expected discipline counter = refl

copy_next : (ended holds below : Bool) (expected block : ℕ) → (not ended && below && (block == expected)) ≡ is_next (step_by ended holds below expected) (Copy block)
unfolding step_by
copy_next true true below expected block = refl
copy_next true false below expected block = refl
copy_next false holds true expected block = refl
copy_next false holds false expected block = refl

end_next : (ended holds below : Bool) (expected : ℕ) → (not ended && not below) ≡ is_next (step_by ended holds below expected) End
unfolding step_by
end_next true true below expected = refl
end_next true false below expected = refl
end_next false holds true expected = refl
end_next false holds false expected = refl

release_next : (extended released ended below : Bool) (expected : ℕ) → (extended && ended && not released) ≡ is_next (step_by ended (extended && not released) below expected) Release
unfolding step_by
release_next true true true below expected = refl
release_next true false true below expected = refl
release_next false released true below expected = refl
release_next true released false true expected = refl
release_next true released false false expected = refl
release_next false released false true expected = refl
release_next false released false false expected = refl

-- the attested block with an index below their number has that index
abbrev pub HaveIndexes : List Range → Type 0
HaveIndexes ranges = (index : ℕ) → index < total ranges → IsTrue (is_attested ranges (attested_block ranges index)) × (index_of ranges (attested_block ranges index) ≡ index)

-- the block that has this index is the attested block that stands there
by_index : (ranges : List Range) → StandAtIndexes ranges → HaveIndexes ranges → (block index : ℕ) → (is_attested ranges block && (index_of ranges block == index)) ≡ (nat_lt index (total ranges) && (block == attested_block ranges index))
by_index ranges at has block index =
    elim (cases_Bool (is_attested ranges block && (index_of ranges block == index))) [
      | inl holds ↦
          let parts = and_parts (is_attested ranges block) (index_of ranges block == index) holds in
          let same : index_of ranges block ≡ index = eqb-true _ _ parts.1 in
          let below : index < total ranges = subst (λ n. n < total ranges) same (index_fits ranges block parts.0) in
          let stands : block ≡ attested_block ranges index = sym (at block parts.0) ∙ ap (attested_block ranges) same in
          holds ∙ sym (and_from (nat_lt index (total ranges)) _ (lt-ltb _ _ below) (eq-eqb _ _ stands))
      | inr fails ↦
          let other = false_from_ne_true (nat_lt index (total ranges) && (block == attested_block ranges index)) (λ there_too.
          let parts = and_parts (nat_lt index (total ranges)) (block == attested_block ranges index) there_too in
          let here : attested_block ranges index ≡ block = sym (eqb-true _ _ parts.1) in
          let h = has index (ltb-true _ _ parts.0) in
          let there : IsTrue (is_attested ranges block) = subst (λ b. IsTrue (is_attested ranges b)) here h.0 in
          let same : index_of ranges block ≡ index = ap (index_of ranges) (sym here) ∙ h.1 in
          false≢true (sym fails ∙ and_from (is_attested ranges block) _ there (eq-eqb _ _ same))) in
          fails ∙ sym other
    ]

-- the same of a pass that isn't over
by_index_in : (running : Bool) (ranges : List Range) → StandAtIndexes ranges → HaveIndexes ranges → (block index : ℕ) → (running && is_attested ranges block && (index_of ranges block == index)) ≡ (running && nat_lt index (total ranges) && (block == attested_block ranges index))
by_index_in true ranges at has block index = by_index ranges at has block index
by_index_in false ranges at has block index = refl

-- the order rule is the plan's next step
order_some : (w : Setting) → StandAtIndexes w.ranges → HaveIndexes w.ranges → (pass : Pass) (act : Act) → copied_of pass ≤ total w.ranges → in_order w (Some pass) act ≡ is_next (step_after w.ranges (Some (state_of pass))) act
unfolding step_by
order_some w at has pass (Fetch addr value) few = refl
order_some w at has pass (Load addr width value) few = refl
order_some w at has pass (Store addr width value) few = refl
order_some w at has pass Tick few = refl
order_some w at has pass (Start discipline counter) few = start_next (is_ended pass) (is_extended pass.discipline && not (is_released pass)) (nat_lt (copied_of pass) (total w.ranges)) (attested_block w.ranges (copied_of pass)) discipline counter
order_some w at has pass (Copy block) few =
    by_index_in (not (is_ended pass)) w.ranges at has block (copied_of pass)
    ∙ copy_next (is_ended pass) (is_extended pass.discipline && not (is_released pass)) (nat_lt (copied_of pass) (total w.ranges)) (attested_block w.ranges (copied_of pass)) block
order_some w at has pass End few = ap (λ full. not (is_ended pass) && full) (full_or_below (copied_of pass) (total w.ranges) few) ∙ end_next (is_ended pass) (is_extended pass.discipline && not (is_released pass)) (nat_lt (copied_of pass) (total w.ranges)) (attested_block w.ranges (copied_of pass))
order_some w at has pass Release few = release_next (is_extended pass.discipline) (is_released pass) (is_ended pass) (nat_lt (copied_of pass) (total w.ranges)) (attested_block w.ranges (copied_of pass))

order_none : (w : Setting) (act : Act) → in_order w None act ≡ is_next next.Start act
order_none w (Fetch addr value) = refl
order_none w (Load addr width value) = refl
order_none w (Store addr width value) = refl
order_none w Tick = refl
order_none w (Start discipline counter) = refl
order_none w (Copy block) = refl
order_none w End = refl
order_none w Release = refl

order_at : (w : Setting) → StandAtIndexes w.ranges → HaveIndexes w.ranges → (past : List Entry) → IsLegalBack w past → (pass : Option Pass) → pass_after past ≡ pass → (act : Act) → in_order w pass act ≡ is_next (step_after w.ranges (option_map state_of pass)) act
order_at w at has past legal None is act = order_none w act
order_at w at has past legal (Some pass) is act = order_some w at has pass act (in_turn w past legal pass is).few

pub order_is_next : (w : Setting) → StandAtIndexes w.ranges → HaveIndexes w.ranges → (history : List Entry) → IsLegal w history → (act : Act) → in_order w (pass_after (reverse history)) act ≡ is_next (next_step (lock_plan_of w history)) act
order_is_next w at has history legal act = order_at w at has (reverse history) legal (pass_after (reverse history)) refl act

-- the order rule by the parts of a pass
abbrev order_by : Setting → Act → PassState → Bool
order_by w (Start discipline counter) s = not (not s.ended || (is_extended s.discipline && not s.released))
order_by w (Copy block) s = not s.ended && is_attested w.ranges block && (index_of w.ranges block == s.copied)
order_by w End s = not s.ended && (s.copied == total w.ranges)
order_by w Release s = is_extended s.discipline && s.ended && not s.released
order_by w _ s = true

order_parts : (w : Setting) (act : Act) (pass : Pass) → in_order w (Some pass) act ≡ order_by w act (state_of pass)
order_parts w (Fetch addr value) pass = refl
order_parts w (Load addr width value) pass = refl
order_parts w (Store addr width value) pass = refl
order_parts w (Start discipline counter) pass = refl
order_parts w (Copy block) pass = refl
order_parts w End pass = refl
order_parts w Tick pass = refl
order_parts w Release pass = refl

-- two passes in the same state are in the same order
order_same : (w : Setting) (act : Act) (pass other : Option Pass) → option_map state_of pass ≡ option_map state_of other → in_order w pass act ≡ in_order w other act
order_same w act None None same = refl
order_same w act None (Some other) same = absurd cc
order_same w act (Some pass) None same = absurd cc
order_same w act (Some pass) (Some other) same =
    let states : state_of pass ≡ state_of other = cc in
    order_parts w act pass ∙ ap (order_by w act) states ∙ sym (order_parts w act other)

-- what an entry does to the state of a pass
copy_state : (actor block : ℕ) (before : Option Pass) → option_map state_of (option_map (longer (entry_of actor (Copy block))) before) ≡ option_map with_copy (option_map state_of before)
copy_state actor block None = refl
copy_state actor block (Some pass) = refl

end_state : (actor : ℕ) (before : Option Pass) → option_map state_of (option_map (longer (entry_of actor End)) before) ≡ option_map with_end (option_map state_of before)
end_state actor None = refl
end_state actor (Some pass) = refl

release_state : (actor : ℕ) (before : Option Pass) → option_map state_of (option_map (longer (entry_of actor Release)) before) ≡ option_map with_release (option_map state_of before)
release_state actor None = refl
release_state actor (Some pass) = refl

same_state : (entry : Entry) (before : Option Pass) → is_copy entry.act ≡ false → is_end entry.act ≡ false → is_release entry.act ≡ false → option_map state_of (option_map (longer entry) before) ≡ option_map state_of before
same_state entry None copy end release = refl
same_state entry (Some pass) copy end release =
    let s = same_longer entry pass copy end release in
    ap Some (ap₂ (λ (copied : ℕ) (ended : Bool). pass_with copied ended (is_released (longer entry pass)) pass.discipline) s.copied s.ended ∙ ap (λ released. pass_with (copied_of pass) (is_ended pass) released pass.discipline) s.released)

-- the plan with this pass
abbrev plan_with : List Range → Option PassState → PlanState
plan_with ranges pass = record { ranges = ranges; pass = pass }

-- what an entry does to the plan
plan_more : (ranges : List Range) (actor : ℕ) (act : Act) (past : List Entry) → plan_after ranges (entry_of actor act ∷ past) ≡ plan_step act (plan_after ranges past)
plan_more ranges actor (Start discipline counter) past = refl
plan_more ranges actor (Copy block) past = ap (plan_with ranges) (copy_state actor block (pass_after past))
plan_more ranges actor End past = ap (plan_with ranges) (end_state actor (pass_after past))
plan_more ranges actor Release past = ap (plan_with ranges) (release_state actor (pass_after past))
plan_more ranges actor (Fetch addr value) past = ap (plan_with ranges) (same_state (entry_of actor (Fetch addr value)) (pass_after past) refl refl refl)
plan_more ranges actor (Load addr width value) past = ap (plan_with ranges) (same_state (entry_of actor (Load addr width value)) (pass_after past) refl refl refl)
plan_more ranges actor (Store addr width value) past = ap (plan_with ranges) (same_state (entry_of actor (Store addr width value)) (pass_after past) refl refl refl)
plan_more ranges actor Tick past = ap (plan_with ranges) (same_state (entry_of actor Tick) (pass_after past) refl refl refl)

-- an access does nothing to it
plan_access : (act : Act) (plan : PlanState) → IsTrue (is_access act) → plan_step act plan ≡ plan
plan_access (Fetch addr value) plan is = refl
plan_access (Load addr width value) plan is = refl
plan_access (Store addr width value) plan is = refl
plan_access (Start discipline counter) plan is = absurd (false≢true is)
plan_access (Copy block) plan is = absurd (false≢true is)
plan_access End plan is = absurd (false≢true is)
plan_access Tick plan is = absurd (false≢true is)
plan_access Release plan is = absurd (false≢true is)

-- one entry more, of the measurer or of an application
own_more : (w : Setting) (mine : Bool) (entry : Entry) (past : List Entry) → in_actors 0 1 entry ≡ mine → MayFollow w past entry → plan_after w.ranges past ≡ plan_after w.ranges (own past 0 1) → plan_after w.ranges (entry ∷ past) ≡ plan_after w.ranges (cond mine (entry ∷ own past 0 1) (own past 0 1))
own_more w true entry past is may rest =
    plan_more w.ranges entry.actor entry.act past ∙ ap (plan_step entry.act) rest ∙ sym (plan_more w.ranges entry.actor entry.act (own past 0 1))
own_more w false entry past is may rest =
    plan_more w.ranges entry.actor entry.act past ∙ plan_access entry.act (plan_after w.ranges past) (access_of entry may.actor (application_of entry is)) ∙ rest

-- the plan is that of the measurer's own entries
own_plan : (w : Setting) (past : List Entry) → IsLegalBack w past → plan_after w.ranges past ≡ plan_after w.ranges (own past 0 1)
own_plan w [] legal = refl
own_plan w (entry ∷ past) legal = own_more w (in_actors 0 1 entry) entry past refl legal.1 (own_plan w past legal.0)

-- the own entries, the newest first
reverse_kept : (mine : Bool) (entry : Entry) (rest : List Entry) → reverse rest ++ cond mine (entry ∷ []) [] ≡ reverse (cond mine (entry ∷ rest) rest)
reverse_kept true entry rest = sym (reverse-append (entry ∷ []) rest)
reverse_kept false entry rest = append-nil (reverse rest)

own-reverse : (history : List Entry) (low high : ℕ) → own (reverse history) low high ≡ reverse (own history low high)
own-reverse [] low high = refl
own-reverse (entry ∷ history) low high =
    ap (λ l. own l low high) (reverse-append (entry ∷ []) history)
    ∙ own-append (reverse history) (entry ∷ []) low high
    ∙ ap (λ l. l ++ own (entry ∷ []) low high) (own-reverse history low high)
    ∙ reverse_kept (in_actors low high entry) entry (own history low high)

-- the plan after a history is that after the measurer's own entries
pub plan_is_own : (w : Setting) (history : List Entry) → IsLegal w history → lock_plan_of w history ≡ lock_plan_of w (own history 0 1)
plan_is_own w history legal = own_plan w (reverse history) legal ∙ ap (plan_after w.ranges) (own-reverse history 0 1)

-- and so is the order
pub order_is_own : (w : Setting) (history : List Entry) → IsLegal w history → (act : Act) → in_order w (pass_after (reverse history)) act ≡ in_order w (pass_after (reverse (own history 0 1))) act
order_is_own w history legal act =
    order_same w act (pass_after (reverse history)) (pass_after (reverse (own history 0 1))) (ap (λ (plan : PlanState). plan.pass) (plan_is_own w history legal))

-- the first entries of a legal history are legal
legal_front : (w : Setting) (history more : List Entry) → IsLegal w (history ++ more) → IsLegal w history
legal_front w history more legal = legal_rest w (reverse more) (reverse history) (subst (λ l. IsLegalBack w l) (reverse-append history more) legal)

-- entries of others change neither
pub plan_others : (w : Setting) (history others : List Entry) → IsLegal w (history ++ others) → own others 0 1 ≡ [] → lock_plan_of w (history ++ others) ≡ lock_plan_of w history
plan_others w history others legal none =
    let owns : own (history ++ others) 0 1 ≡ own history 0 1 = own-append history others 0 1 ∙ ap (λ l. own history 0 1 ++ l) none ∙ append-nil (own history 0 1) in
    plan_is_own w (history ++ others) legal ∙ ap (lock_plan_of w) owns ∙ sym (plan_is_own w history (legal_front w history others legal))

pub order_others : (w : Setting) (history others : List Entry) → IsLegal w (history ++ others) → own others 0 1 ≡ [] → (act : Act) → in_order w (pass_after (reverse (history ++ others))) act ≡ in_order w (pass_after (reverse history)) act
order_others w history others legal none act =
    let owns : own (history ++ others) 0 1 ≡ own history 0 1 = own-append history others 0 1 ∙ ap (λ l. own history 0 1 ++ l) none ∙ append-nil (own history 0 1) in
    order_is_own w (history ++ others) legal act ∙ ap (λ l. in_order w (pass_after (reverse l)) act) owns ∙ sym (order_is_own w history (legal_front w history others legal) act)

-- after an answer of a port
pub plan_followed : (w : Setting) (old new : List Entry) → IsLegal w new → OthersFollow 0 1 old new → lock_plan_of w new ≡ lock_plan_of w old
plan_followed w old new legal f =
    ap (lock_plan_of w) f.whole ∙ plan_others w old f.rest (subst (λ l. IsLegal w l) f.whole legal) (own_none 0 1 f.rest f.beyond)

pub plan_added : (w : Setting) (old new : List Entry) (entry : Entry) → IsLegal w new → AddsEntry 0 1 old new entry → lock_plan_of w new ≡ plan_step entry.act (lock_plan_of w old)
plan_added w old new entry legal a =
    let front = (legal_less w (old ++ a.between) entry (subst (λ l. IsLegal w l) a.whole legal)).0 in
    ap (lock_plan_of w) a.whole
    ∙ ap (plan_after w.ranges) (reverse_more (old ++ a.between) entry)
    ∙ plan_more w.ranges entry.actor entry.act (reverse (old ++ a.between))
    ∙ ap (plan_step entry.act) (plan_others w old a.between front (own_none 0 1 a.between a.beyond))
