-- A script that has been run so far: what is printed already, and what is left to print, are what it prints.
use Rattle.std.proofs.Common.{◌≡◌, ℕ, ◌+◌, ◌<◌, true, false, drop, get_or, add-one, drop-cons, List, [], ◌∷◌, ◌++◌, length, refl, sym, ◌∙◌, ap, subst, append_assoc, append-nil}
use Rattle.std.proofs.lemmas.Bool.{false≢true}
use Rattle.std.specs.Prelude.{IsTrue}
use Rattle.history.specs.declared.events.Entry.{Entry}
use Rattle.history.specs.Layout.{Setting}
use Rattle.mem_core.specs.Cores.{Core}
use Rattle.std.specs.Fmt.{decimal}
use Rattle.std.specs.Prelude.{codes}
use Rattle.std.proofs.lemmas.List.{length-reverse}
use Rattle.history.specs.declared.events.Act.TheVariants as acts
use Rattle.history.specs.Pass.{pass_after}
use Rattle.history.specs.Legal.{in_order}
use Rattle.script.specs.declared.steps.Step.TheVariants.{Load, Store, Start, Copy, End, Tick, Release}
use Rattle.script.specs.declared.steps.Step.{Step}
use Rattle.script.specs.declared.tagger.Tagger.{Tagger}
use Rattle.script.specs.Steps.{next_block, entry_of, is_full, waits, meets_full}
use Rattle.script.specs.Measuring.{measured_with, may_come}
use Rattle.script.specs.Attested.{MayComeAll}
use Rattle.script.specs.Printed.{line, step_printed, steps_printed, nonce_with}
use Rattle.script.specs.Tagging.{IsTagging}
use Rattle.script.specs.declared.running.StepEnd.{StepEnd}
use Rattle.script.specs.declared.running.StepEnd.TheVariants.{Made, Waits, Full}
use Rattle.script.specs.Running.{past_of, StepMade, StepWaits, StepFull, StepRan, IsTaggedBy, end_text, is_end_full}
use Rattle.script.proofs.Legals.{IsLinked, step_linked, waiting_linked, same_order, same_block}
use Rattle.script.proofs.CoreSteps.{past_more}

pub record Midway (w : Setting) (key : List ℕ) (steps : List Step) (start : List ℕ) (rest : List Step) (core : Core) (out : List ℕ) (t : Tagger) : Type 0 where
  pub world : core.world ≡ w
  pub measured : List Entry
  pub linked : IsLinked measured (past_of core)
  pub ordered : MayComeAll w measured rest
  pub full : meets_full w (past_of core) rest ≡ meets_full w [] steps
  pub nonce : List ℕ
  pub tagging : IsTagging w key nonce (past_of core) t
  pub whole : out ++ steps_printed w key nonce (past_of core) rest ≡ start ++ steps_printed w key [] [] steps

-- a step that may come after the measuring steps may come after the history
may_come_linked : (w : Setting) (measured past : List Entry) (step : Step) → IsLinked measured past → IsTrue (may_come w measured step) → IsTrue (may_come w past step)
may_come_linked w measured past (Load width addr) link may = may
may_come_linked w measured past (Store width addr value) link may = may
may_come_linked w measured past (Start discipline counter nonce) link may = sym (same_order w measured past (acts.Start discipline counter) link) ∙ may
may_come_linked w measured past Copy link may =
    sym (same_order w measured past (acts.Copy (next_block w (pass_after past))) link)
    ∙ ap (λ block. in_order w (pass_after measured) (acts.Copy block)) (sym (same_block w measured past link)) ∙ may
may_come_linked w measured past End link may = sym (same_order w measured past acts.End link) ∙ may
may_come_linked w measured past Tick link may = sym (same_order w measured past acts.Tick link) ∙ may
may_come_linked w measured past Release link may = sym (same_order w measured past acts.Release link) ∙ may

-- before the first step
pub midway-none : (w : Setting) (key : List ℕ) (steps : List Step) (start : List ℕ) (core : Core) (t : Tagger) → core.world ≡ w → core.history ≡ [] → MayComeAll w [] steps
    → IsTagging w key [] [] t → Midway w key steps start steps core start t
midway-none w key steps start core t world empty ordered tagging = record {
  world = world;
  measured = [];
  linked = rw empty refl;
  ordered = ordered;
  full = rw empty refl;
  nonce = [];
  tagging = rw empty tagging;
  whole = rw empty refl;
}

-- after a step that made its entry
pub midway-made : (w : Setting) (key : List ℕ) (steps : List Step) (start : List ℕ) (step : Step) (rest : List Step) (old new : Core) (before after : List ℕ) (t u : Tagger)
    → (m : Midway w key steps start (step ∷ rest) old before t) → StepMade key m.nonce old new step before after
    → IsTagging w key (nonce_with m.nonce step) (entry_of w (past_of old) step ∷ past_of old) u
    → Midway w key steps start rest new after u
midway-made w key steps start step rest old new before after t u m made tagging =
    let room : is_full w (past_of old) ≡ false = rw m.world at made.room in
    let free : waits w (past_of old) step ≡ false = rw m.world at made.free in
    let longer : past_of new ≡ entry_of w (past_of old) step ∷ past_of old = rw m.world at (past_more old new (entry_of old.world (past_of old) step) made.grown) in
    let said : after ≡ before ++ step_printed w key m.nonce (past_of old) step = rw m.world at made.said in
    record {
      world = ap (λ (core : Core). core.world) made.grown ∙ m.world;
      measured = measured_with w m.measured step;
      linked = rw longer (step_linked w m.measured (past_of old) step m.linked);
      ordered = m.ordered.1;
      full = rw longer (rw (room, free) at m.full);
      nonce = nonce_with m.nonce step;
      tagging = rw longer tagging;
      whole = rw (longer, said) (append_assoc before (step_printed w key m.nonce (past_of old) step) _ ∙ (rw (room, free) at m.whole));
    }

-- after a store that waits
pub midway-waited : (w : Setting) (key : List ℕ) (steps : List Step) (start : List ℕ) (step : Step) (rest : List Step) (old new : Core) (before after : List ℕ) (t u : Tagger) (place : ℕ)
    → (m : Midway w key steps start (step ∷ rest) old before t) → StepWaits old new step before after place
    → IsTagging w key m.nonce (past_of old) u
    → Midway w key steps start rest new (after ++ end_text (Waits place)) u
midway-waited w key steps start step rest old new before after t u place m waited tagging =
    let room : is_full w (past_of old) ≡ false = rw m.world at waited.room in
    let locked : waits w (past_of old) step ≡ true = rw m.world at waited.locked in
    let same : past_of new ≡ past_of old = ap past_of waited.same in
    record {
      world = ap (λ (core : Core). core.world) waited.same ∙ m.world;
      measured = measured_with w m.measured step;
      linked = rw same (waiting_linked w m.measured (past_of old) step m.linked locked);
      ordered = m.ordered.1;
      full = rw same (rw (room, locked) at m.full);
      nonce = m.nonce;
      tagging = rw same tagging;
      whole = rw (same, waited.said, waited.at) (append_assoc before (line (codes "again " ++ decimal (length (past_of old)))) _ ∙ (rw (room, locked) at m.whole));
    }

-- where the history is full, nothing more is printed
pub midway-stopped : (w : Setting) (key : List ℕ) (steps : List Step) (start : List ℕ) (step : Step) (rest : List Step) (old new : Core) (before after : List ℕ) (t : Tagger) (place : ℕ)
    → Midway w key steps start (step ∷ rest) old before t → StepFull old new before after place
    → (after ++ end_text (Full place) ≡ start ++ steps_printed w key [] [] steps) × (true ≡ meets_full w [] steps)
midway-stopped w key steps start step rest old new before after t place m stopped =
    let full : is_full w (past_of old) ≡ true = rw m.world at stopped.full in
    let cap : place ≡ w.cap = rw m.world at stopped.at in
    (rw (stopped.said, cap) (rw full at m.whole), rw full at m.full)

-- after the last step the number of entries is printed
pub midway-all : (w : Setting) (key : List ℕ) (steps : List Step) (start : List ℕ) (core : Core) (before after : List ℕ) (t : Tagger) (count : ℕ)
    → Midway w key steps start [] core before t → count ≡ length core.history → after ≡ before ++ line (codes "entries " ++ decimal count)
    → (after ≡ start ++ steps_printed w key [] [] steps) × (false ≡ meets_full w [] steps)
midway-all w key steps start core before after t count m is said =
    let places : count ≡ length (past_of core) = is ∙ sym (length-reverse core.history) in
    (said ∙ (rw (← places) at m.whole), m.full)

-- the next step may come after the history
pub midway-may : (w : Setting) (key : List ℕ) (steps : List Step) (start : List ℕ) (step : Step) (rest : List Step) (core : Core) (out : List ℕ) (t : Tagger)
    → Midway w key steps start (step ∷ rest) core out t → IsTrue (may_come core.world (past_of core) step)
midway-may w key steps start step rest core out t m = rw m.world (may_come_linked w m.measured (past_of core) step m.linked m.ordered.0)

-- what is left at a place begins with the step there
pub rest_at : (steps : List Step) (i : ℕ) (d : Step) → i < length steps → drop i steps ≡ get_or steps i d ∷ drop (i + 1) steps
rest_at steps i d inside = rw (add-one, drop-cons steps i d) refl

-- after a step with which the history isn't full
pub midway-next : (w : Setting) (key : List ℕ) (steps : List Step) (start : List ℕ) (step : Step) (rest : List Step) (old new : Core) (before after : List ℕ) (t u : Tagger) (ended : StepEnd)
    → is_end_full ended ≡ false → Midway w key steps start (step ∷ rest) old before t
    → ((k n : List ℕ) → IsTagging old.world k n (past_of old) t → StepRan k n old new step before after ended)
    → ((k n : List ℕ) → IsTagging old.world k n (past_of old) t → IsTaggedBy old.world k n (nonce_with n step) (past_of old) step u ended)
    → Midway w key steps start rest new (after ++ end_text ended) u
midway-next w key steps start step rest old new before after t u Made room m ran tagged =
    let tagging : IsTagging old.world key m.nonce (past_of old) t = rw m.world m.tagging in
    subst (λ l. Midway w key steps start rest new l u) (sym (append-nil after)) (midway-made w key steps start step rest old new before after t u m (ran key m.nonce tagging) (rw m.world at (tagged key m.nonce tagging)))
midway-next w key steps start step rest old new before after t u (Waits place) room m ran tagged =
    let tagging : IsTagging old.world key m.nonce (past_of old) t = rw m.world m.tagging in
    midway-waited w key steps start step rest old new before after t u place m (ran key m.nonce tagging) (rw m.world at (tagged key m.nonce tagging))
midway-next w key steps start step rest old new before after t u (Full place) room m ran tagged = absurd (false≢true (sym room))

-- and with which it is
pub midway-full : (w : Setting) (key : List ℕ) (steps : List Step) (start : List ℕ) (step : Step) (rest : List Step) (old new : Core) (before after : List ℕ) (t : Tagger) (ended : StepEnd)
    → is_end_full ended ≡ true → Midway w key steps start (step ∷ rest) old before t
    → ((k n : List ℕ) → IsTagging old.world k n (past_of old) t → StepRan k n old new step before after ended)
    → (after ++ end_text ended ≡ start ++ steps_printed w key [] [] steps) × (true ≡ meets_full w [] steps)
midway-full w key steps start step rest old new before after t Made full m ran = absurd (false≢true full)
midway-full w key steps start step rest old new before after t (Waits place) full m ran = absurd (false≢true full)
midway-full w key steps start step rest old new before after t (Full place) full m ran =
    let tagging : IsTagging old.world key m.nonce (past_of old) t = rw m.world m.tagging in
    midway-stopped w key steps start step rest old new before after t place m (ran key m.nonce tagging)
