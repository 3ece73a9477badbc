-- One actor's turn, case by case, and what an application's port answered in each.
use Rattle.std.proofs.Common.{◌≡◌, ℕ, ◌+◌, ◌<◌, ◌≤◌, Bool, true, false, List, [], ◌∷◌, ◌++◌, length, reverse, Option, Some, None, refl, sym, ap, ◌∙◌, subst, arith}
use Rattle.std.specs.Prelude.{IsTrue, not, ◌==◌, if◌then◌else◌}
use Rattle.std.proofs.lemmas.Bool.{eqb-true, eq-eqb, ne_eqb, not_from_true}
use Rattle.std.proofs.lemmas.List.{length_push, length-reverse}
use Rattle.history.specs.declared.events.Width.TheVariants.{Word}
use Rattle.history.specs.declared.events.Act.{Act}
use Rattle.history.specs.declared.events.Act.TheVariants as act
use Rattle.history.specs.declared.events.Entry.{Entry}
use Rattle.history.specs.Layout.{Setting, block_of}
use Rattle.history.specs.Memory.{memory_after, value_in}
use Rattle.history.specs.Locks.{is_locked}
use Rattle.history.specs.Legal.{IsLegal, MayFollow, lock_allows, value_fits}
use Rattle.chronicle.specs.Ports.{entry_by}
use Rattle.rv_core.specs.declared.waits.CoreWant.{CoreWant}
use Rattle.rv_core.specs.declared.waits.CoreWant.TheVariants.{Fetch, Load, Store, Ended}
use Rattle.rv_core.specs.Runs.{ProgramState, next_access}
use Rattle.rv_core.specs.Waits.{act_asked}
use Rattle.app_thread.specs.declared.turns.Turn.TheVariants as turn
use Rattle.app_thread.specs.Turns.{FindsLocked, HasTurned, IsAccessAsked, MakesAct, TurnsAlone}
use Rattle.att_base.specs.Faults.{one_more}
use Rattle.device.specs.declared.tallies.Tally.{Tally}
use Rattle.device.specs.declared.tallies.Stepped.{Stepped}
use Rattle.device.specs.declared.tallies.Stepped.TheVariants.{Over, Made, Again, Full}
use Rattle.device.specs.Runs.{act_now, value_now}
use Rattle.device.specs.Turns.{ActorState, actor_at, answer_if, answer_to, own_answer, own_turn, turn_if, turn_to, with_entry, with_stop, with_wait}

-- ---- one turn

-- the turn of an actor that has this to do next comes to this state and this answer
abbrev pub ComesTo : Setting → ℕ → Option Act → ActorState → ActorState → Stepped → Type 0
ComesTo w actor next before after answer = (after ≡ own_turn w actor next before) × (answer ≡ own_answer w next before)

pub stopped_turn : (w : Setting) (actor : ℕ) (next : Option Act) (state : ActorState) → state.tally.stopped ≡ true → ComesTo w actor next state state Over
stopped_turn w actor next state stop = (
  sym (ap (λ b. if b then state else turn_if w actor next state) stop),
  sym (ap (λ b. if b then Over else answer_if w next state) stop),
)

-- of an actor that isn't stopped
going : (w : Setting) (actor : ℕ) (next : Option Act) (state after : ActorState) (answer : Stepped) → state.tally.stopped ≡ false → (after ≡ turn_if w actor next state) × (answer ≡ answer_if w next state) → ComesTo w actor next state after answer
going w actor next state after answer run h = (
  h.0 ∙ sym (ap (λ b. if b then state else turn_if w actor next state) run),
  h.1 ∙ sym (ap (λ b. if b then Over else answer_if w next state) run),
)

pub over_turn : (w : Setting) (actor : ℕ) (next : Option Act) (state : ActorState) → state.tally.stopped ≡ false → next ≡ None → ComesTo w actor next state state Over
over_turn w actor next state run none =
    going w actor next state state Over run (sym (ap (λ n. turn_if w actor n state) none), sym (ap (λ n. answer_if w n state) none))

acting : (w : Setting) (actor : ℕ) (next : Option Act) (a : Act) (state after : ActorState) (answer : Stepped) → state.tally.stopped ≡ false → next ≡ Some a → (after ≡ turn_to w actor a state) × (answer ≡ answer_to w a state) → ComesTo w actor next state after answer
acting w actor next a state after answer run is h =
    going w actor next state after answer run (h.0 ∙ sym (ap (λ n. turn_if w actor n state) is), h.1 ∙ sym (ap (λ n. answer_if w n state) is))

pub full_turn : (w : Setting) (actor : ℕ) (next : Option Act) (a : Act) (state : ActorState) → state.tally.stopped ≡ false → next ≡ Some a → length state.history ≡ w.cap
    → ComesTo w actor next state (with_stop state) (Full (length state.history))
full_turn w actor next a state run is full =
    let cap : (length state.history == w.cap) ≡ true = eq-eqb (length state.history) w.cap full in
    acting w actor next a state (with_stop state) (Full (length state.history)) run is (rw cap refl, rw cap refl)

pub made_turn : (w : Setting) (actor : ℕ) (next : Option Act) (a : Act) (state : ActorState) → state.tally.stopped ≡ false → next ≡ Some a → length state.history < w.cap → lock_allows w (reverse state.history) a ≡ true
    → ComesTo w actor next state (with_entry actor a state) (Made (length state.history + 1))
made_turn w actor next a state run is room allows =
    let cap : (length state.history == w.cap) ≡ false = ne_eqb (length state.history) w.cap (λ e. omega (arith, room, e)) in
    acting w actor next a state (with_entry actor a state) (Made (length state.history + 1)) run is (rw (cap, allows) refl, rw (cap, allows) refl)

pub again_turn : (w : Setting) (actor : ℕ) (next : Option Act) (a : Act) (state : ActorState) → state.tally.stopped ≡ false → next ≡ Some a → length state.history < w.cap → lock_allows w (reverse state.history) a ≡ false
    → ComesTo w actor next state (with_wait state) (Again (length state.history))
again_turn w actor next a state run is room locked =
    let cap : (length state.history == w.cap) ≡ false = ne_eqb (length state.history) w.cap (λ e. omega (arith, room, e)) in
    acting w actor next a state (with_wait state) (Again (length state.history)) run is (rw (cap, locked) refl, rw (cap, locked) refl)

-- ---- an application

same_act : (a b : Act) → Some a ≡ Some b → a ≡ b
same_act a b h = cc

-- what was read is what memory has now
read_now : (w : Setting) (history : List Entry) (want : CoreWant) (read : ℕ) (a : Act) → act_asked want read ≡ Some a → value_fits w (reverse history) a ≡ true → act_now w history want ≡ Some a
read_now w history (Fetch addr) read a is fits =
    let fit : value_fits w (reverse history) (act.Fetch addr read) ≡ true = subst (λ x. value_fits w (reverse history) x ≡ true) (sym (same_act (act.Fetch addr read) a is)) fits in
    ap (λ v. Some (act.Fetch addr v)) (sym (eqb-true read (value_now w history (Fetch addr)) fit)) ∙ is
read_now w history (Load addr width) read a is fits =
    let fit : value_fits w (reverse history) (act.Load addr width read) ≡ true = subst (λ x. value_fits w (reverse history) x ≡ true) (sym (same_act (act.Load addr width read) a is)) fits in
    ap (λ v. Some (act.Load addr width v)) (sym (eqb-true read (value_now w history (Load addr width)) fit)) ∙ is
read_now w history (Store addr width value) read a is fits = is
read_now w history (Ended ending) read a is fits = absurd cc

abbrev pub EntryLess : Type 0
EntryLess = (w : Setting) (history : List Entry) (entry : Entry) → IsLegal w (history ++ entry ∷ []) → IsLegal w history × MayFollow w (reverse history) entry

-- what is asked is an access of this history
asked_some : (w : Setting) (history : List Entry) (want : CoreWant) → IsAccessAsked want → (a : Act) × (act_now w history want ≡ Some a)
asked_some w history (Fetch addr) h = (act.Fetch addr (value_now w history (Fetch addr)), refl)
asked_some w history (Load addr width) h = (act.Load addr width (value_now w history (Load addr width)), refl)
asked_some w history (Store addr width value) h = (act.Store addr width value, refl)
asked_some w history (Ended ending) h = elim h [ ]

-- what the application does next
abbrev pub next_now : Setting → List Entry → ProgramState → Option Act
next_now w history at = act_now w history (next_access at)

module _ (w : Setting) (actor : ℕ) (old new : List Entry) (before after : ProgramState) (t : Tally) (run : t.stopped ≡ false) where
  pub app_over : (ending : _) → HasTurned w actor (actor + 1) old new before after (turn.Over ending) → ComesTo w actor (next_now w old before) (actor_at old t) (actor_at new t) Over
  app_over ending turned =
      let over = over_turn w actor (next_now w old before) (actor_at old t) run (ap (act_now w old) turned.0) in
      (ap (λ l. actor_at l t) turned.2 ∙ over.0, over.1)

  pub app_made : EntryLess → (kind place : ℕ) → HasTurned w actor (actor + 1) old new before after (turn.Made kind place) → TurnsAlone actor old new before after (turn.Made kind place)
      → ComesTo w actor (next_now w old before) (actor_at old t) (actor_at new t) (Made place)
  app_made less kind place turned alone =
      let a = alone.0 in
      let legal : IsLegal w (old ++ entry_by actor a ∷ []) = subst (IsLegal w) alone.2 turned.3 in
      let may : MayFollow w (reverse old) (entry_by actor a) = (less w old (entry_by actor a) legal).1 in
      let made = made_turn w actor (next_now w old before) a (actor_at old t) run (read_now w old (next_access before) alone.1.read a alone.1.asked may.value) (omega (arith, length-reverse old, may.cap)) may.lock in
      let here : place ≡ length old + 1 = turned.2.1 ∙ ap length alone.2 ∙ length_push old (entry_by actor a) in
      (ap (λ l. actor_at l t) alone.2 ∙ made.0, ap Made here ∙ made.1)

  pub app_again : (place : ℕ) → HasTurned w actor (actor + 1) old new before after (turn.Again place) → TurnsAlone actor old new before after (turn.Again place)
      → ComesTo w actor (next_now w old before) (actor_at old t) (actor_at new (record t { waits = one_more t.waits; waited = Some place })) (Again place)
  app_again place turned alone =
      let found : FindsLocked w actor (actor + 1) old new before place = turned.0 in
      let a = act.Store found.addr found.width found.value in
      let locked : lock_allows w (reverse old) a ≡ false = not_from_true (is_locked w (reverse old) (block_of w.layout found.addr)) (subst (λ l. is_locked w (reverse l) (block_of w.layout found.addr) ≡ true) alone found.again.3) in
      let here : place ≡ length old = found.again.1 ∙ ap length alone in
      let room : length old < w.cap = omega (arith, found.again.2, ap length alone) in
      let again = again_turn w actor (next_now w old before) a (actor_at old t) run (ap (act_now w old) found.asked) room locked in
      (ap (λ l. actor_at l (record t { waits = one_more t.waits; waited = Some place })) alone ∙ ap (λ p. actor_at old (record t { waits = one_more t.waits; waited = Some p })) here ∙ again.0, ap Again here ∙ again.1)

  pub app_full : (place : ℕ) → HasTurned w actor (actor + 1) old new before after (turn.Full place) → TurnsAlone actor old new before after (turn.Full place)
      → ComesTo w actor (next_now w old before) (actor_at old t) (actor_at new (record t { stopped = true })) (Full place)
  app_full place turned alone =
      let some = asked_some w old (next_access before) turned.0 in
      let here : place ≡ length old = turned.1.2 ∙ ap length alone in
      let full = full_turn w actor (next_now w old before) some.0 (actor_at old t) run some.1 (sym here ∙ turned.1.1) in
      (ap (λ l. actor_at l (record t { stopped = true })) alone ∙ full.0, ap Full here ∙ full.1)
