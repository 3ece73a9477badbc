-- A device as a whole: what a turn of one actor leaves of the others, and what it makes of the state.
use Rattle.std.proofs.Common.{◌≡◌, ℕ, zero, suc, ◌+◌, ◌<◌, ◌≤◌, Bool, true, false, List, [], ◌∷◌, ◌++◌, length, map, reverse, take, set, Option, Some, None, refl, sym, ap, ap₂, ◌∙◌, subst, inl, inr, append-nil, All, arith}
use Rattle.std.specs.Prelude.{◌⊎◌, ◌≢◌, ◌==◌, ◌||◌, is_none, if◌then◌else◌, slice_get, slice_set, unwrap_or, option_map, vec_capacity}
use Rattle.std.specs.Option.{option_and_then}
use Rattle.std.proofs.lemmas.Bool.{eqb-false, eqb-true, false≢true}
use Rattle.std.proofs.lemmas.List.{length-map, length-set, map-set, take_at}
use Rattle.std.proofs.lemmas.List.Elements.{All-append, All-cons, All-nil, All-weaker}
use Rattle.std.proofs.lemmas.Option.{slice_get-map, slice_get_within}
use Rattle.history.specs.declared.events.Act.{Act}
use Rattle.history.specs.declared.events.Entry.{Entry}
use Rattle.history.specs.Layout.{Layout, Setting, IsSetting}
use Rattle.history.specs.Memory.{own}
use Rattle.history.specs.Legal.{IsLegal, lock_allows}
use Rattle.challenge.specs.declared.Challenge.{Challenge}
use Rattle.chronicle.specs.Worlds.{shape_of}
use Rattle.chronicle.specs.Ports.{entry_by}
use Rattle.rv_core.specs.Runs.{AppProgram, ProgramState, IsBegunRun, asks, next_access, reads}
use Rattle.measure.specs.declared.stepping.Measuring.{Measuring}
use Rattle.measure.specs.Program.{measuring_programs}
use Rattle.measure.specs.Stepping.{left_of}
use Rattle.device.specs.declared.tallies.Tally.{Tally}
use Rattle.device.specs.declared.tallies.Stepped.{Stepped}
use Rattle.device.specs.declared.passes.Passes.{Passes}
use Rattle.device.specs.declared.slots.Slot.{Slot}
use Rattle.device.specs.Setups.{Setup}
use Rattle.device.specs.Runs.{IsRunSoFar, act_now, entries_of, measurer_acts, next_act, next_of_program}
use Rattle.device.specs.Turns.{ActorState, RunState, actor_at, actor_state, answer_of, fresh, is_done, own_answer, own_turn, turn, turn_if, turn_to, with_actor, with_entry, with_stop, with_wait}
use Rattle.device.specs.Keeping.{IsDevice, IsMeasuring, IsSlotAt, program_of_slot, setup_kept, state_kept, tally_of_slot}
use Rattle.device.proofs.Entries.{OwnAppend, OwnNone}
use Rattle.device.proofs.Measurements.{HasLeft, NoteStays, OthersStand, ReportStays, left_for, left_over, next_step_of, others_measuring, own_made}

-- ---- how a turn lets the history grow

-- by the actor's own entry, where there is room, or by none
abbrev pub Grows : Setting → ℕ → List Entry → List Entry → Type 0
Grows w actor old new = (new ≡ old) ⊎ ((a : Act) × (new ≡ old ++ entry_by actor a ∷ []) × (length old ≡ w.cap → ⊥))

grow_lock : (w : Setting) (actor : ℕ) (a : Act) (state : ActorState) (b : Bool) → (length state.history ≡ w.cap → ⊥) → Grows w actor state.history (if b then with_entry actor a state else with_wait state).history
grow_lock w actor a state true room = inr (a, refl, room)
grow_lock w actor a state false room = inl refl

grow_cap : (w : Setting) (actor : ℕ) (a : Act) (state : ActorState) (b : Bool) → (length state.history == w.cap) ≡ b
    → Grows w actor state.history (if b then with_stop state else (if lock_allows w (reverse state.history) a then with_entry actor a state else with_wait state)).history
grow_cap w actor a state true is = inl refl
grow_cap w actor a state false is = grow_lock w actor a state (lock_allows w (reverse state.history) a) (eqb-false (length state.history) w.cap is)

grow_next : (w : Setting) (actor : ℕ) (next : Option Act) (state : ActorState) → Grows w actor state.history (turn_if w actor next state).history
grow_next w actor None state = inl refl
grow_next w actor (Some a) state = grow_cap w actor a state (length state.history == w.cap) refl

grow_stop : (w : Setting) (actor : ℕ) (next : Option Act) (state : ActorState) (b : Bool) → Grows w actor state.history (if b then state else turn_if w actor next state).history
grow_stop w actor next state true = inl refl
grow_stop w actor next state false = grow_next w actor next state

pub turn_grows : (w : Setting) (actor : ℕ) (next : Option Act) (old new : List Entry) (before after : Tally) → actor_at new after ≡ own_turn w actor next (actor_at old before) → Grows w actor old new
turn_grows w actor next old new before after is = subst (Grows w actor old) (sym (ap (λ s. s.history) is)) (grow_stop w actor next (actor_at old before) before.stopped)

-- ---- others

abbrev pub OtherAdded : Type 0
OtherAdded = (history : List Entry) (actor other : ℕ) (a : Act) → actor ≢ other → entries_of (history ++ entry_by other a ∷ []) actor ≡ entries_of history actor

pub kept_slot : OtherAdded → (w : Setting) (actor other : ℕ) (old new : List Entry) (slot : Slot) → actor ≢ other → Grows w other old new → IsSlotAt w old actor slot → IsSlotAt w new actor slot
kept_slot added w actor other old new slot differ (inl same) h = subst (λ l. IsSlotAt w l actor slot) (sym same) h
kept_slot added w actor other old new slot differ (inr (a, grown, room)) h = record {
  layout = h.layout;
  begun = subst (λ l. IsBegunRun (program_of_slot w.layout slot) l slot.app) (sym (ap (λ l. entries_of l actor) grown ∙ added old actor other a differ)) h.begun;
  stopped = λ stop. absurd (room (h.stopped stop));
  empty = h.empty;
  room = h.room;
}

-- no entry of another actor is the measurer's
none_own : OwnNone → (other : ℕ) (a : Act) → other ≢ 0 → own (entry_by other a ∷ []) 0 1 ≡ []
none_own none other a differ =
    none 0 1 (entry_by other a ∷ []) (
    All-cons (λ e. (e.actor < 0) ⊎ (1 ≤ e.actor)) (entry_by other a) [] (inr (omega (arith, differ))) (
    All-nil (λ e. (e.actor < 0) ⊎ (1 ≤ e.actor))))

pub kept_measuring : OwnAppend → OwnNone → ReportStays → NoteStays → OthersStand → (key : List ℕ) (w : Setting) (other : ℕ) (old new : List Entry) (p : Passes) → other ≢ 0 → IsSetting w → IsLegal w new → Grows w other old new → IsMeasuring key w old p → IsMeasuring key w new p
kept_measuring append none reports notes stand key w other old new p differ setting legal (inl same) h = subst (λ l. IsMeasuring key w l p) (sym same) h
kept_measuring append none reports notes stand key w other old new p differ setting legal (inr (a, grown, room)) h =
    subst (λ l. IsMeasuring key w l p) (sym grown) (others_measuring append reports notes stand key w old (entry_by other a ∷ []) p setting (subst (IsLegal w) grown legal) (none_own none other a differ) room h)

kept_actors : (w : Setting) (count actor : ℕ) (old new : List Entry) → actor ≤ count → Grows w actor old new → All (λ entry. entry.actor ≤ count) old → All (λ entry. entry.actor ≤ count) new
kept_actors w count actor old new within (inl same) h = subst (All (λ entry. entry.actor ≤ count)) (sym same) h
kept_actors w count actor old new within (inr (a, grown, room)) h =
    subst (All (λ entry. entry.actor ≤ count)) (sym grown) (
    All-append (λ entry. entry.actor ≤ count) old (entry_by actor a ∷ []) h (All-cons (λ entry. entry.actor ≤ count) (entry_by actor a) [] within (All-nil (λ entry. entry.actor ≤ count))))

-- ---- one element of a list

get_further : {A : Type 0} (z : A) (xs : List A) (k j : ℕ) (x y : A) → ((j ≡ k) × (y ≡ x)) ⊎ ((j ≢ k) × (slice_get xs j ≡ Some y)) → ((suc j ≡ suc k) × (y ≡ x)) ⊎ ((suc j ≢ suc k) × (slice_get xs j ≡ Some y))
get_further z xs k j x y (inl (same, is)) = inl (ap suc same, is)
get_further z xs k j x y (inr (differ, is)) = inr ((λ e. differ (omega (arith, e))), is)

pub get_set : {A : Type 0} (xs : List A) (k j : ℕ) (x y : A) → slice_get (set xs k x) j ≡ Some y → ((j ≡ k) × (y ≡ x)) ⊎ ((j ≢ k) × (slice_get xs j ≡ Some y))
get_set [] k j x y is = absurd cc
get_set (z ∷ xs) zero zero x y is = inl (refl, cc)
get_set (z ∷ xs) zero (suc j) x y is = inr ((λ e. omega (arith, e)), is)
get_set (z ∷ xs) (suc k) zero x y is = inr ((λ e. omega (arith, e)), is)
get_set (z ∷ xs) (suc k) (suc j) x y is = get_further z xs k j x y (get_set xs k j x y is)

pub set_same : {A : Type 0} (xs : List A) (k : ℕ) (x : A) → slice_get xs k ≡ Some x → set xs k x ≡ xs
set_same [] k x is = absurd cc
set_same (z ∷ xs) zero x is = cc
set_same (z ∷ xs) (suc k) x is = ap (λ l. z ∷ l) (set_same xs k x is)

-- ---- a turn of an application

abbrev with_tallies : List Entry → List Tally → RunState
with_tallies history tallies = record { history = history; tallies = tallies }

abbrev with_programs : Setting → List ℕ → List Challenge → List AppProgram → Setup
with_programs w key challenges programs = record { world = w; programs = programs; key = key; challenges = challenges }

-- an application of a device, as this actor
module _ (w : Setting) (key : List ℕ) (old : List Entry) (slots : List Slot) (p : Passes) (actor k : ℕ) (is : actor ≡ suc k) (slot : Slot) (there : slice_get slots k ≡ Some slot) (device : IsDevice w key old slots p) where
  -- it is the next act of its program
  pub app_next : next_act (setup_kept w key slots p.challenges.items) old actor ≡ act_now w old (next_access slot.app)
  app_next =
      ap (next_act (setup_kept w key slots p.challenges.items) old) is
      ∙ ap (option_and_then (next_of_program w old (suc k))) (slice_get-map (program_of_slot w.layout) slots k ∙ ap (option_map (program_of_slot w.layout)) there)
      ∙ ap (λ r. option_and_then (act_now w old) (option_map next_access r)) (device.applications k slot there).begun.read

  -- it is the state of this actor
  pub app_tally : actor_state (state_kept old p.tally slots) actor ≡ actor_at old slot.tally
  app_tally =
      ap (actor_state (state_kept old p.tally slots)) is
      ∙ ap (λ o. actor_at old (unwrap_or o fresh)) (slice_get-map tally_of_slot slots k ∙ ap (option_map tally_of_slot) there)

  pub app_done : (b : Bool) → b ≡ (slot.tally.stopped || is_none (act_now w old (next_access slot.app))) → b ≡ is_done (setup_kept w key slots p.challenges.items) (state_kept old p.tally slots) actor
  app_done b h = h ∙ ap₂ (λ n s. s.tally.stopped || is_none n) (sym app_next) (sym app_tally)

  pub app_answer : (answer : Stepped) → answer ≡ own_answer w (act_now w old (next_access slot.app)) (actor_at old slot.tally) → answer ≡ answer_of (setup_kept w key slots p.challenges.items) (state_kept old p.tally slots) actor
  app_answer answer h = h ∙ ap₂ (λ n s. own_answer w n s) (sym app_next) (sym app_tally)

  pub app_state : (new : List Entry) (after : Slot) → actor_at new after.tally ≡ own_turn w actor (act_now w old (next_access slot.app)) (actor_at old slot.tally)
      → state_kept new p.tally (set slots k after) ≡ turn (setup_kept w key slots p.challenges.items) (state_kept old p.tally slots) actor
  app_state new after state =
      ap (λ l. with_tallies new (p.tally ∷ l)) (map-set tally_of_slot slots k after)
      ∙ ap (λ a. with_actor (state_kept old p.tally slots) a (actor_at new after.tally)) (sym is)
      ∙ ap (λ s. with_actor (state_kept old p.tally slots) actor s) state
      ∙ ap₂ (λ n s. with_actor (state_kept old p.tally slots) actor (own_turn w actor n s)) (sym app_next) (sym app_tally)

  pub app_setup : (after : Slot) → after ≡ record slot { app = after.app; tally = after.tally } → setup_kept w key (set slots k after) p.challenges.items ≡ setup_kept w key slots p.challenges.items
  app_setup after rest =
      ap (λ l. with_programs w key p.challenges.items l) (
      map-set (program_of_slot w.layout) slots k after
      ∙ ap (λ x. set (map (program_of_slot w.layout) slots) k (program_of_slot w.layout x)) rest
      ∙ set_same (map (program_of_slot w.layout) slots) k (program_of_slot w.layout slot) (slice_get-map (program_of_slot w.layout) slots k ∙ ap (option_map (program_of_slot w.layout)) there))

-- an actor that is stopped after its turn is at a full history
-- an entry or a wait stops nobody
still_going : (b : Bool) (actor : ℕ) (a : Act) (state : ActorState) → (if b then with_entry actor a state else with_wait state).tally.stopped ≡ state.tally.stopped
still_going true actor a state = refl
still_going false actor a state = refl

stop_cap : (w : Setting) (actor : ℕ) (a : Act) (state : ActorState) → state.tally.stopped ≡ false → (b : Bool) → (length state.history == w.cap) ≡ b
    → (if b then with_stop state else (if lock_allows w (reverse state.history) a then with_entry actor a state else with_wait state)).tally.stopped ≡ true
    → length (if b then with_stop state else (if lock_allows w (reverse state.history) a then with_entry actor a state else with_wait state)).history ≡ w.cap
stop_cap w actor a state run true is stop = eqb-true (length state.history) w.cap is
stop_cap w actor a state run false is stop = absurd (false≢true (sym run ∙ sym (still_going (lock_allows w (reverse state.history) a) actor a state) ∙ stop))

stop_next : (w : Setting) (actor : ℕ) (next : Option Act) (state : ActorState) → state.tally.stopped ≡ false → (turn_if w actor next state).tally.stopped ≡ true → length (turn_if w actor next state).history ≡ w.cap
stop_next w actor None state run stop = absurd (false≢true (sym run ∙ stop))
stop_next w actor (Some a) state run stop = stop_cap w actor a state run (length state.history == w.cap) refl stop

stop_turn : (w : Setting) (actor : ℕ) (next : Option Act) (state : ActorState) → (state.tally.stopped ≡ true → length state.history ≡ w.cap) → (b : Bool) → state.tally.stopped ≡ b
    → (if b then state else turn_if w actor next state).tally.stopped ≡ true → length (if b then state else turn_if w actor next state).history ≡ w.cap
stop_turn w actor next state full true is stop = full stop
stop_turn w actor next state full false is stop = stop_next w actor next state is stop

pub stops_full : (w : Setting) (actor : ℕ) (next : Option Act) (old new : List Entry) (before after : Tally) → actor_at new after ≡ own_turn w actor next (actor_at old before) → (before.stopped ≡ true → length old ≡ w.cap)
    → after.stopped ≡ true → length new ≡ w.cap
stops_full w actor next old new before after is full stop =
    ap (λ s. length s.history) is ∙ stop_turn w actor next (actor_at old before) full before.stopped refl (ap (λ s. s.tally.stopped) (sym is) ∙ stop)

-- ---- what is kept after a turn of an application

kept_at : OtherAdded → (w : Setting) (old new : List Entry) (slots : List Slot) (k : ℕ) (after : Slot) → Grows w (suc k) old new → IsSlotAt w new (suc k) after
    → ((j : ℕ) (slot : Slot) → slice_get slots j ≡ Some slot → IsSlotAt w old (suc j) slot)
    → (j : ℕ) (other : Slot) → ((j ≡ k) × (other ≡ after)) ⊎ ((j ≢ k) × (slice_get slots j ≡ Some other)) → IsSlotAt w new (suc j) other
kept_at added w old new slots k after grows mine all j other (inl (same, is)) = subst (λ n. IsSlotAt w new (suc n) other) (sym same) (subst (IsSlotAt w new (suc k)) (sym is) mine)
kept_at added w old new slots k after grows mine all j other (inr (differ, there)) = kept_slot added w (suc j) (suc k) old new other (λ e. differ (omega (arith, e))) grows (all j other there)

pub app_kept : OwnAppend → OwnNone → OtherAdded → ReportStays → NoteStays → OthersStand → (w : Setting) (key : List ℕ) (old new : List Entry) (slots : List Slot) (p : Passes) (actor k : ℕ) (slot after : Slot)
    → actor ≡ suc k → slice_get slots k ≡ Some slot → IsDevice w key old slots p → after ≡ record slot { app = after.app; tally = after.tally }
    → actor_at new after.tally ≡ own_turn w actor (act_now w old (next_access slot.app)) (actor_at old slot.tally)
    → after.app.now.core.layout ≡ slot.app.now.core.layout
    → ((start : AppProgram) → IsBegunRun start (entries_of old actor) slot.app → IsBegunRun start (entries_of new actor) after.app)
    → IsSetting w → IsLegal w new → IsDevice w key new (set slots k after) p
app_kept append none added reports notes stand w key old new slots p actor k slot after is there device rest state layout run setting legal =
    let was = device.applications k slot there in
    let grows : Grows w (suc k) old new = subst (λ a. Grows w a old new) is (turn_grows w actor (act_now w old (next_access slot.app)) old new slot.tally after.tally state) in
    let count : length (set slots k after) ≡ length slots = length-set slots k after in
    let within : suc k ≤ length slots = omega (arith, slice_get_within slots k slot there) in
    let mine : IsSlotAt w new (suc k) after = record {
      layout = layout ∙ was.layout;
      begun = subst (λ q. IsBegunRun q (entries_of new (suc k)) after.app) (sym (ap (program_of_slot w.layout) rest)) (subst (λ a. IsBegunRun (program_of_slot w.layout slot) (entries_of new a) after.app) is (run (program_of_slot w.layout slot) (subst (λ a. IsBegunRun (program_of_slot w.layout slot) (entries_of old a) slot.app) (sym is) was.begun)));
      stopped = stops_full w actor (act_now w old (next_access slot.app)) old new slot.tally after.tally state was.stopped;
      empty = ap (λ s. s.console.items) rest ∙ was.empty;
      room = subst (λ c. 4096 ≤ vec_capacity c) (sym (ap (λ s. s.console) rest)) was.room;
    } in
    record {
      some = omega (arith, device.some, count);
      few = omega (arith, device.few, count);
      actors = subst (λ n. All (λ entry. entry.actor ≤ n) new) (sym count) (kept_actors w (length slots) (suc k) old new within grows device.actors);
      applications = λ j other got. kept_at added w old new slots k after grows mine device.applications j other (get_set slots k j after other got);
      measurer = kept_measuring append none reports notes stand key w (suc k) old new p (λ e. omega (arith, e)) setting legal grows device.measurer;
    }

-- ---- a turn of the measurer

pub measurer_kept : OtherAdded → (w : Setting) (key : List ℕ) (old new : List Entry) (slots : List Slot) (p after : Passes) → IsDevice w key old slots p
    → actor_at new after.tally ≡ own_turn w 0 (next_step_of w old p) (actor_at old p.tally) → IsMeasuring key w new after → IsDevice w key new slots after
measurer_kept added w key old new slots p after device state measuring =
    let grows = turn_grows w 0 (next_step_of w old p) old new p.tally after.tally state in
    record {
      some = device.some;
      few = device.few;
      actors = kept_actors w (length slots) 0 old new (omega arith) grows device.actors;
      applications = λ j slot is. kept_slot added w (suc j) 0 old new slot (λ e. omega (arith, e)) grows (device.applications j slot is);
      measurer = measuring;
    }

pub measurer_state : (w : Setting) (key : List ℕ) (old new : List Entry) (slots : List Slot) (p : Passes) (after : Tally)
    → actor_at new after ≡ own_turn w 0 (next_step_of w old p) (actor_at old p.tally) → state_kept new after slots ≡ turn (setup_kept w key slots p.challenges.items) (state_kept old p.tally slots) 0
measurer_state w key old new slots p after state = ap (λ s. with_actor (state_kept old p.tally slots) 0 s) state

-- ---- the run so far

same_front : (made left : List Act) (n : ℕ) → n ≡ length made → made ≡ take n (made ++ left)
same_front made left n count = sym (take_at made left n (sym count))

own_so_far : (w : Setting) (history : List Entry) (challenges : List Challenge) (made left : List Act) → HasLeft w history challenges made left
    → entries_of history 0 ≡ map (entry_by 0) (take (length (entries_of history 0)) (measuring_programs challenges (shape_of w)))
own_so_far w history challenges made left h =
    let own = own_made w history challenges made left h in
    own ∙ ap (λ l. map (entry_by 0) l) (same_front made left (length (entries_of history 0)) (ap length own ∙ length-map made (entry_by 0)) ∙ ap (take (length (entries_of history 0))) (sym h.whole))

measurer_at : OwnAppend → (key : List ℕ) (w : Setting) (history : List Entry) (p : Passes) → IsMeasuring key w history p → (u : Option Measuring) → p.under_way ≡ u
    → entries_of history 0 ≡ map (entry_by 0) (take (length (entries_of history 0)) (measuring_programs p.challenges.items (shape_of w)))
measurer_at append key w history p h None is = let l = left_over append key w history p h.so_far is in own_so_far w history p.challenges.items l.made [] l.left
measurer_at append key w history p h (Some m) is =
    let l = left_for append key w history p m h.so_far is in own_so_far w history p.challenges.items l.made (left_of w m ++ l.others) l.left

pub slot_of : {A B : Type 0} (f : A → B) (o : Option A) (y : B) → option_map f o ≡ Some y → (x : A) × (o ≡ Some x) × (y ≡ f x)
slot_of f None y is = absurd cc
slot_of f (Some x) y is = (x, refl, cc)

pub run_so_far : OwnAppend → (w : Setting) (key : List ℕ) (history : List Entry) (slots : List Slot) (p : Passes) → IsLegal w history → IsDevice w key history slots p → IsRunSoFar (setup_kept w key slots p.challenges.items) history
run_so_far append w key history slots p legal device = record {
  legal = legal;
  actors = subst (λ n. All (λ entry. entry.actor ≤ n) history) (sym (length-map slots (program_of_slot w.layout))) device.actors;
  measurer = measurer_at append key w history p device.measurer p.under_way refl;
  applications = λ k program is.
      let s = slot_of (program_of_slot w.layout) (slice_get slots k) program (sym (slice_get-map (program_of_slot w.layout) slots k) ∙ is) in
      (s.0.app, subst (λ q. IsBegunRun q (entries_of history (suc k)) s.0.app) (sym s.2) (device.applications k s.0 s.1).begun);
}
