-- A device whose actors have all run on threads: what is kept of each is right of the whole history, and all are done.
use Rattle.std.proofs.Common.{◌≡◌, ℕ, zero, suc, ◌+◌, ◌<◌, ◌≤◌, Bool, true, false, List, [], ◌∷◌, length, map, Option, Some, None, refl, sym, ap, ap₂, ◌∙◌, subst, All, arith}
use Rattle.std.specs.Prelude.{◌||◌, is_none, slice_get, unwrap_or, option_map, vec_capacity}
use Rattle.std.proofs.lemmas.List.{length-map}
use Rattle.std.proofs.lemmas.List.Elements.{All-weaker}
use Rattle.std.proofs.lemmas.Option.{slice_get-map, slice_get_within}
use Rattle.history.specs.declared.events.Entry.{Entry}
use Rattle.history.specs.Layout.{Setting}
use Rattle.history.specs.Memory.{own}
use Rattle.challenge.specs.declared.Challenge.{Challenge}
use Rattle.rv_core.specs.Runs.{AppProgram, ProgramState, IsBegunRun, beginning, next_access}
use Rattle.app_thread.specs.WholeRuns.{GoesOn, HasWaited}
use Rattle.turn_cell.specs.Cells.{AllBelow, Cell, Token}
use Rattle.device.specs.declared.outcomes.AppEnd.{AppEnd}
use Rattle.device.specs.declared.tallies.Tally.{Tally}
use Rattle.device.specs.declared.passes.Passes.{Passes}
use Rattle.device.specs.declared.slots.Slot.{Slot}
use Rattle.device.specs.Setups.{Setup}
use Rattle.device.specs.Runs.{act_now, entries_of}
use Rattle.device.specs.Turns.{AllDone, RunState, tally_of, fresh}
use Rattle.device.specs.Keeping.{IsDevice, IsSlotAt, program_of_slot, setup_kept, state_kept, tally_of_slot}
use Rattle.device.specs.Outcomes.{HaveWaited, waits_in_end, waits_in_tally}
use Rattle.device.specs.Threads.{AreWaitsIn, AreWaitsOf, HasComeToEnd, HasRunAll, HasRunAs, HaveRunAs, IsShared}
use Rattle.device.proofs.Entries.{OwnAppend}
use Rattle.device.proofs.Devices.{app_done}
use Rattle.device.proofs.Measurements.{measurer_done}

-- a run's own entries continue what stood there before
abbrev pub GoneOwn : Type 0
GoneOwn = (low high : ℕ) (old new : List Entry) (before after : ProgramState) (start : AppProgram) → GoesOn low high old new before after → IsBegunRun start (own old low high) before → IsBegunRun start (own new low high) after

-- ---- each application

pub count_ran : (w : Setting) (actor : ℕ) (old new : List Entry) (slots afters : List Slot) → HaveRunAs w actor old new slots afters → length afters ≡ length slots
count_ran w actor old new [] [] h = refl
count_ran w actor old new (slot ∷ slots) (after ∷ afters) h = ap suc (count_ran w (suc actor) old new slots afters h.1)
count_ran w actor old new [] (after ∷ afters) h = elim h [ ]
count_ran w actor old new (slot ∷ slots) [] h = elim h [ ]

-- the one at this place, as this actor
record RanAt (w : Setting) (actor : ℕ) (old new : List Entry) (slots afters : List Slot) (k : ℕ) : Type 0 where
  before : Slot
  after : Slot
  was : slice_get slots k ≡ Some before
  is : slice_get afters k ≡ Some after
  run : HasRunAs w actor old new before after

none_within : (k : ℕ) → k < 0 → ⊥
none_within k h = omega (arith, h)

ran_at : (w : Setting) (actor own_actor : ℕ) (old new : List Entry) (slots afters : List Slot) (k : ℕ) → own_actor ≡ actor + k → k < length slots → HaveRunAs w actor old new slots afters → RanAt w own_actor old new slots afters k
ran_at w actor own_actor old new [] afters k here within h = absurd (none_within k within)
ran_at w actor own_actor old new (slot ∷ slots) [] k here within h = elim h [ ]
ran_at w actor own_actor old new (slot ∷ slots) (after ∷ afters) zero here within h =
    let same : actor ≡ own_actor = omega (arith, here) in
    record { before = slot; after = after; was = refl; is = refl; run = subst (λ n. HasRunAs w n old new slot after) same h.0 }
ran_at w actor own_actor old new (slot ∷ slots) (after ∷ afters) (suc k) here within h =
    let r = ran_at w (suc actor) own_actor old new slots afters k (omega (arith, here)) (omega (arith, within)) h.1 in
    record { before = r.before; after = r.after; was = r.was; is = r.is; run = r.run }

same_some : {A : Type 0} (x y : A) → Some x ≡ Some y → x ≡ y
same_some x y h = cc

-- it stands where its own entries have led it
slot_ran : GoneOwn → (w : Setting) (actor : ℕ) (new : List Entry) (before after : Slot) → HasRunAs w actor [] new before after → IsSlotAt w [] actor before → IsSlotAt w new actor after
slot_ran gone w actor new before after run was = record {
  layout = run.layout;
  begun = subst (λ q. IsBegunRun q (entries_of new actor) after.app) (sym (ap (program_of_slot w.layout) run.rest)) (gone actor (actor + 1) [] new before.app after.app (program_of_slot w.layout before) run.gone was.begun);
  stopped = λ stop. (subst (HasComeToEnd w new after.app) stop run.end).1;
  empty = ap (λ s. s.console.items) run.rest ∙ was.empty;
  room = subst (λ c. 4096 ≤ vec_capacity c) (sym (ap (λ s. s.console) run.rest)) was.room;
}

programs_same : (w : Setting) (actor : ℕ) (old new : List Entry) (slots afters : List Slot) → HaveRunAs w actor old new slots afters → map (program_of_slot w.layout) afters ≡ map (program_of_slot w.layout) slots
programs_same w actor old new [] [] h = refl
programs_same w actor old new (slot ∷ slots) (after ∷ afters) h = ap₂ (λ x l. x ∷ l) (ap (program_of_slot w.layout) h.0.rest) (programs_same w (suc actor) old new slots afters h.1)
programs_same w actor old new [] (after ∷ afters) h = elim h [ ]
programs_same w actor old new (slot ∷ slots) [] h = elim h [ ]

-- ---- the device

at_most : (count : ℕ) (entry : Entry) → entry.actor < 1 + count → entry.actor ≤ count
at_most count entry below = omega (arith, below)

pub device_ran : GoneOwn → (memory : Cell) (pass after : Token) (key : List ℕ) (slots afters : List Slot) (p q : Passes) → pass.seen ≡ [] → IsDevice memory.world key [] slots p → HasRunAll memory pass after key slots afters p q
    → AllBelow (1 + length slots) after.seen → IsDevice memory.world key after.seen afters q
device_ran gone memory pass after key slots afters p q none was ran below =
    let w = memory.world in
    let new = after.seen in
    let h : HaveRunAs w 1 [] new slots afters = subst (λ l. HaveRunAs w 1 l new slots afters) none ran.applications in
    let count : length afters ≡ length slots = count_ran w 1 [] new slots afters h in
    record {
      some = omega (arith, was.some, count);
      few = omega (arith, was.few, count);
      actors = subst (λ n. All (λ entry. entry.actor ≤ n) new) (sym count) (All-weaker (λ entry. entry.actor < 1 + length slots) (λ entry. entry.actor ≤ length slots) (at_most (length slots)) new below);
      applications = λ k slot is.
          let within : k < length slots = omega (arith, slice_get_within afters k slot is, count) in
          let r = ran_at w 1 (suc k) [] new slots afters k (omega arith) within h in
          subst (IsSlotAt w new (suc k)) (same_some r.after slot (sym r.is ∙ is)) (slot_ran gone w (suc k) new r.before r.after r.run (was.applications k r.before r.was));
      measurer = ran.measurer.stands;
    }

abbrev with_both : Setting → List ℕ → List AppProgram → List Challenge → Setup
with_both w key programs challenges = record { world = w; programs = programs; key = key; challenges = challenges }

pub setup_ran : (memory : Cell) (pass after : Token) (key : List ℕ) (slots afters : List Slot) (p q : Passes) → HasRunAll memory pass after key slots afters p q
    → setup_kept memory.world key afters q.challenges.items ≡ setup_kept memory.world key slots p.challenges.items
setup_ran memory pass after key slots afters p q ran =
    ap₂ (λ programs challenges. with_both memory.world key programs challenges) (programs_same memory.world 1 pass.seen after.seen slots afters ran.applications) (ap (λ v. v.items) ran.measurer.challenges)

-- ---- all are done

ended_done : (w : Setting) (history : List Entry) (at : ProgramState) (stopped : Bool) → HasComeToEnd w history at stopped → (stopped || is_none (act_now w history (next_access at))) ≡ true
ended_done w history at true h = refl
ended_done w history at false h = ap (λ n. is_none (act_now w history n)) h.1

pub all_done : OwnAppend → (memory : Cell) (pass after : Token) (key : List ℕ) (slots afters : List Slot) (p q : Passes) → IsDevice memory.world key after.seen afters q → HasRunAll memory pass after key slots afters p q
    → AllDone (setup_kept memory.world key afters q.challenges.items) (state_kept after.seen q.tally afters)
all_done append memory pass after key slots afters p q device ran zero within =
    ap (λ b. q.tally.stopped || b) (sym (measurer_done append key memory.world after.seen q device.measurer)) ∙ ran.measurer.done
all_done append memory pass after key slots afters p q device ran (suc k) within =
    let w = memory.world in
    let new = after.seen in
    let count : length afters ≡ length slots = count_ran w 1 pass.seen new slots afters ran.applications in
    let there : k < length slots = omega (arith, within, count, length-map afters (program_of_slot w.layout)) in
    let r = ran_at w 1 (suc k) pass.seen new slots afters k (omega arith) there ran.applications in
    sym (app_done w key new afters q (suc k) k refl r.after r.is device (r.after.tally.stopped || is_none (act_now w new (next_access r.after.app))) refl) ∙ ended_done w new r.after.app r.after.tally.stopped r.run.end

-- ---- what was counted of their waiting

program_at : {A B : Type 0} (f : A → B) (o : Option A) (x : A) (y : B) → o ≡ Some x → option_map f o ≡ Some y → y ≡ f x
program_at f o x y is mapped = same_some y (f x) (sym mapped ∙ ap (option_map f) is)

pub waits_ran : (memory : Cell) (pass after : Token) (key : List ℕ) (slots afters : List Slot) (p q : Passes) → pass.seen ≡ [] → IsDevice memory.world key [] slots p → HasRunAll memory pass after key slots afters p q
    → AreWaitsOf (setup_kept memory.world key slots p.challenges.items) (state_kept after.seen q.tally afters)
waits_ran memory pass after key slots afters p q none was ran k program is =
    let w = memory.world in
    let new = after.seen in
    let h : HaveRunAs w 1 [] new slots afters = subst (λ l. HaveRunAs w 1 l new slots afters) none ran.applications in
    let within : k < length slots = omega (arith, slice_get_within (map (program_of_slot w.layout) slots) k program is, length-map slots (program_of_slot w.layout)) in
    let r = ran_at w 1 (suc k) [] new slots afters k (omega arith) within h in
    let same : program ≡ program_of_slot w.layout r.before = program_at (program_of_slot w.layout) (slice_get slots k) r.before program r.was (sym (slice_get-map (program_of_slot w.layout) slots k) ∙ is) in
    let begins : beginning (program_of_slot w.layout r.before) ≡ r.before.app = same_some (beginning (program_of_slot w.layout r.before)) r.before.app (was.applications k r.before r.was).begun.read in
    let tally : tally_of (state_kept new q.tally afters) (suc k) ≡ r.after.tally = ap (λ o. unwrap_or o fresh) (slice_get-map tally_of_slot afters k ∙ ap (option_map tally_of_slot) r.is) in
    subst (λ t. HasWaited w (suc k) (suc k + 1) [] new (beginning program) t.waits t.waited) (sym tally) (
    subst (λ at. HasWaited w (suc k) (suc k + 1) [] new at r.after.tally.waits r.after.tally.waited) (sym (ap beginning same ∙ begins)) r.run.waited)

-- ---- all of it

pub record IsRan (setup : Setup) (w : Setting) (key : List ℕ) (history : List Entry) (slots : List Slot) (p : Passes) : Type 0 where
  pub device : IsDevice w key history slots p
  pub same : setup_kept w key slots p.challenges.items ≡ setup
  pub done : AllDone (setup_kept w key slots p.challenges.items) (state_kept history p.tally slots)
  pub waits : AreWaitsOf (setup_kept w key slots p.challenges.items) (state_kept history p.tally slots)

pub whole_ran : OwnAppend → GoneOwn → (memory : Cell) (pass after : Token) (key : List ℕ) (slots afters now : List Slot) (p q : Passes) (w : Setting) (history : List Entry) → IsShared memory pass key slots p → HasRunAll memory pass after key slots afters p q
    → w ≡ after.cell.world → history ≡ after.seen → AllBelow after.cell.actors history → now ≡ afters → IsRan (setup_kept memory.world key slots p.challenges.items) w key history now q
whole_ran append gone memory pass after key slots afters now p q w history shared ran world seen below is =
    let setup = setup_kept memory.world key slots p.challenges.items in
    let cell : after.cell ≡ memory = ap (λ t. t.cell) ran.measurer.pass ∙ ap (λ t. t.cell) shared.whole in
    let none : pass.seen ≡ [] = ap (λ t. t.seen) shared.whole in
    let actors : after.cell.actors ≡ 1 + length slots = ap (λ c. c.actors) cell ∙ shared.actors in
    let all_below : AllBelow (1 + length slots) after.seen = subst (λ n. AllBelow n after.seen) actors (subst (AllBelow after.cell.actors) seen below) in
    let device = device_ran gone memory pass after key slots afters p q none shared.device ran all_below in
    let same = setup_ran memory pass after key slots afters p q ran in
    let made : IsRan setup memory.world key after.seen afters q =
    record {
      device = device;
      same = same;
      done = all_done append memory pass after key slots afters p q device ran;
      waits = subst (λ s. AreWaitsOf s (state_kept after.seen q.tally afters)) (sym same) (waits_ran memory pass after key slots afters p q none shared.device ran);
    } in
    subst (λ x. IsRan setup x key history now q) (sym (world ∙ ap (λ c. c.world) cell)) (
    subst (λ h. IsRan setup memory.world key h now q) (sym seen) (
    subst (λ l. IsRan setup memory.world key after.seen l q) (sym is) made))

-- ---- what the applications have come to

some_tally : (o : Option Tally) (e : ℕ × Option ℕ) → option_map waits_in_tally o ≡ Some e → e ≡ waits_in_tally (unwrap_or o fresh)
some_tally None e h = absurd cc
some_tally (Some t) e h = same_some e (waits_in_tally t) (sym h)

end_tally : (tallies : List Tally) (ends : List AppEnd) (k : ℕ) (end : AppEnd) → map waits_in_end ends ≡ map waits_in_tally tallies → slice_get ends k ≡ Some end → waits_in_end end ≡ waits_in_tally (unwrap_or (slice_get tallies k) fresh)
end_tally tallies ends k end same is =
    some_tally (slice_get tallies k) (waits_in_end end) (sym (slice_get-map waits_in_tally tallies k) ∙ ap (λ l. slice_get l k) (sym same) ∙ slice_get-map waits_in_end ends k ∙ ap (option_map waits_in_end) is)

no_end : (ends : List AppEnd) (k : ℕ) (end : AppEnd) → map waits_in_end ends ≡ [] → slice_get ends k ≡ Some end → ⊥
no_end [] k end none is = absurd cc
no_end (e ∷ ends) k end none is = absurd cc

told : (s : Setup) (history : List Entry) (tallies : List Tally) (ends : List AppEnd) → AreWaitsOf s (record { history = history; tallies = tallies }) → HaveWaited tallies ends → AreWaitsIn s history ends
told s history [] ends waits same k program end is there = absurd (no_end ends k end same there)
told s history (first ∷ tallies) ends waits same k program end is there =
    let e : waits_in_end end ≡ waits_in_tally (unwrap_or (slice_get tallies k) fresh) = end_tally tallies ends k end same there in
    subst (λ p. HasWaited s.world (suc k) (suc k + 1) [] history (beginning program) p.0 p.1) (sym e) (waits k program is)

pub waits_told : (s setup : Setup) (state : RunState) (history : List Entry) (ends : List AppEnd) → s ≡ setup → history ≡ state.history → AreWaitsOf s state → HaveWaited state.tallies ends → AreWaitsIn setup history ends
waits_told s setup state history ends same seen waits have =
    subst (λ x. AreWaitsIn x history ends) same (subst (λ h. AreWaitsIn s h ends) (sym seen) (told s state.history state.tallies ends waits have))
