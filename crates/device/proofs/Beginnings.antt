-- A device before its first turn.
use Rattle.std.proofs.Common.{◌≡◌, ℕ, zero, suc, ◌+◌, ◌<◌, ◌≤◌, List, [], ◌∷◌, ◌++◌, length, map, take, replicate, Option, Some, None, refl, sym, ap, ap₂, ◌∙◌, subst, All, get_or, arith}
use Rattle.std.specs.Prelude.{slice_get}
use Rattle.std.proofs.lemmas.Bool.{false≢true}
use Rattle.std.proofs.lemmas.List.{length-map, map-append}
use Rattle.std.proofs.lemmas.List.Elements.{All-get_or, All-head, All-nil, All-tail}
use Rattle.std.proofs.lemmas.Option.{get_or_from_slice_get, slice_get_within}
use Rattle.history.specs.declared.events.Entry.{Entry}
use Rattle.history.specs.Layout.{Layout, Setting}
use Rattle.challenge.specs.declared.Challenge.{Challenge}
use Rattle.rv_core.specs.Runs.{AppProgram}
use Rattle.device_config.specs.declared.plans.AppPlan.{AppPlan}
use Rattle.device.specs.declared.tallies.Tally.{Tally}
use Rattle.device.specs.declared.passes.Passes.{Passes}
use Rattle.device.specs.declared.slots.Slot.{Slot}
use Rattle.device.specs.Setups.{program_of_app, programs_at}
use Rattle.device.specs.Turns.{RunState, first_state, fresh}
use Rattle.device.specs.Keeping.{IsDevice, IsFreshSlot, IsMeasuring, IsSlotAt, program_of_slot, setup_kept, state_kept, tally_of_slot}

-- ---- the programs, one after the other

some_same : {A : Type 0} (x y : A) → Some x ≡ Some y → x ≡ y
some_same x y h = cc

pub programs_more : (layout : Layout) (apps : List AppPlan) (entries : List ℕ) (k : ℕ) (app : AppPlan) (entry : ℕ) → slice_get apps k ≡ Some app → slice_get entries k ≡ Some entry
    → take (suc k) (programs_at layout apps entries) ≡ take k (programs_at layout apps entries) ++ program_of_app layout app entry ∷ []
programs_more layout [] entries k app entry is at = absurd cc
programs_more layout (a ∷ apps) [] k app entry is at = absurd cc
programs_more layout (a ∷ apps) (e ∷ entries) zero app entry is at = ap₂ (λ x y. program_of_app layout x y ∷ []) (some_same a app is) (some_same e entry at)
programs_more layout (a ∷ apps) (e ∷ entries) (suc k) app entry is at = ap (λ l. program_of_app layout a e ∷ l) (programs_more layout apps entries k app entry is at)

pub length_programs : (layout : Layout) (apps : List AppPlan) (entries : List ℕ) → length (programs_at layout apps entries) ≤ length apps
length_programs layout [] entries = omega arith
length_programs layout (a ∷ apps) [] = omega arith
length_programs layout (a ∷ apps) (e ∷ entries) = let rest = length_programs layout apps entries in omega (arith, rest)

pub count_programs : (layout : Layout) (apps : List AppPlan) (entries : List ℕ) → length entries ≡ length apps → length (programs_at layout apps entries) ≡ length apps
count_programs layout [] entries same = refl
count_programs layout (a ∷ apps) [] same = absurd (omega (arith, same))
count_programs layout (a ∷ apps) (e ∷ entries) same = ap suc (count_programs layout apps entries (omega (arith, same)))

-- ---- fresh applications

pub fresh_at : (w : Setting) (slots : List Slot) (k : ℕ) (slot : Slot) → All (IsFreshSlot w.layout) slots → slice_get slots k ≡ Some slot → IsSlotAt w [] (suc k) slot
fresh_at w slots k slot all is =
    let f : IsFreshSlot w.layout slot = subst (IsFreshSlot w.layout) (get_or_from_slice_get slots k slot slot is) (All-get_or (IsFreshSlot w.layout) slots k slot (slice_get_within slots k slot is) all) in
    record {
      layout = ap (λ a. a.now.core.layout) f.app;
      begun = record { read = sym (ap Some f.app) };
      stopped = λ stop. absurd (false≢true (sym (ap (λ t. t.stopped) f.tally) ∙ stop));
      empty = f.empty;
      room = f.room;
    }

pub fresh_tallies : (layout : Layout) (slots : List Slot) → All (IsFreshSlot layout) slots → map tally_of_slot slots ≡ replicate (length slots) fresh
fresh_tallies layout [] all = refl
fresh_tallies layout (slot ∷ slots) all =
    ap₂ (λ t l. t ∷ l) (All-head (IsFreshSlot layout) slot slots all).tally (fresh_tallies layout slots (All-tail (IsFreshSlot layout) slot slots all))

-- ---- a fresh device

pub begun_device : (w : Setting) (key : List ℕ) (slots : List Slot) (p : Passes) → 1 ≤ length slots → length slots ≤ 8 → All (IsFreshSlot w.layout) slots → IsMeasuring key w [] p → IsDevice w key [] slots p
begun_device w key slots p some few all measuring = record {
  some = some;
  few = few;
  actors = All-nil (λ entry. entry.actor ≤ length slots);
  applications = λ k slot is. fresh_at w slots k slot all is;
  measurer = measuring;
}

abbrev with_tallies : List Entry → List Tally → RunState
with_tallies history tallies = record { history = history; tallies = tallies }

pub begun_state : (w : Setting) (key : List ℕ) (slots : List Slot) (challenges : List Challenge) (history : List Entry) (t : Tally) → history ≡ [] → t ≡ fresh → All (IsFreshSlot w.layout) slots
    → state_kept history t slots ≡ first_state (setup_kept w key slots challenges)
begun_state w key slots challenges history t empty is all =
    let count : suc (length slots) ≡ 1 + length (map (program_of_slot w.layout) slots) = omega (arith, length-map slots (program_of_slot w.layout)) in
    ap₂ with_tallies empty (ap₂ (λ x l. x ∷ l) is (fresh_tallies w.layout slots all)) ∙ ap (λ n. with_tallies [] (replicate n fresh)) count
