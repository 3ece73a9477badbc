-- What a run has come to when all actors are done.
use Rattle.std.proofs.Common.{◌≡◌, ℕ, zero, suc, ◌+◌, ◌-◌, ◌<◌, ◌≤◌, Bool, true, false, List, [], ◌∷◌, ◌++◌, length, map, replicate, take, drop, get_or, Option, Some, None, refl, sym, ap, ap₂, ◌∙◌, subst, inl, inr, append_assoc, append-nil, All, arith}
use Rattle.std.specs.Prelude.{◌⊎◌, ◌||◌, IsSome, is_none, slice_get, option_map, unwrap_or}
use Rattle.std.proofs.lemmas.Bool.{or_cases, false≢true}
use Rattle.std.proofs.lemmas.List.{length-append, length-map, length_push}
use Rattle.std.proofs.lemmas.List.Elements.{All-from_get_or}
use Rattle.std.proofs.lemmas.Option.{slice_get-get_or, slice_get-map, slice_get_past}
use Rattle.history.specs.declared.events.Act.{Act}
use Rattle.history.specs.declared.events.Entry.{Entry}
use Rattle.history.specs.Layout.{Setting}
use Rattle.history.specs.Memory.{own}
use Rattle.challenge.specs.declared.Challenge.{Challenge}
use Rattle.chronicle.specs.Worlds.{shape_of}
use Rattle.chronicle.specs.Ports.{entry_by}
use Rattle.rv_core.specs.Runs.{AppProgram, next_access}
use Rattle.report.specs.declared.Report.{Report}
use Rattle.measure.specs.declared.stepping.Measuring.{Measuring}
use Rattle.measure.specs.Measured.{HasReport}
use Rattle.measure.specs.Program.{HasMade, measuring_program, measuring_programs}
use Rattle.measure.specs.Stepping.{Stands, is_over, left_of, report_of}
use Rattle.device.specs.declared.tallies.Tally.{Tally}
use Rattle.device.specs.declared.outcomes.AppEnd.{AppEnd}
use Rattle.device.specs.declared.outcomes.PassEnd.{PassEnd}
use Rattle.device.specs.declared.outcomes.PassEnd.TheVariants as pass
use Rattle.device.specs.declared.passes.Passes.{Passes}
use Rattle.device.specs.declared.slots.Slot.{Slot}
use Rattle.device.specs.Setups.{Setup}
use Rattle.device.specs.Runs.{IsRunOf, IsRunSoFar, entries_of, next_act}
use Rattle.device.specs.Turns.{AllDone, fresh, is_done, tally_of}
use Rattle.device.specs.Outcomes.{AreAppEnds, ArePassEnds, FallsShort, HaveWaited, IsAppEnd, acts_of, waits_in_end, waits_in_tally}
use Rattle.device.specs.Keeping.{AreOver, HasConsoleRoom, IsDevice, IsMeasuring, IsSlotAt, IsSteppingOn, IsUnderWayFor, IsUnfinished, end_of_slot, ends_at_last, ends_with, program_of_slot, setup_kept, state_kept, tally_of_slot}
use Rattle.device.proofs.Devices.{slot_of}
use Rattle.device.proofs.Entries.{OwnAppend}
use Rattle.device.proofs.Measurements.{HasLeft, IsFirst, ends_count, first_under_way, from_first, made_more, next_act_left, own_made}

-- ---- the history is one of a whole run

none_of : {A : Type 0} (o : Option A) → is_none o ≡ true → o ≡ None
none_of None h = refl
none_of (Some x) h = absurd (false≢true h)

done_parts : (next : Option Act) (P : Type 0) (stopped : Bool) → (stopped ≡ true → P) → (stopped ≡ true) ⊎ (is_none next ≡ true) → (next ≡ None) ⊎ P
done_parts next P stopped full (inl stop) = inr (full stop)
done_parts next P stopped full (inr none) = inl (none_of next none)

-- who was stopped met a full history
stopped_slot : (w : Setting) (key : List ℕ) (history : List Entry) (slots : List Slot) (p : Passes) → IsDevice w key history slots p → (k : ℕ) (o : Option Slot) → slice_get slots k ≡ o
    → (unwrap_or (option_map tally_of_slot o) fresh).stopped ≡ true → length history ≡ w.cap
stopped_slot w key history slots p device k None is stop = absurd (false≢true stop)
stopped_slot w key history slots p device k (Some slot) is stop = (device.applications k slot is).stopped stop

stopped_full : (w : Setting) (key : List ℕ) (history : List Entry) (slots : List Slot) (p : Passes) → IsDevice w key history slots p → (actor : ℕ)
    → (tally_of (state_kept history p.tally slots) actor).stopped ≡ true → length history ≡ w.cap
stopped_full w key history slots p device zero stop = device.measurer.so_far.stopped stop
stopped_full w key history slots p device (suc k) stop =
    stopped_slot w key history slots p device k (slice_get slots k) refl (sym (ap (λ o. (unwrap_or o fresh).stopped) (slice_get-map tally_of_slot slots k)) ∙ stop)

-- an actor that is done was stopped, at a full history, or its program is over
done_cases : (w : Setting) (key : List ℕ) (history : List Entry) (slots : List Slot) (p : Passes) (actor : ℕ) → ((tally_of (state_kept history p.tally slots) actor).stopped ≡ true → length history ≡ w.cap)
    → is_done (setup_kept w key slots p.challenges.items) (state_kept history p.tally slots) actor ≡ true
    → (next_act (setup_kept w key slots p.challenges.items) history actor ≡ None) ⊎ (length history ≡ w.cap)
done_cases w key history slots p actor full done =
    done_parts (next_act (setup_kept w key slots p.challenges.items) history actor) (length history ≡ w.cap) (tally_of (state_kept history p.tally slots) actor).stopped full
    (or_cases (tally_of (state_kept history p.tally slots) actor).stopped (is_none (next_act (setup_kept w key slots p.challenges.items) history actor)) done)

pub run_over : (w : Setting) (key : List ℕ) (history : List Entry) (slots : List Slot) (p : Passes) → IsDevice w key history slots p → IsRunSoFar (setup_kept w key slots p.challenges.items) history
    → AllDone (setup_kept w key slots p.challenges.items) (state_kept history p.tally slots) → IsRunOf (setup_kept w key slots p.challenges.items) history
run_over w key history slots p device so_far done = record {
  so_far = so_far;
  over = λ actor within. done_cases w key history slots p actor (stopped_full w key history slots p device actor) (done actor within);
}

-- ---- applications

from_map : {A B : Type 0} (f : A → B) (xs : List A) (k : ℕ) (y : B) → slice_get (map f xs) k ≡ Some y → (x : A) × (slice_get xs k ≡ Some x) × (y ≡ f x)
from_map f xs k y is = slot_of f (slice_get xs k) y (sym (slice_get-map f xs k) ∙ is)

same_value : {A : Type 0} (x y : A) → Some x ≡ Some y → x ≡ y
same_value x y h = cc

pub consoles : (w : Setting) (key : List ℕ) (history : List Entry) (slots : List Slot) (p : Passes) → IsDevice w key history slots p → All HasConsoleRoom slots
consoles w key history slots p device = λ k d within.
    let at = device.applications k (get_or slots k d) (slice_get-get_or slots k d within) in (at.empty, at.room)

pub app_ends : (w : Setting) (key : List ℕ) (history : List Entry) (slots : List Slot) (p : Passes) → IsDevice w key history slots p → AreAppEnds (map (program_of_slot w.layout) slots) history (map (end_of_slot (length history)) slots)
app_ends w key history slots p device = record {
  count = length-map slots (end_of_slot (length history)) ∙ sym (length-map slots (program_of_slot w.layout));
  each = λ k program end is there.
      let s = from_map (program_of_slot w.layout) slots k program is in
      let e = from_map (end_of_slot (length history)) slots k end there in
      let same : e.0 ≡ s.0 = same_value e.0 s.0 (sym e.1 ∙ s.1) in
      let ends : end ≡ end_of_slot (length history) s.0 = e.2 ∙ ap (end_of_slot (length history)) same in
      subst (λ q. IsAppEnd q history (entries_of history (suc k)) end) (sym s.2) (
      subst (IsAppEnd (program_of_slot w.layout s.0) history (entries_of history (suc k))) (sym ends) (
      record {
        at = s.0.app;
        begun = (device.applications k s.0 s.1).begun;
        ended = refl;
        console = refl;
      }));
}

pub have_waited : (history : List Entry) (t : Tally) (slots : List Slot) (count : ℕ) → HaveWaited (state_kept history t slots).tallies (map (end_of_slot count) slots)
have_waited history t [] count = refl
have_waited history t (slot ∷ slots) count = ap (λ l. (slot.tally.waits, slot.tally.waited) ∷ l) (have_waited history t slots count)

-- ---- measurements

acts_back : (made : List Act) → acts_of (map (entry_by 0) made) ≡ made
acts_back [] = refl
acts_back (a ∷ made) = ap (λ l. a ∷ l) (acts_back made)

not_started : (more : List Challenge) → replicate (length more) pass.NotStarted ≡ map (λ other. pass.NotStarted) more
not_started [] = refl
not_started (c ∷ more) = ap (λ l. pass.NotStarted ∷ l) (not_started more)

-- what is over, and then what the others have come to
ends_after : (s : Setup) (history : List Entry) (done : List Challenge) (ends : List PassEnd) (rest : List Challenge) (made : List Act) (tail : List PassEnd)
    → AreOver s.key s.world history done ends → ArePassEnds s history made rest tail → ArePassEnds s history (measuring_programs done (shape_of s.world) ++ made) (done ++ rest) (ends ++ tail)
ends_after s history [] [] rest made tail over h = h
ends_after s history (c ∷ done) (pass.Done report noted ∷ ends) rest made tail over h = (
  measuring_programs done (shape_of s.world) ++ made,
  append_assoc (measuring_program c (shape_of s.world)) (measuring_programs done (shape_of s.world)) made,
  over.0,
  over.1,
  ends_after s history done ends rest made tail over.2 h,
)
ends_after s history [] (end ∷ ends) rest made tail over h = elim over [ ]
ends_after s history (c ∷ done) [] rest made tail over h = elim over [ ]
ends_after s history (c ∷ done) (pass.Full report ∷ ends) rest made tail over h = elim over [ ]
ends_after s history (c ∷ done) (pass.NotStarted ∷ ends) rest made tail over h = elim over [ ]

abbrev pub StandsMade : Type 0
StandsMade = (key : List ℕ) (w : Setting) (c : Challenge) (old seen : List Entry) (m : Measuring) → Stands key w c old seen m
    → (made : List Act) × HasMade old seen made × (measuring_program c (shape_of w) ≡ made ++ left_of w m) × HasReport key w c old seen made (report_of m)

report_first : (key : List ℕ) (w : Setting) (c : Challenge) (old history : List Entry) (made : List Act) (r : Option Report) → HasReport key w c old history made r → HasReport key w c [] history made r
report_first key w c old history made None h = h
report_first key w c old history made (Some report) h = (h.0, from_first key w c old history report h.1)

-- the measurer's own acts
acts_made : (history : List Entry) (made : List Act) → HasMade [] history made → made ≡ acts_of (entries_of history 0)
acts_made history made h = sym (acts_back made) ∙ sym (ap acts_of (ap (λ l. own l 0 1) h.whole ∙ h.own))

pass_ends_over : OwnAppend → (s : Setup) (history : List Entry) (challenges done rest : List Challenge) (old : List Entry) (ends : List PassEnd) → challenges ≡ done ++ rest → HasMade [] old (measuring_programs done (shape_of s.world))
    → AreOver s.key s.world history done ends → IsUnderWayFor s.key s.world rest old history None → ArePassEnds s history (acts_of (entries_of history 0)) challenges ends
pass_ends_over append s history challenges done [] old ends is entries over u =
    let made : HasMade [] history (measuring_programs done (shape_of s.world) ++ []) = made_more append [] old history (measuring_programs done (shape_of s.world)) [] entries u in
    subst (λ m. ArePassEnds s history m challenges ends) (acts_made history (measuring_programs done (shape_of s.world) ++ []) made) (
    subst (λ c. ArePassEnds s history (measuring_programs done (shape_of s.world) ++ []) c ends) (sym is) (
    subst (ArePassEnds s history (measuring_programs done (shape_of s.world) ++ []) (done ++ [])) (append-nil ends) (ends_after s history done ends [] [] [] over refl)))
pass_ends_over append s history challenges done (c ∷ more) old ends is entries over u = elim u [ ]

pass_ends_cut : OwnAppend → StandsMade → (s : Setup) (history : List Entry) (challenges done : List Challenge) (c : Challenge) (more : List Challenge) (old : List Entry) (ends : List PassEnd) (m : Measuring)
    → challenges ≡ done ++ c ∷ more → HasMade [] old (measuring_programs done (shape_of s.world)) → AreOver s.key s.world history done ends → Stands s.key s.world c old history m → is_over m ≡ false
    → ArePassEnds s history (acts_of (entries_of history 0)) challenges (ends_with ends (length challenges) (Some m))
pass_ends_cut append law s history challenges done c more old ends m is entries over stands unfinished =
    let l = law s.key s.world c old history m stands in
    let n = next_act_left s.world m unfinished in
    let made : HasMade [] history (measuring_programs done (shape_of s.world) ++ l.0) = made_more append [] old history (measuring_programs done (shape_of s.world)) l.0 entries l.1 in
    let count : length challenges - length (ends ++ pass.Full (report_of m) ∷ []) ≡ length more =
    omega (arith, ap length is, length-append done (c ∷ more), length_push ends (pass.Full (report_of m)), ends_count s.key s.world history done ends over) in
    let tail : ends_with ends (length challenges) (Some m) ≡ ends ++ (pass.Full (report_of m) ∷ map (λ other. pass.NotStarted) more) =
    append_assoc ends (pass.Full (report_of m) ∷ []) (replicate (length challenges - length (ends ++ pass.Full (report_of m) ∷ [])) pass.NotStarted)
    ∙ ap (λ l. ends ++ (pass.Full (report_of m) ∷ l)) (ap (λ k. replicate k pass.NotStarted) count ∙ not_started more) in
    let cut : ArePassEnds s history l.0 (c ∷ more) (pass.Full (report_of m) ∷ map (λ other. pass.NotStarted) more) = (
      record { next = n.0; missed = n.1; whole = l.2 ∙ ap (λ a. l.0 ++ a) n.2 },
      report_first s.key s.world c old history l.0 (report_of m) l.3,
      refl,
    ) in
    subst (λ a. ArePassEnds s history a challenges (ends_with ends (length challenges) (Some m))) (acts_made history (measuring_programs done (shape_of s.world) ++ l.0) made) (
    subst (λ d. ArePassEnds s history (measuring_programs done (shape_of s.world) ++ l.0) d (ends_with ends (length challenges) (Some m))) (sym is) (
    subst (ArePassEnds s history (measuring_programs done (shape_of s.world) ++ l.0) (done ++ c ∷ more)) (sym tail) (
    ends_after s history done ends (c ∷ more) l.0 (pass.Full (report_of m) ∷ map (λ other. pass.NotStarted) more) over cut)))

pass_ends_at : OwnAppend → StandsMade → (w : Setting) (key : List ℕ) (history : List Entry) (slots : List Slot) (p : Passes) → IsMeasuring key w history p → (u : Option Measuring) → p.under_way ≡ u
    → ArePassEnds (setup_kept w key slots p.challenges.items) history (acts_of (entries_of history 0)) p.challenges.items (ends_with p.ends.items (length p.challenges.items) u)
pass_ends_at append law w key history slots p h None is =
    let s = h.so_far in
    pass_ends_over append (setup_kept w key slots p.challenges.items) history p.challenges.items s.done s.rest s.old p.ends.items s.challenges s.entries s.ends (subst (IsUnderWayFor key w s.rest s.old history) is s.under_way)
pass_ends_at append law w key history slots p h (Some m) is =
    let s = h.so_far in
    let f = first_under_way key w history p m s is in
    pass_ends_cut append law (setup_kept w key slots p.challenges.items) history p.challenges.items s.done f.c f.more s.old p.ends.items m (s.challenges ∙ ap (λ l. s.done ++ l) f.first) s.entries s.ends f.stands (subst IsUnfinished is h.unfinished)

pub pass_ends : OwnAppend → StandsMade → (w : Setting) (key : List ℕ) (history : List Entry) (slots : List Slot) (p : Passes) → IsMeasuring key w history p
    → ArePassEnds (setup_kept w key slots p.challenges.items) history (acts_of (entries_of history 0)) p.challenges.items (ends_at_last p)
pass_ends append law w key history slots p h = pass_ends_at append law w key history slots p h p.under_way refl

room_at : (key : List ℕ) (w : Setting) (history : List Entry) (p : Passes) → IsMeasuring key w history p → (u : Option Measuring) → p.under_way ≡ u → IsSome u → length p.ends.items < length p.challenges.items
room_at key w history p h None is some = absurd (false≢true some)
room_at key w history p h (Some m) is some =
    let s = h.so_far in
    let f = first_under_way key w history p m s is in
    omega (arith, ap length (s.challenges ∙ ap (λ l. s.done ++ l) f.first), length-append s.done (f.c ∷ f.more), ends_count key w history s.done p.ends.items s.ends)

-- a measurement under way has a challenge of its own
pub room_at_last : (key : List ℕ) (w : Setting) (history : List Entry) (p : Passes) → IsMeasuring key w history p → IsSome p.under_way → length p.ends.items < length p.challenges.items
room_at_last key w history p h some = room_at key w history p h p.under_way refl some
