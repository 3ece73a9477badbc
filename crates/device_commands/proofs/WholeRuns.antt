-- A run in which no actor met a full history is whole, and one whose history is below its cap is such a run.
use Rattle.std.proofs.Common.{◌≡◌, ℕ, zero, suc, ◌+◌, ◌<◌, ◌≤◌, Bool, true, false, List, [], ◌∷◌, ◌++◌, length, All, Option, Some, None, refl, sym, ap, ◌∙◌, inl, inr, arith, length-append}
use Rattle.std.specs.Prelude.{◌||◌, if◌then◌else◌, slice_get, is_some}
use Rattle.std.specs.List.{list_any, list_all}
use Rattle.std.specs.Option.{option_and_then, option_map}
use Rattle.std.proofs.lemmas.Bool.{false≢true}
use Rattle.std.proofs.lemmas.List.{length-map}
use Rattle.std.proofs.lemmas.List.Elements.{All-nil, All-cons}
use Rattle.std.proofs.lemmas.Option.{slice_get_within}
use Rattle.history.specs.declared.events.Act.{Act}
use Rattle.history.specs.declared.events.Entry.{Entry}
use Rattle.history.specs.Pass.{is_extended}
use Rattle.challenge.specs.declared.Challenge.{Challenge}
use Rattle.chronicle.specs.Worlds.{shape_of}
use Rattle.report.specs.declared.Note.{Note}
use Rattle.report.specs.declared.Report.{Report}
use Rattle.rv_core.specs.declared.waits.CoreWant.{CoreWant}
use Rattle.rv_core.specs.declared.waits.CoreWant.TheVariants.{Fetch, Load, Store, Ended}
use Rattle.rv_core.specs.declared.waits.Ending.{Ending as AppEnding}
use Rattle.rv_core.specs.Runs.{AppProgram, asks, next_access}
use Rattle.rv_core.specs.Waits.{act_asked}
use Rattle.measure.specs.Program.{measuring_program, measuring_programs}
use Rattle.measure.specs.Stepping.{HasNoteOn}
use Rattle.app_thread.specs.declared.ends.RunEnd.{RunEnd}
use Rattle.app_thread.specs.declared.ends.RunEnd.TheVariants as run
use Rattle.device_config.specs.declared.plans.DevicePlan.{DevicePlan}
use Rattle.command_plans.specs.declared.output.Ending.TheVariants.{Accepted, Refused, Full}
use Rattle.device.specs.declared.outcomes.AppEnd.{AppEnd}
use Rattle.device.specs.declared.outcomes.Outcome.{Outcome}
use Rattle.device.specs.declared.outcomes.PassEnd.{PassEnd}
use Rattle.device.specs.declared.outcomes.PassEnd.TheVariants as pass
use Rattle.device.specs.Setups.{Setup}
use Rattle.device.specs.Runs.{IsRunOf, act_now, entries_of, measurer_acts, next_act, next_of_program, value_now}
use Rattle.device.specs.Outcomes.{AreAppEnds, ArePassEnds, FallsShort, IsAppEnd, acts_of, run_end}
use Rattle.device_inputs.specs.declared.admitting.Admission.{Admission}
use Rattle.device_commands.specs.ChallengeEnds.{Judge, challenge_ends}
use Rattle.device_commands.specs.RunWritten.{AreAnswered, HasEndedByItself, IsFinishedRun, ending_of_run, is_accepted, is_cut, is_cut_pass, is_cut_run, is_full_ending, written_of}
use Rattle.device_commands.proofs.RunNames.{neither}

-- ---- nobody was cut short

ends_by_itself : (end : RunEnd) → is_cut_run end ≡ false → (ending : AppEnding) × (end ≡ run.Ended ending)
ends_by_itself (run.Ended ending) uncut = (ending, refl)
ends_by_itself (run.Full place) uncut = absurd (false≢true (sym uncut))

all_ended : (apps : List AppEnd) → list_any (λ app. is_cut_run app.run.end) apps ≡ false → All HasEndedByItself apps
all_ended [] uncut = All-nil HasEndedByItself
all_ended (app ∷ apps) uncut =
    let both = neither (is_cut_run app.run.end) (list_any (λ other. is_cut_run other.run.end) apps) uncut in
    All-cons HasEndedByItself app apps (ends_by_itself app.run.end both.0) (all_ended apps both.1)

has_note : (key : List ℕ) (c : Challenge) (history : List Entry) (report : Report) (note : Option Note) → HasNoteOn key c history report note → is_some note ≡ is_extended c.discipline
has_note key c history report None has = sym has
has_note key c history report (Some note) has = sym has.0

all_answered : (s : Setup) (history : List Entry) (made : List Act) (challenges : List Challenge) (ends : List PassEnd) → ArePassEnds s history made challenges ends → list_any is_cut_pass ends ≡ false → AreAnswered challenges ends
all_answered s history made [] [] are uncut = tt
all_answered s history made [] (end ∷ ends) are uncut = absurd are
all_answered s history made (c ∷ more) [] are uncut = absurd are
all_answered s history made (c ∷ more) (pass.Done report note ∷ ends) are uncut = (has_note s.key c history report note are.3, all_answered s history are.0 more ends are.4 uncut)
all_answered s history made (c ∷ more) (pass.Full report ∷ ends) are uncut = absurd (false≢true (sym uncut))
all_answered s history made (c ∷ more) (pass.NotStarted ∷ ends) are uncut = absurd are

pub uncut_is_whole : (s : Setup) (history : List Entry) (made : List Act) (outcome : Outcome) → AreAppEnds s.programs history outcome.apps → ArePassEnds s history made s.challenges outcome.passes → is_cut outcome ≡ false → IsFinishedRun s outcome
unfolding is_cut
uncut_is_whole s history made outcome apps passes uncut =
    let both = neither (list_any (λ app. is_cut_run app.run.end) outcome.apps) (list_any is_cut_pass outcome.passes) uncut in
    record { count = apps.count; ended = all_ended outcome.apps both.0; answered = all_answered s history made s.challenges outcome.passes passes both.1 }

-- ---- below the cap

both_false : (a b : Bool) → a ≡ false → b ≡ false → (a || b) ≡ false
both_false true b first second = first
both_false false b first second = second

none_of : {A : Type 0} (p : A → Bool) (xs : List A) → ((k : ℕ) (x : A) → slice_get xs k ≡ Some x → p x ≡ false) → list_any p xs ≡ false
none_of p [] each = refl
none_of p (x ∷ xs) each = both_false (p x) (list_any p xs) (each zero x refl) (none_of p xs (λ k. each (suc k)))

element_at : {A : Type 0} (xs : List A) (k : ℕ) → k < length xs → (x : A) × (slice_get xs k ≡ Some x)
element_at [] k below = absurd (omega (arith, below))
element_at (x ∷ xs) zero below = (x, refl)
element_at (x ∷ xs) (suc k) below = element_at xs k (omega (arith, below))

none_is_past : {A : Type 0} (xs : List A) (k : ℕ) → slice_get xs k ≡ None → length xs ≤ k
none_is_past [] k is = omega arith
none_is_past (x ∷ xs) zero is = absurd cc
none_is_past (x ∷ xs) (suc k) is = let h = none_is_past xs k is in omega (arith, h)

-- an application that asks nothing more has ended by itself
asks_no_more : (want : CoreWant) (read count : ℕ) → act_asked want read ≡ None → is_cut_run (run_end want count) ≡ false
asks_no_more (Fetch addr) read count is = absurd cc
asks_no_more (Load addr width) read count is = absurd cc
asks_no_more (Store addr width value) read count is = absurd cc
asks_no_more (Ended ending) read count is = refl

app_is_uncut : (s : Setup) (history : List Entry) (k : ℕ) (program : AppProgram) (end : AppEnd) → slice_get s.programs k ≡ Some program → IsAppEnd program history (entries_of history (suc k)) end
    → next_act s history (suc k) ≡ None → is_cut_run end.run.end ≡ false
app_is_uncut s history k program end here is over =
    let asked : asks program (entries_of history (suc k)) ≡ Some (next_access is.at) = ap (option_map next_access) is.begun.read in
    let next : next_of_program s.world history (suc k) program ≡ None = sym (ap (option_and_then (next_of_program s.world history (suc k))) here) ∙ over in
    let none : act_now s.world history (next_access is.at) ≡ None = sym (ap (option_and_then (act_now s.world history)) asked) ∙ next in
    ap is_cut_run is.ended ∙ asks_no_more (next_access is.at) (value_now s.world history (next_access is.at)) (length history) none

-- acts that fall short of the measurer's programs are fewer
front_is_shorter : (made program : List Act) → FallsShort made program → length made < length program
front_is_shorter made program short =
    let whole : length program ≡ length (made ++ short.next ∷ short.missed) = ap length short.whole in
    let parts : length (made ++ short.next ∷ short.missed) ≡ length made + suc (length short.missed) = length-append made (short.next ∷ short.missed) in
    omega (arith, whole, parts)

cut_is_shorter : (s : Setup) (history : List Entry) (made : List Act) (challenges : List Challenge) (ends : List PassEnd) → ArePassEnds s history made challenges ends
    → list_any is_cut_pass ends ≡ true → length made < length (measuring_programs challenges (shape_of s.world))
cut_is_shorter s history made [] [] are cut = absurd (false≢true cut)
cut_is_shorter s history made [] (end ∷ ends) are cut = absurd are
cut_is_shorter s history made (c ∷ more) [] are cut = absurd are
cut_is_shorter s history made (c ∷ more) (pass.Done report _ ∷ ends) are cut =
    let program = measuring_program c (shape_of s.world) in
    let whole : length made ≡ length (program ++ are.0) = ap length are.1 in
    let rest = cut_is_shorter s history are.0 more ends are.4 cut in
    omega (arith, whole, length-append program are.0, length-append program (measuring_programs more (shape_of s.world)), rest)
cut_is_shorter s history made (c ∷ more) (pass.Full report ∷ ends) are cut =
    let program = measuring_program c (shape_of s.world) in
    let short = front_is_shorter made program are.0 in
    omega (arith, length-append program (measuring_programs more (shape_of s.world)), short)
cut_is_shorter s history made (c ∷ more) (pass.NotStarted ∷ ends) are cut = absurd are

passes_are_uncut : (s : Setup) (history : List Entry) (ends : List PassEnd) (cut : Bool) → list_any is_cut_pass ends ≡ cut → ArePassEnds s history (acts_of (entries_of history 0)) s.challenges ends
    → next_act s history 0 ≡ None → list_any is_cut_pass ends ≡ false
passes_are_uncut s history ends false is are over = is
passes_are_uncut s history ends true is are over =
    let short = cut_is_shorter s history (acts_of (entries_of history 0)) s.challenges ends are is in
    let past = none_is_past (measurer_acts s) (length (entries_of history 0)) over in
    absurd (omega (arith, short, past, length-map (entries_of history 0) (λ (entry : Entry). entry.act)))

pub below_is_uncut : (s : Setup) (history : List Entry) (outcome : Outcome) → IsRunOf s history → length history < s.world.cap → AreAppEnds s.programs history outcome.apps
    → ArePassEnds s history (acts_of (entries_of history 0)) s.challenges outcome.passes → is_cut outcome ≡ false
unfolding is_cut
below_is_uncut s history outcome whole below apps passes =
    let over : (actor : ℕ) → actor ≤ length s.programs → next_act s history actor ≡ None = λ actor known. elim (whole.over actor known) [
      | inl is ↦ is
      | inr at_cap ↦ absurd (omega (arith, below, at_cap))
    ] in
    let of_apps : list_any (λ app. is_cut_run app.run.end) outcome.apps ≡ false = none_of (λ (app : AppEnd). is_cut_run app.run.end) outcome.apps (λ k end here.
    let there = slice_get_within outcome.apps k end here in
    let program = element_at s.programs k (omega (arith, there, apps.count)) in
    app_is_uncut s history k program.0 end program.1 (apps.each k program.0 end program.1 here) (over (suc k) (omega (arith, there, apps.count)))) in
    both_false (list_any (λ app. is_cut_run app.run.end) outcome.apps) (list_any is_cut_pass outcome.passes) of_apps
    (passes_are_uncut s history outcome.passes (list_any is_cut_pass outcome.passes) refl passes (over 0 (omega arith)))

-- ---- the ending

by_test : (cut accepted : Bool) (cap : ℕ) → is_full_ending (if cut then Full cap else (if accepted then Accepted else Refused)) ≡ cut
by_test true accepted cap = refl
by_test false true cap = refl
by_test false false cap = refl

pub full_where_cut : (plan : DevicePlan) (by : Judge) (admissions : List Admission) (shows_waits : Bool) (outcome : Outcome) → is_full_ending (written_of plan by admissions shows_waits outcome).ending ≡ is_cut outcome
unfolding written_of ending_of_run
full_where_cut plan by admissions shows_waits outcome = by_test (is_cut outcome) (list_all is_accepted (challenge_ends by admissions outcome.passes)) plan.cap
