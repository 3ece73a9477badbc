-- The reports of a run in which no actor met a full history are confirmed by that history.
use Rattle.std.proofs.Common.{◌≡◌, ℕ, ◌^◌, ◌<◌, ◌≤◌, true, false, List, [], ◌∷◌, length, All, Option, Some, None, refl, sym, ap, ◌∙◌, subst, arith}
use Rattle.std.specs.Prelude.{IsTrue, ◌↔◌, if◌then◌else◌}
use Rattle.std.specs.List.{list_all, list_any}
use Rattle.std.proofs.lemmas.Bool.{and_from, false≢true}
use Rattle.std.proofs.lemmas.List.{length-replicate}
use Rattle.std.proofs.lemmas.List.Elements.{All-nil, All-cons, All-head, All-tail}
use Rattle.sha2.proofs.Facts256.{length-sha256}
use Rattle.hmac256.specs.Hmac.{hmac}
use Rattle.history.specs.declared.events.Act.{Act}
use Rattle.history.specs.declared.events.Discipline.{Discipline}
use Rattle.history.specs.declared.events.Discipline.TheVariants as discipline
use Rattle.history.specs.declared.events.Entry.{Entry}
use Rattle.history.specs.Instants.{IsInstant, ReleasesAt}
use Rattle.history.specs.Layout.{IsSetting, Setting}
use Rattle.history.specs.Legal.{IsLegal}
use Rattle.history.specs.Memory.{attested_bytes, memory_at}
use Rattle.history.specs.Pass.{is_extended}
use Rattle.history.specs.Sliding.{locks_at_start}
use Rattle.challenge.specs.declared.Challenge.{Challenge}
use Rattle.challenge.specs.Challenges.{Asked, asked_by}
use Rattle.chronicle.specs.declared.worlds.Shape.{Shape}
use Rattle.chronicle.specs.Worlds.{Recorded}
use Rattle.report.specs.declared.Note.{Note}
use Rattle.report.specs.declared.Report.{Report}
use Rattle.report.specs.Reports.{FitsReport, IsReport, asked_of, report_bytes, report_in}
use Rattle.report.specs.Tags.{report_tag}
use Rattle.measure.specs.Measured.{IsReportOn}
use Rattle.measure.specs.Stepping.{HasNoteOn}
use Rattle.trace.specs.declared.confirm.Confirmed.{Confirmed}
use Rattle.trace.specs.declared.confirm.Confirmed.TheVariants as told
use Rattle.trace.specs.Confirm.{IsOnPass, confirmed, told_place}
use Rattle.trace.proofs.OneTrace.{base_low, block_low}
use Rattle.schedule_text.specs.declared.reading.Run.{Run}
use Rattle.device.specs.declared.outcomes.Outcome.{Outcome}
use Rattle.device.specs.declared.outcomes.PassEnd.{PassEnd}
use Rattle.device.specs.declared.outcomes.PassEnd.TheVariants as pass
use Rattle.device.specs.Outcomes.{ArePassEnds, acts_of}
use Rattle.device.specs.Runs.{entries_of}
use Rattle.device.specs.Setups.{Setup}
use Rattle.sched.specs.Scheduled.{IsScheduledOutcome}
use Rattle.device.proofs.Joined.{legal_within}
use Rattle.device_commands.specs.declared.ends.ReleaseEnd.{ReleaseEnd}
use Rattle.device_commands.specs.ChallengeEnds.{IsNoteIfAny, IsSoundPass}
use Rattle.device_commands.specs.RunWritten.{is_cut, is_cut_pass, is_cut_run}
use Rattle.device_commands.proofs.RunNames.{neither}
use Rattle.generated.specs.Draws.{draw}
use Rattle.generated.specs.Generated.{asked, challenges, generated_key, generated_schedule, generated_setup}
use Rattle.trace_commands.specs.declared.ends.ReportEnd.TheVariants.{Reported}
use Rattle.trace_commands.specs.GeneratedRuns.{FitsChallenge, is_confirmed_end, release_after, report_end, report_ends}

-- what the laws of the crates below say
pub record LawsOfReports : Type 0 where
  pub sound : (s : Setup) → IsSetting s.world → (history : List Entry) → IsLegal s.world history → (made : List Act) (challenges : List Challenge) (ends : List PassEnd) → ArePassEnds s history made challenges ends → All IsSoundPass ends
  pub again : (r : Report) → IsReport r → FitsReport r → report_in (report_bytes r) ≡ Some r
  pub yes : (key : List ℕ) (w : Setting) (history : List Entry) (bytes : List ℕ) (r : Report) → report_in bytes ≡ Some r → (confirmed key w history bytes ≡ told.Yes) ↔ IsOnPass key w history r

-- ---- the report is on a pass

-- where its locks were given up; any place, where none was held beyond End
record Released (history : List Entry) (c : Challenge) (r : Report) : Type 0 where
  place : ℕ
  releases : IsTrue (is_extended c.discipline) → ReleasesAt history c.discipline c.counter r.start place
  behind : IsTrue (is_extended c.discipline) → r.end ≤ place

released : (key : List ℕ) (c : Challenge) (history : List Entry) (r : Report) (note : Option Note) → HasNoteOn key c history r note → IsNoteIfAny note → Released history c r
released key c history r None has sound =
    record { place = r.end; releases = λ extended. absurd (false≢true (sym has ∙ extended)); behind = λ extended. omega arith }
released key c history r (Some note) has sound =
    record { place = note.release; releases = λ extended. has.1.releases; behind = λ extended. omega (arith, has.1.end, sound.release) }

-- the place that is looked at is an instant
looked_at : (form : Discipline) (start end release : ℕ) → start ≤ end → (IsTrue (is_extended form) → end ≤ release) → IsInstant form start end release (if locks_at_start form then start else end)
looked_at discipline.All start end release before behind = (omega arith, before)
looked_at discipline.AllExt start end release before behind = let after = behind refl in (omega arith, omega (arith, before, after))
looked_at discipline.Dec start end release before behind = refl
looked_at discipline.Inc start end release before behind = refl
looked_at discipline.IncExt start end release before behind = (omega arith, behind refl)

-- the challenge stands in the report
asked_same : (key : List ℕ) (w : Setting) (c : Challenge) (old history : List Entry) (r : Report) → IsReportOn key w c old history r → asked_by c ≡ asked_of r
asked_same key w c old history r on =
    ap (λ (form : Discipline). let a : Asked = record { discipline = form; counter = c.counter; nonce = c.nonce } in a) (sym on.discipline)
    ∙ ap (λ (counter : ℕ). let a : Asked = record { discipline = r.discipline; counter = counter; nonce = c.nonce } in a) (sym on.counter)
    ∙ ap (λ (nonce : List ℕ). let a : Asked = record { discipline = r.discipline; counter = r.counter; nonce = nonce } in a) (sym on.nonce)

on_pass : (key : List ℕ) (w : Setting) (c : Challenge) (old history : List Entry) (r : Report) → IsReport r → Released history c r → IsReportOn key w c old history r → IsOnPass key w history r
on_pass key w c old history r sound out on =
    let before : r.start ≤ r.end = omega (arith, sound.end) in
    let seen : IsInstant c.discipline r.start r.end out.place (told_place r) =
    subst (λ (form : Discipline). IsInstant c.discipline r.start r.end out.place (if locks_at_start form then r.start else r.end)) (sym on.discipline)
    (looked_at c.discipline r.start r.end out.place before out.behind) in
    record {
      shape = on.shape;
      ends = rw (on.discipline, on.counter) on.ends;
      tag = on.tag (told_place r) out.place out.releases seen
          ∙ ap (λ (a : Asked). report_tag key a r.shape (attested_bytes w (memory_at w history (told_place r))) r.start r.end) (asked_same key w c old history r on);
    }

-- ---- its bytes are read as that report

tag_length : (key : List ℕ) (a : Asked) (shape : Shape) (attested : List ℕ) (start end : ℕ) → length (report_tag key a shape attested start end) ≡ 32
unfolding report_tag hmac
tag_length key a shape attested start end = length-sha256 _

report_fits : (key : List ℕ) (w : Setting) (c : Challenge) (old history : List Entry) (r : Report) → IsSetting w → IsLegal w history → FitsChallenge c → IsReport r → IsReportOn key w c old history r → IsOnPass key w history r → FitsReport r
report_fits key w c old history r setting legal fits sound on passed =
    let within : r.end ≤ length history = on.ends.here.within in
    let few : length history ≤ w.cap = legal_within w history legal in
    let size : w.layout.size ≤ 65536 = (block_low w.layout.size setting.layout.block_size).1 in
    record {
      counter = subst (λ (n : ℕ). n < 2 ^ 64) (sym on.counter) fits.counter;
      nonce = ap length on.nonce ∙ fits.nonce;
      base = subst (λ (shape : Shape). shape.base < 2 ^ 32) (sym on.shape) (base_low w.layout setting.layout);
      size = subst (λ (shape : Shape). shape.size < 2 ^ 32) (sym on.shape) (let low : w.layout.size < 2 ^ 32 = omega (arith, size) in low);
      start = omega (arith, sound.end, within, few, setting.few_entries);
      end = omega (arith, within, few, setting.few_entries);
      tag = ap length passed.tag ∙ tag_length key (asked_of r) r.shape (attested_bytes w (memory_at w history (told_place r))) r.start r.end;
    }

-- ---- so it is told Yes

told_yes : LawsOfReports → (key : List ℕ) (w : Setting) (c : Challenge) (old history : List Entry) (r : Report) (note : Option Note) → IsSetting w → IsLegal w history → FitsChallenge c → IsReport r → IsNoteIfAny note
    → IsReportOn key w c old history r → HasNoteOn key c history r note → confirmed key w history (report_bytes r) ≡ told.Yes
told_yes l key w c old history r note setting legal fits sound sound_note on has =
    let passed = on_pass key w c old history r sound (released key c history r note has sound_note) on in
    (l.yes key w history (report_bytes r) r (l.again r sound (report_fits key w c old history r setting legal fits sound on passed))).1 passed

end_of_yes : (r : Report) (answer : Confirmed) (end : ReleaseEnd) → answer ≡ told.Yes → is_confirmed_end (Reported r answer end) ≡ true
end_of_yes r answer end is = ap (λ (a : Confirmed). is_confirmed_end (Reported r a end)) is

-- ---- all of them

all_confirmed : LawsOfReports → (s : Setup) (kept : Recorded) → kept.world ≡ s.world → IsSetting s.world → IsLegal s.world kept.entries → (made : List Act) (sent : List Challenge) (ends : List PassEnd)
    → ArePassEnds s kept.entries made sent ends → All FitsChallenge sent → All IsSoundPass ends → list_any is_cut_pass ends ≡ false → list_all is_confirmed_end (report_ends s.key kept ends) ≡ true
unfolding report_end
all_confirmed l s kept same setting legal made [] [] are fit sound uncut = refl
all_confirmed l s kept same setting legal made [] (end ∷ ends) are fit sound uncut = absurd are
all_confirmed l s kept same setting legal made (c ∷ more) [] are fit sound uncut = absurd are
all_confirmed l s kept same setting legal made (c ∷ more) (pass.Done r note ∷ ends) are fit sound uncut =
    let here = All-head IsSoundPass (pass.Done r note) ends sound in
    let yes = told_yes l s.key s.world c [] kept.entries r note setting legal (All-head FitsChallenge c more fit) here.0 here.1 are.2 are.3 in
    let answer : confirmed s.key kept.world kept.entries (report_bytes r) ≡ told.Yes = subst (λ (w : Setting). confirmed s.key w kept.entries (report_bytes r) ≡ told.Yes) (sym same) yes in
    and_from _ _ (end_of_yes r (confirmed s.key kept.world kept.entries (report_bytes r)) (release_after r note) answer)
    (all_confirmed l s kept same setting legal are.0 more ends are.4 (All-tail FitsChallenge c more fit) (All-tail IsSoundPass (pass.Done r note) ends sound) uncut)
all_confirmed l s kept same setting legal made (c ∷ more) (pass.Full r ∷ ends) are fit sound uncut = absurd (false≢true (sym uncut))
all_confirmed l s kept same setting legal made (c ∷ more) (pass.NotStarted ∷ ends) are fit sound uncut = absurd are

pub uncut_is_confirmed : LawsOfReports → (s : Setup) → IsSetting s.world → All FitsChallenge s.challenges → (made : List Act) (outcome : Outcome) → outcome.chronicle.world ≡ s.world → IsLegal s.world outcome.chronicle.entries
    → ArePassEnds s outcome.chronicle.entries made s.challenges outcome.passes → is_cut outcome ≡ false → list_all is_confirmed_end (report_ends s.key outcome.chronicle outcome.passes) ≡ true
unfolding is_cut
uncut_is_confirmed l s setting fit made outcome world legal are uncut =
    let whole = neither (list_any (λ app. is_cut_run app.run.end) outcome.apps) (list_any is_cut_pass outcome.passes) uncut in
    all_confirmed l s outcome.chronicle world setting legal made s.challenges outcome.passes are fit (l.sound s setting outcome.chronicle.entries legal made s.challenges outcome.passes are) whole.1

pub scheduled_is_confirmed : LawsOfReports → (s : Setup) → IsSetting s.world → All FitsChallenge s.challenges → (schedule : List Run) (outcome : Outcome) → IsScheduledOutcome s schedule outcome → is_cut outcome ≡ false
    → list_all is_confirmed_end (report_ends s.key outcome.chronicle outcome.passes) ≡ true
scheduled_is_confirmed l s setting fit schedule outcome ran =
    let made : List Act = acts_of (entries_of ran.state.history 0) in
    uncut_is_confirmed l s setting fit made outcome ran.world
    (subst (λ (history : List Entry). IsLegal s.world history) (sym ran.entries) ran.run.so_far.legal)
    (subst (λ (history : List Entry). ArePassEnds s history made s.challenges outcome.passes) (sym ran.entries) ran.passes)

-- ---- generated runs

asked_fits : (form : Discipline) (lead hold counter : ℕ) → counter < 2 ^ 64 → FitsChallenge (asked form lead hold counter)
asked_fits form lead hold counter low = record { counter = low; nonce = length-replicate 16 counter }

challenges_fit : (seed : ℕ) → All FitsChallenge (challenges seed)
unfolding challenges
challenges_fit seed =
    let all = asked discipline.All (draw seed 17 100) 0 1 in
    let all_ext = asked discipline.AllExt (draw seed 18 100) (draw seed 19 100) 2 in
    let dec = asked discipline.Dec (draw seed 20 100) 0 3 in
    let inc = asked discipline.Inc (draw seed 21 100) 0 4 in
    let inc_ext = asked discipline.IncExt (draw seed 22 100) (draw seed 23 100) 5 in
    All-cons FitsChallenge all (all_ext ∷ dec ∷ inc ∷ inc_ext ∷ []) (asked_fits discipline.All (draw seed 17 100) 0 1 (omega arith))
    (All-cons FitsChallenge all_ext (dec ∷ inc ∷ inc_ext ∷ []) (asked_fits discipline.AllExt (draw seed 18 100) (draw seed 19 100) 2 (omega arith))
    (All-cons FitsChallenge dec (inc ∷ inc_ext ∷ []) (asked_fits discipline.Dec (draw seed 20 100) 0 3 (omega arith))
    (All-cons FitsChallenge inc (inc_ext ∷ []) (asked_fits discipline.Inc (draw seed 21 100) 0 4 (omega arith))
    (All-cons FitsChallenge inc_ext [] (asked_fits discipline.IncExt (draw seed 22 100) (draw seed 23 100) 5 (omega arith)) (All-nil FitsChallenge)))))

generated_fits : (seed : ℕ) → All FitsChallenge (generated_setup seed).challenges
unfolding generated_setup
generated_fits seed = challenges_fit seed

key_is : (seed : ℕ) → (generated_setup seed).key ≡ generated_key
unfolding generated_setup
key_is seed = refl

pub generated_is_confirmed : LawsOfReports → (seed : ℕ) → IsSetting (generated_setup seed).world → (outcome : Outcome) → IsScheduledOutcome (generated_setup seed) (generated_schedule seed) outcome → is_cut outcome ≡ false
    → list_all is_confirmed_end (report_ends generated_key outcome.chronicle outcome.passes) ≡ true
generated_is_confirmed l seed setting outcome ran uncut =
    subst (λ (key : List ℕ). list_all is_confirmed_end (report_ends key outcome.chronicle outcome.passes) ≡ true) (key_is seed)
    (scheduled_is_confirmed l (generated_setup seed) setting (generated_fits seed) (generated_schedule seed) outcome ran uncut)
