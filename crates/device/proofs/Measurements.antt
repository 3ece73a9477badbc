-- What the measurer has made, what is left of its programs, and how its measurements go on.
use Rattle.std.proofs.Common.{◌≡◌, ℕ, zero, suc, ◌+◌, ◌<◌, ◌≤◌, Bool, true, false, List, [], ◌∷◌, ◌++◌, length, map, reverse, replicate, drop, Option, Some, None, refl, sym, ap, ap₂, ◌∙◌, subst, append_assoc, append-nil, All, arith}
use Rattle.std.specs.Prelude.{is_none, is_some, not, slice_get, vec_capacity}
use Rattle.std.proofs.lemmas.Bool.{false≢true}
use Rattle.std.proofs.lemmas.List.{append_cancel_left, length_push, length-append, length-map, length-reverse, map-append}
use Rattle.std.proofs.lemmas.List.Concat.{flat_map-append}
use Rattle.history.specs.declared.events.Act.{Act}
use Rattle.history.specs.declared.events.Act.TheVariants as act
use Rattle.history.specs.declared.events.Entry.{Entry}
use Rattle.history.specs.Attested.{attested_blocks}
use Rattle.history.specs.Layout.{Setting, IsSetting}
use Rattle.history.specs.Memory.{own}
use Rattle.history.specs.Legal.{IsLegal, MayFollow}
use Rattle.challenge.specs.declared.Challenge.{Challenge}
use Rattle.challenge.specs.Challenges.{IsChallenge}
use Rattle.chronicle.specs.declared.answers.Step.TheVariants as step
use Rattle.chronicle.specs.declared.worlds.Shape.{Shape}
use Rattle.chronicle.specs.Worlds.{shape_of}
use Rattle.chronicle.specs.Ports.{entry_by}
use Rattle.report.specs.declared.Report.{Report}
use Rattle.report.specs.declared.Note.{Note}
use Rattle.measure.specs.declared.machine.Stage.TheVariants as stage
use Rattle.measure.specs.declared.stepping.Progress.{Progress}
use Rattle.measure.specs.declared.stepping.Progress.TheVariants as progress
use Rattle.measure.specs.declared.stepping.Measuring.{Measuring}
use Rattle.measure.specs.Machine.{acts_left}
use Rattle.measure.specs.Measured.{IsNoteOn, IsReportOn}
use Rattle.measure.specs.Program.{HasMade, MayStart, closing_acts, copies, measuring_program, measuring_programs, pass_acts}
use Rattle.measure.specs.Stepping.{HasNoteOn, TakesStep, TakesStepAlone, IsStanding, Stands, is_last, is_over, left_of, note_of, report_of, stage_of, stage_report}
use Rattle.device.specs.declared.tallies.Tally.{Tally}
use Rattle.device.specs.declared.tallies.Stepped.TheVariants.{Over, Made, Full}
use Rattle.device.specs.declared.outcomes.PassEnd.{PassEnd}
use Rattle.device.specs.declared.outcomes.PassEnd.TheVariants as pass
use Rattle.device.specs.declared.passes.Passes.{Passes}
use Rattle.device.specs.Runs.{entries_of}
use Rattle.device.specs.Turns.{actor_at}
use Rattle.device.specs.Keeping.{AreOver, BeginsNext, IsMeasuring, IsSteppingOn, IsUnderWayFor, IsUnfinished}
use Rattle.device.proofs.Acting.{ComesTo, EntryLess, full_turn, made_turn, over_turn, stopped_turn}
use Rattle.device.proofs.Entries.{OwnAppend}

-- ---- parts in a row

pub made_more : OwnAppend → (first second third : List Entry) (a b : List Act) → HasMade first second a → HasMade second third b → HasMade first third (a ++ b)
made_more append first second third a b x y = record {
  rest = x.rest ++ y.rest;
  whole = y.whole ∙ ap (λ l. l ++ y.rest) x.whole ∙ append_assoc first x.rest y.rest;
  own = append x.rest y.rest 0 1 ∙ ap₂ (λ l m. l ++ m) x.own y.own ∙ sym (map-append (entry_by 0) a b);
}

pub made_none : (history : List Entry) → HasMade history history []
made_none history = record { rest = []; whole = sym (append-nil history); own = refl }

programs_split : (shape : Shape) (done : List Challenge) (c : Challenge) (more : List Challenge) → measuring_programs (done ++ c ∷ more) shape ≡ measuring_programs done shape ++ (measuring_program c shape ++ measuring_programs more shape)
programs_split shape done c more = flat_map-append (λ x. measuring_program x shape) done (c ∷ more)

programs_push : (shape : Shape) (done : List Challenge) (c : Challenge) → measuring_programs (done ++ c ∷ []) shape ≡ measuring_programs done shape ++ measuring_program c shape
programs_push shape done c = programs_split shape done c [] ∙ ap (λ l. measuring_programs done shape ++ l) (append-nil (measuring_program c shape))

suc_add : (n k : ℕ) → suc n + k ≡ suc (n + k)
suc_add n k = omega arith

-- an element of two lists in a row, from the second on
pub get_second : {A : Type 0} (xs ys : List A) (k : ℕ) → slice_get (xs ++ ys) (length xs + k) ≡ slice_get ys k
get_second [] ys k = let n : 0 + k ≡ k = omega arith in ap (slice_get ys) n
get_second (x ∷ xs) ys k = ap (λ n. slice_get (x ∷ (xs ++ ys)) n) (suc_add (length xs) k) ∙ get_second xs ys k

-- ---- what is left

-- the measurer has made these acts of its programs, and these are left
pub record HasLeft (w : Setting) (history : List Entry) (challenges : List Challenge) (made left : List Act) : Type 0 where
  pub whole : measuring_programs challenges (shape_of w) ≡ made ++ left
  pub entries : HasMade [] history made

pub own_made : (w : Setting) (history : List Entry) (challenges : List Challenge) (made left : List Act) → HasLeft w history challenges made left → entries_of history 0 ≡ map (entry_by 0) made
own_made w history challenges made left h = ap (λ l. own l 0 1) h.entries.whole ∙ h.entries.own

pub next_left : (w : Setting) (history : List Entry) (challenges : List Challenge) (made left : List Act) → HasLeft w history challenges made left
    → slice_get (measuring_programs challenges (shape_of w)) (length (entries_of history 0)) ≡ slice_get left 0
next_left w history challenges made left h =
    let count : length (entries_of history 0) ≡ length made + 0 = ap length (own_made w history challenges made left h) ∙ length-map made (entry_by 0) ∙ omega arith in
    ap₂ slice_get h.whole count ∙ get_second made left 0

none_left : OwnAppend → (key : List ℕ) (w : Setting) (challenges done rest : List Challenge) (old history : List Entry) → challenges ≡ done ++ rest → HasMade [] old (measuring_programs done (shape_of w)) → IsUnderWayFor key w rest old history None
    → HasLeft w history challenges (measuring_programs done (shape_of w) ++ []) []
none_left append key w challenges done [] old history is entries u = record {
  whole = ap (λ l. measuring_programs l (shape_of w)) (is ∙ append-nil done) ∙ sym (append-nil (measuring_programs done (shape_of w))) ∙ sym (append-nil (measuring_programs done (shape_of w) ++ []));
  entries = made_more append [] old history (measuring_programs done (shape_of w)) [] entries u;
}
none_left append key w challenges done (c ∷ more) old history is entries u = elim u [ ]

-- the challenge whose measurement is under way
pub record IsFirst (key : List ℕ) (w : Setting) (rest : List Challenge) (old history : List Entry) (m : Measuring) : Type 0 where
  pub c : Challenge
  pub more : List Challenge
  pub first : rest ≡ c ∷ more
  pub stands : Stands key w c old history m

under_some : (key : List ℕ) (w : Setting) (rest : List Challenge) (old history : List Entry) (m : Measuring) → IsUnderWayFor key w rest old history (Some m) → IsFirst key w rest old history m
under_some key w [] old history m u = elim u [ ]
under_some key w (c ∷ more) old history m u = record { c = c; more = more; first = refl; stands = u }

some_left : OwnAppend → (key : List ℕ) (w : Setting) (challenges done : List Challenge) (c : Challenge) (more : List Challenge) (old history : List Entry) (m : Measuring) → challenges ≡ done ++ c ∷ more
    → HasMade [] old (measuring_programs done (shape_of w)) → (s : Stands key w c old history m) → HasLeft w history challenges (measuring_programs done (shape_of w) ++ s.made) (left_of w m ++ measuring_programs more (shape_of w))
some_left append key w challenges done c more old history m is entries s =
    let programs = measuring_programs done (shape_of w) in
    let others = measuring_programs more (shape_of w) in
    record {
      whole =
          ap (λ l. measuring_programs l (shape_of w)) is
          ∙ programs_split (shape_of w) done c more
          ∙ ap (λ l. measuring_programs done (shape_of w) ++ (l ++ measuring_programs more (shape_of w))) s.whole
          ∙ ap (λ l. measuring_programs done (shape_of w) ++ l) (append_assoc s.made (left_of w m) (measuring_programs more (shape_of w)))
          ∙ sym (append_assoc (measuring_programs done (shape_of w)) s.made (left_of w m ++ measuring_programs more (shape_of w)));
      entries = made_more append [] old history (measuring_programs done (shape_of w)) s.made entries s.entries;
    }

-- what is left for the measurer: nothing, or the rest of the program under way and then the others
pub record LeftOver (w : Setting) (history : List Entry) (p : Passes) : Type 0 where
  pub made : List Act
  pub left : HasLeft w history p.challenges.items made []

pub record LeftFor (w : Setting) (history : List Entry) (p : Passes) (m : Measuring) : Type 0 where
  pub made : List Act
  pub others : List Act
  pub left : HasLeft w history p.challenges.items made (left_of w m ++ others)

pub left_over : OwnAppend → (key : List ℕ) (w : Setting) (history : List Entry) (p : Passes) → IsSteppingOn key w history p → p.under_way ≡ None → LeftOver w history p
left_over append key w history p s is = record {
  made = measuring_programs s.done (shape_of w) ++ [];
  left = none_left append key w p.challenges.items s.done s.rest s.old history s.challenges s.entries (subst (IsUnderWayFor key w s.rest s.old history) is s.under_way);
}

pub first_under_way : (key : List ℕ) (w : Setting) (history : List Entry) (p : Passes) (m : Measuring) → (s : IsSteppingOn key w history p) → p.under_way ≡ Some m → IsFirst key w s.rest s.old history m
first_under_way key w history p m s is = under_some key w s.rest s.old history m (subst (IsUnderWayFor key w s.rest s.old history) is s.under_way)

pub left_for : OwnAppend → (key : List ℕ) (w : Setting) (history : List Entry) (p : Passes) (m : Measuring) → IsSteppingOn key w history p → p.under_way ≡ Some m → LeftFor w history p m
left_for append key w history p m s is =
    let f = first_under_way key w history p m s is in
    record {
      made = measuring_programs s.done (shape_of w) ++ f.stands.made;
      others = measuring_programs f.more (shape_of w);
      left = some_left append key w p.challenges.items s.done f.c f.more s.old history m (s.challenges ∙ ap (λ l. s.done ++ l) f.first) s.entries f.stands;
    }

-- ---- one turn

-- a program that isn't over has an act left
starts_with : (xs : List Act) (y : Act) (ys zs : List Act) → (next : Act) × (missed : List Act) × (xs ++ (y ∷ ys) ++ zs ≡ next ∷ missed)
starts_with [] y ys zs = (y, ys ++ zs, refl)
starts_with (x ∷ xs) y ys zs = (x, xs ++ (y ∷ ys) ++ zs, refl)

act_left : (c : Challenge) (shape : Shape) (p : Progress) → is_last p ≡ false → (next : Act) × (missed : List Act) × (acts_left c shape (stage_of p) ≡ next ∷ missed)
act_left c shape (progress.Leading left) more = starts_with (replicate left act.Tick) (act.Start c.discipline c.counter) (copies (attested_blocks shape.ranges) ++ (act.End ∷ [])) (closing_acts c)
act_left c shape (progress.Copying passing made) more = starts_with (copies (drop made (attested_blocks shape.ranges))) act.End [] (closing_acts c)
act_left c shape (progress.Holding report left) more =
    let s = starts_with (replicate left act.Tick) act.Release [] [] in (s.0, s.1, sym (append-nil (replicate left act.Tick ++ (act.Release ∷ []))) ∙ s.2)
act_left c shape (progress.Over report last) more = absurd (false≢true (sym more))

pub next_act_left : (w : Setting) (m : Measuring) → is_over m ≡ false → (next : Act) × (missed : List Act) × (left_of w m ≡ next ∷ missed)
next_act_left w m more = act_left m.challenge (shape_of w) m.progress more

-- what the measurer does next
abbrev pub next_step_of : Setting → List Entry → Passes → Option Act
next_step_of w history p = slice_get (measuring_programs p.challenges.items (shape_of w)) (length (entries_of history 0))

next_for : OwnAppend → (key : List ℕ) (w : Setting) (history : List Entry) (p : Passes) (m : Measuring) (next : Act) (missed : List Act) → IsSteppingOn key w history p → p.under_way ≡ Some m → left_of w m ≡ next ∷ missed → next_step_of w history p ≡ Some next
next_for append key w history p m next missed s is left =
    let l = left_for append key w history p m s is in
    next_left w history p.challenges.items l.made (left_of w m ++ l.others) l.left ∙ ap (λ a. slice_get (a ++ l.others) 0) left

next_over : OwnAppend → (key : List ℕ) (w : Setting) (history : List Entry) (p : Passes) → IsSteppingOn key w history p → p.under_way ≡ None → next_step_of w history p ≡ None
next_over append key w history p s is = let l = left_over append key w history p s is in next_left w history p.challenges.items l.made [] l.left

-- the answers of the measurer's port
pub pass_stopped : (w : Setting) (history : List Entry) (p : Passes) → p.tally.stopped ≡ true → ComesTo w 0 (next_step_of w history p) (actor_at history p.tally) (actor_at history p.tally) Over
pass_stopped w history p stop = stopped_turn w 0 (next_step_of w history p) (actor_at history p.tally) stop

pub pass_over : OwnAppend → (key : List ℕ) (w : Setting) (history : List Entry) (p : Passes) → IsSteppingOn key w history p → p.under_way ≡ None → p.tally.stopped ≡ false
    → ComesTo w 0 (next_step_of w history p) (actor_at history p.tally) (actor_at history p.tally) Over
pass_over append key w history p s is run = over_turn w 0 (next_step_of w history p) (actor_at history p.tally) run (next_over append key w history p s is)

pub pass_made : OwnAppend → EntryLess → (key : List ℕ) (w : Setting) (old new : List Entry) (p : Passes) (m after : Measuring) (place : ℕ) → IsSteppingOn key w old p → p.under_way ≡ Some m → p.tally.stopped ≡ false → IsLegal w new
    → TakesStep w old new m after (step.Done place) → TakesStepAlone w old new m (step.Done place) → ComesTo w 0 (next_step_of w old p) (actor_at old p.tally) (actor_at new p.tally) (Made place)
pass_made append less key w old new p m after place s is run legal turned alone =
    let next = turned.0 in
    let grown : new ≡ old ++ entry_by 0 next ∷ [] = alone next (left_of w after) turned.1 in
    let may : MayFollow w (reverse old) (entry_by 0 next) = (less w old (entry_by 0 next) (subst (IsLegal w) grown legal)).1 in
    let made = made_turn w 0 (next_step_of w old p) next (actor_at old p.tally) run (next_for append key w old p m next (left_of w after) s is turned.1) (omega (arith, length-reverse old, may.cap)) may.lock in
    let here : place ≡ length old + 1 = turned.2.1 ∙ ap length grown ∙ length_push old (entry_by 0 next) in
    (ap (λ l. actor_at l p.tally) grown ∙ made.0, ap Made here ∙ made.1)

pub pass_full : OwnAppend → (key : List ℕ) (w : Setting) (old new : List Entry) (p : Passes) (m after : Measuring) (place : ℕ) → IsSteppingOn key w old p → p.under_way ≡ Some m → p.tally.stopped ≡ false → is_over m ≡ false
    → TakesStep w old new m after (step.Full place) → TakesStepAlone w old new m (step.Full place) → ComesTo w 0 (next_step_of w old p) (actor_at old p.tally) (actor_at new (record (p.tally) { stopped = true })) (Full place)
pass_full append key w old new p m after place s is run more turned alone =
    let n = next_act_left w m more in
    let same : new ≡ old = alone n.0 n.1 n.2 in
    let here : place ≡ length old = turned.1.2 ∙ ap length same in
    let full = full_turn w 0 (next_step_of w old p) n.0 (actor_at old p.tally) run (next_for append key w old p m n.0 n.1 s is n.2) (sym here ∙ turned.1.1) in
    (ap (λ l. actor_at l (record (p.tally) { stopped = true })) same ∙ full.0, ap Full here ∙ full.1)

-- ---- the measurements go on

abbrev pub ReportStays : Type 0
ReportStays = (key : List ℕ) (w : Setting) (c : Challenge) (old seen more : List Entry) (r : Report) → IsSetting w → IsLegal w (seen ++ more) → IsReportOn key w c old seen r → IsReportOn key w c old (seen ++ more) r

abbrev pub NoteStays : Type 0
NoteStays = (key : List ℕ) (c : Challenge) (seen more : List Entry) (r : Report) (n : Note) → IsNoteOn key c seen r n → IsNoteOn key c (seen ++ more) r n

note_later : NoteStays → (key : List ℕ) (c : Challenge) (seen more : List Entry) (r : Report) (note : Option Note) → HasNoteOn key c seen r note → HasNoteOn key c (seen ++ more) r note
note_later notes key c seen more r None h = h
note_later notes key c seen more r (Some n) h = (h.0, notes key c seen more r n h.1)

-- what is over stays right as the history goes on
pub over_later : ReportStays → NoteStays → (key : List ℕ) (w : Setting) (seen more : List Entry) (done : List Challenge) (ends : List PassEnd) → IsSetting w → IsLegal w (seen ++ more) → AreOver key w seen done ends → AreOver key w (seen ++ more) done ends
over_later reports notes key w seen more [] [] setting legal h = tt
over_later reports notes key w seen more (c ∷ done) (pass.Done report noted ∷ ends) setting legal h = (
  reports key w c [] seen more report setting legal h.0,
  note_later notes key c seen more report noted h.1,
  over_later reports notes key w seen more done ends setting legal h.2,
)
over_later reports notes key w seen more [] (end ∷ ends) setting legal h = elim h [ ]
over_later reports notes key w seen more (c ∷ done) [] setting legal h = elim h [ ]
over_later reports notes key w seen more (c ∷ done) (pass.Full report ∷ ends) setting legal h = elim h [ ]
over_later reports notes key w seen more (c ∷ done) (pass.NotStarted ∷ ends) setting legal h = elim h [ ]

abbrev pub passes_with : Passes → Measuring → Tally → Passes
passes_with p m t = record p { under_way = Some m; tally = t }

abbrev StandsOn : List ℕ → Setting → List Entry → List Entry → Measuring → Measuring → Type 0
StandsOn key w old new m after = (c : Challenge) (first : List Entry) → Stands key w c first old m → Stands key w c first new after

-- after an entry of the measurer's
pub stepped_made : ReportStays → NoteStays → (key : List ℕ) (w : Setting) (old new : List Entry) (p : Passes) (m after : Measuring) (place : ℕ) → IsSteppingOn key w old p → p.under_way ≡ Some m → p.tally.stopped ≡ false → IsSetting w → IsLegal w new
    → TakesStep w old new m after (step.Done place) → TakesStepAlone w old new m (step.Done place) → StandsOn key w old new m after → IsSteppingOn key w new (passes_with p after p.tally)
stepped_made reports notes key w old new p m after place s is run setting legal turned alone on =
    let grown : new ≡ old ++ entry_by 0 turned.0 ∷ [] = alone turned.0 (left_of w after) turned.1 in
    let f = first_under_way key w old p m s is in
    record {
      done = s.done;
      rest = s.rest;
      old = s.old;
      challenges = s.challenges;
      valid = s.valid;
      room = s.room;
      entries = s.entries;
      ends = subst (λ h. AreOver key w h s.done p.ends.items) (sym grown) (over_later reports notes key w old (entry_by 0 turned.0 ∷ []) s.done p.ends.items setting (subst (IsLegal w) grown legal) s.ends);
      under_way = subst (λ l. IsUnderWayFor key w l s.old new (Some after)) (sym f.first) (on f.c s.old f.stands);
      stopped = λ stop. absurd (false≢true (sym run ∙ stop));
    }

-- at a full history
pub stepped_full : (key : List ℕ) (w : Setting) (old new : List Entry) (p : Passes) (m after : Measuring) (place : ℕ) → IsSteppingOn key w old p → p.under_way ≡ Some m → is_over m ≡ false
    → TakesStep w old new m after (step.Full place) → TakesStepAlone w old new m (step.Full place) → StandsOn key w old new m after → IsMeasuring key w new (passes_with p after (record (p.tally) { stopped = true }))
stepped_full key w old new p m after place s is more turned alone on =
    let n = next_act_left w m more in
    let same : new ≡ old = alone n.0 n.1 n.2 in
    let f = first_under_way key w old p m s is in
    record {
      so_far = record {
        done = s.done;
        rest = s.rest;
        old = s.old;
        challenges = s.challenges;
        valid = s.valid;
        room = s.room;
        entries = s.entries;
        ends = subst (λ h. AreOver key w h s.done p.ends.items) (sym same) s.ends;
        under_way = subst (λ l. IsUnderWayFor key w l s.old new (Some after)) (sym f.first) (on f.c s.old f.stands);
        stopped = λ stop. sym turned.1.2 ∙ turned.1.1;
      };
      unfinished = ap is_over turned.0 ∙ more;
    }

-- ---- on to the next challenge

-- there are as many ends as challenges that are over
pub ends_count : (key : List ℕ) (w : Setting) (history : List Entry) (done : List Challenge) (ends : List PassEnd) → AreOver key w history done ends → length ends ≡ length done
ends_count key w history [] [] h = refl
ends_count key w history (c ∷ done) (pass.Done report noted ∷ ends) h = ap suc (ends_count key w history done ends h.2)
ends_count key w history [] (end ∷ ends) h = elim h [ ]
ends_count key w history (c ∷ done) [] h = elim h [ ]
ends_count key w history (c ∷ done) (pass.Full report ∷ ends) h = elim h [ ]
ends_count key w history (c ∷ done) (pass.NotStarted ∷ ends) h = elim h [ ]

over_push : (key : List ℕ) (w : Setting) (history : List Entry) (done : List Challenge) (ends : List PassEnd) (c : Challenge) (report : Report) (note : Option Note) → AreOver key w history done ends → IsReportOn key w c [] history report → HasNoteOn key c history report note
    → AreOver key w history (done ++ c ∷ []) (ends ++ pass.Done report note ∷ [])
over_push key w history [] [] c report noted h r n = (r, n, tt)
over_push key w history (d ∷ done) (pass.Done s o ∷ ends) c report noted h r n = (h.0, h.1, over_push key w history done ends c report noted h.2 r n)
over_push key w history [] (end ∷ ends) c report noted h r n = elim h [ ]
over_push key w history (d ∷ done) [] c report noted h r n = elim h [ ]
over_push key w history (d ∷ done) (pass.Full s ∷ ends) c report noted h r n = elim h [ ]
over_push key w history (d ∷ done) (pass.NotStarted ∷ ends) c report noted h r n = elim h [ ]

-- a report on a pass since some entries is one on a pass of the whole history
pub from_first : (key : List ℕ) (w : Setting) (c : Challenge) (old history : List Entry) (r : Report) → IsReportOn key w c old history r → IsReportOn key w c [] history r
from_first key w c old history r h = record {
  discipline = h.discipline;
  counter = h.counter;
  nonce = h.nonce;
  shape = h.shape;
  begins = omega (arith, h.begins);
  ends = h.ends;
  tag = h.tag;
}

abbrev pub StandsOver : Type 0
StandsOver = (key : List ℕ) (w : Setting) (c : Challenge) (old seen : List Entry) (m : Measuring) → Stands key w c old seen m → is_over m ≡ true
    → HasMade old seen (measuring_program c (shape_of w)) × MayStart w seen × ((r : Report) × (report_of m ≡ Some r) × IsReportOn key w c old seen r × HasNoteOn key c seen r (note_of m))

nil_cons : {A : Type 0} (x : A) (xs : List A) → [] ≡ x ∷ xs → ⊥
nil_cons x xs h = cc

-- a measurement that has just begun isn't over
fresh_at : StandsOver → (key : List ℕ) (w : Setting) (c : Challenge) (seen : List Entry) (m : Measuring) → Stands key w c seen seen m → (b : Bool) → is_over m ≡ b → is_over m ≡ false
fresh_at over key w c seen m s false is = is
fresh_at over key w c seen m s true is =
    let made : HasMade seen seen (measuring_program c (shape_of w)) = (over key w c seen seen m s is).0 in
    let none : made.rest ≡ [] = append_cancel_left seen made.rest [] (sym made.whole ∙ sym (append-nil seen)) in
    let first = starts_with (replicate c.lead act.Tick) (act.Start c.discipline c.counter) (copies (attested_blocks (shape_of w).ranges) ++ (act.End ∷ [])) (closing_acts c) in
    let entries : [] ≡ entry_by 0 first.0 ∷ map (entry_by 0) first.1 = sym (ap (λ l. own l 0 1) none) ∙ made.own ∙ ap (λ l. map (entry_by 0) l) first.2 in
    absurd (nil_cons (entry_by 0 first.0) (map (entry_by 0) first.1) entries)

fresh_unfinished : StandsOver → (key : List ℕ) (w : Setting) (c : Challenge) (seen : List Entry) (m : Measuring) → Stands key w c seen seen m → is_over m ≡ false
fresh_unfinished over key w c seen m s = fresh_at over key w c seen m s (is_over m) refl

-- the next measurement, if there is a challenge more
next_under_way : (key : List ℕ) (w : Setting) (history : List Entry) (more : List Challenge) (u : Option Measuring) → BeginsNext (slice_get more 0) u → IsSetting w → IsLegal w history → MayStart w history → IsUnderWayFor key w more history history u
next_under_way key w history [] None b setting legal start = made_none history
next_under_way key w history [] (Some m) b setting legal start = elim b [ ]
next_under_way key w history (c ∷ more) None b setting legal start = elim b [ ]
next_under_way key w history (c ∷ more) (Some m) b setting legal start = b key w history setting legal start

next_unfinished : StandsOver → (key : List ℕ) (w : Setting) (history : List Entry) (more : List Challenge) (u : Option Measuring) → IsUnderWayFor key w more history history u → IsUnfinished u
next_unfinished over key w history more None h = tt
next_unfinished over key w history [] (Some m) h = elim h [ ]
next_unfinished over key w history (c ∷ more) (Some m) h = fresh_unfinished over key w c history m h

same_some : {A : Type 0} (x y : A) → Some x ≡ Some y → x ≡ y
same_some x y h = cc

-- the measurement under way is over: on to the next
pub settled : OwnAppend → StandsOver → (key : List ℕ) (w : Setting) (history : List Entry) (p : Passes) (m : Measuring) (report : Report) → IsSteppingOn key w history p → p.under_way ≡ Some m → is_over m ≡ true → report_of m ≡ Some report
    → (q : Passes) → q.challenges ≡ p.challenges → q.tally ≡ p.tally → q.ends.items ≡ p.ends.items ++ pass.Done report (note_of m) ∷ [] → vec_capacity q.ends ≡ vec_capacity p.ends
    → BeginsNext (slice_get p.challenges.items (length q.ends.items)) q.under_way → IsMeasuring key w history q
settled append over key w history p m report s is ended reported q challenges tally pushed capacity begins =
    let f = first_under_way key w history p m s is in
    let o = over key w f.c s.old history m f.stands ended in
    let same : o.2.0 ≡ report = same_some o.2.0 report (sym o.2.1 ∙ reported) in
    let right : IsReportOn key w f.c s.old history report = subst (IsReportOn key w f.c s.old history) same o.2.2 in
    let noted : HasNoteOn key f.c history report (note_of m) = subst (λ r. HasNoteOn key f.c history r (note_of m)) same o.2.3 in
    let split : p.challenges.items ≡ (s.done ++ f.c ∷ []) ++ f.more = s.challenges ∙ ap (λ l. s.done ++ l) f.first ∙ sym (append_assoc s.done (f.c ∷ []) f.more) in
    let count : length q.ends.items ≡ length (s.done ++ f.c ∷ []) + 0 =
    ap length pushed ∙ length_push p.ends.items (pass.Done report (note_of m)) ∙ ap (λ n. n + 1) (ends_count key w history s.done p.ends.items s.ends) ∙ sym (length_push s.done f.c) ∙ omega arith in
    let next : slice_get p.challenges.items (length q.ends.items) ≡ slice_get f.more 0 = ap₂ slice_get split count ∙ get_second (s.done ++ f.c ∷ []) f.more 0 in
    let under : IsUnderWayFor key w f.more history history q.under_way = next_under_way key w history f.more q.under_way (subst (λ c. BeginsNext c q.under_way) next begins) f.stands.setting f.stands.legal o.1 in
    record {
      so_far = record {
        done = s.done ++ f.c ∷ [];
        rest = f.more;
        old = history;
        challenges = ap (λ v. v.items) challenges ∙ split;
        valid = subst (λ v. All IsChallenge v.items) (sym challenges) s.valid;
        room = omega (arith, s.room, capacity, ap (λ v. length v.items) challenges);
        entries = subst (HasMade [] history) (sym (programs_push (shape_of w) s.done f.c)) (made_more append [] s.old history (measuring_programs s.done (shape_of w)) (measuring_program f.c (shape_of w)) s.entries o.0);
        ends = subst (AreOver key w history (s.done ++ f.c ∷ [])) (sym pushed) (over_push key w history s.done p.ends.items f.c report (note_of m) s.ends (from_first key w f.c s.old history report right) noted);
        under_way = under;
        stopped = λ stop. s.stopped (ap (λ t. t.stopped) (sym tally) ∙ stop);
      };
      unfinished = next_unfinished over key w history f.more q.under_way under;
    }

-- a measurer before its first turn
pub begun_passes : StandsOver → (p : Passes) → p.tally.stopped ≡ false → p.ends.items ≡ [] → length p.challenges.items ≤ vec_capacity p.ends → All IsChallenge p.challenges.items → BeginsNext (slice_get p.challenges.items 0) p.under_way
    → (key : List ℕ) (w : Setting) → IsSetting w → IsMeasuring key w [] p
begun_passes over p run none room valid begins key w setting =
    let under : IsUnderWayFor key w p.challenges.items [] [] p.under_way = next_under_way key w [] p.challenges.items p.under_way begins setting tt (λ discipline counter. refl) in
    record {
      so_far = record {
        done = [];
        rest = p.challenges.items;
        old = [];
        challenges = refl;
        valid = valid;
        room = room;
        entries = made_none [];
        ends = subst (AreOver key w [] []) (sym none) tt;
        under_way = under;
        stopped = λ stop. absurd (false≢true (sym run ∙ stop));
      };
      unfinished = next_unfinished over key w [] p.challenges.items p.under_way under;
    }

-- there is room for the end of a measurement under way, and there is a report
pub room_for : (key : List ℕ) (w : Setting) (history : List Entry) (p : Passes) (m : Measuring) → IsSteppingOn key w history p → p.under_way ≡ Some m → length p.ends.items < vec_capacity p.ends
room_for key w history p m s is =
    let f = first_under_way key w history p m s is in
    let all : length p.challenges.items ≡ length s.done + length (f.c ∷ f.more) = ap length (s.challenges ∙ ap (λ l. s.done ++ l) f.first) ∙ length-append s.done (f.c ∷ f.more) in
    omega (arith, s.room, all, ends_count key w history s.done p.ends.items s.ends)

reported_stage : (p : Progress) → is_last p ≡ true → (r : Report) × (stage_report p ≡ Some r)
reported_stage (progress.Leading left) last = absurd (false≢true last)
reported_stage (progress.Copying passing made) last = absurd (false≢true last)
reported_stage (progress.Holding report left) last = absurd (false≢true last)
reported_stage (progress.Over report noted) last = (report, refl)

pub reported_at_last : (m : Measuring) → is_over m ≡ true → (r : Report) × (report_of m ≡ Some r)
reported_at_last m over = reported_stage m.progress over

-- ---- whether the measurer is over

pub none_is : {A : Type 0} (o : Option A) (b : Bool) → is_some o ≡ not b → b ≡ is_none o
none_is None true h = refl
none_is None false h = absurd cc
none_is (Some x) true h = absurd cc
none_is (Some x) false h = refl

done_at : OwnAppend → (key : List ℕ) (w : Setting) (history : List Entry) (p : Passes) → IsMeasuring key w history p → (u : Option Measuring) → p.under_way ≡ u → is_none u ≡ is_none (next_step_of w history p)
done_at append key w history p h None is = ap is_none (sym (next_over append key w history p h.so_far is))
done_at append key w history p h (Some m) is =
    let more : is_over m ≡ false = subst IsUnfinished is h.unfinished in
    let n = next_act_left w m more in
    ap is_none (sym (next_for append key w history p m n.0 n.1 h.so_far is n.2))

pub measurer_done : OwnAppend → (key : List ℕ) (w : Setting) (history : List Entry) (p : Passes) → IsMeasuring key w history p → is_none p.under_way ≡ is_none (next_step_of w history p)
measurer_done append key w history p h = done_at append key w history p h p.under_way refl

-- ---- an entry of another actor

abbrev pub OthersStand : Type 0
OthersStand = (key : List ℕ) (w : Setting) (c : Challenge) (old seen more : List Entry) (m : Measuring) → Stands key w c old seen m → IsLegal w (seen ++ more) → own more 0 1 ≡ [] → Stands key w c old (seen ++ more) m

under_later : OwnAppend → OthersStand → (key : List ℕ) (w : Setting) (rest : List Challenge) (old seen more : List Entry) (u : Option Measuring) → IsLegal w (seen ++ more) → own more 0 1 ≡ [] → IsUnderWayFor key w rest old seen u → IsUnderWayFor key w rest old (seen ++ more) u
under_later append stand key w [] old seen more None legal none h = made_more append old seen (seen ++ more) [] [] h (record { rest = more; whole = refl; own = none })
under_later append stand key w (c ∷ rest) old seen more (Some m) legal none h = stand key w c old seen more m h legal none
under_later append stand key w [] old seen more (Some m) legal none h = elim h [ ]
under_later append stand key w (c ∷ rest) old seen more None legal none h = elim h [ ]

pub others_measuring : OwnAppend → ReportStays → NoteStays → OthersStand → (key : List ℕ) (w : Setting) (seen more : List Entry) (p : Passes) → IsSetting w → IsLegal w (seen ++ more) → own more 0 1 ≡ [] → (length seen ≡ w.cap → ⊥)
    → IsMeasuring key w seen p → IsMeasuring key w (seen ++ more) p
others_measuring append reports notes stand key w seen more p setting legal none room h =
    let s = h.so_far in
    record {
      so_far = record {
        done = s.done;
        rest = s.rest;
        old = s.old;
        challenges = s.challenges;
        valid = s.valid;
        room = s.room;
        entries = s.entries;
        ends = over_later reports notes key w seen more s.done p.ends.items setting legal s.ends;
        under_way = under_later append stand key w s.rest s.old seen more p.under_way legal none s.under_way;
        stopped = λ stop. absurd (room (s.stopped stop));
      };
      unfinished = h.unfinished;
    }
