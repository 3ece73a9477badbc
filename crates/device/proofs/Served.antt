-- How the measurements of a device go on over a port, where others make entries between the measurer's.
use Rattle.std.proofs.Common.{◌≡◌, ℕ, true, false, List, [], ◌∷◌, ◌++◌, Option, Some, None, sym, ap, ◌∙◌, subst, append_assoc, arith}
use Rattle.std.proofs.lemmas.Bool.{false≢true}
use Rattle.history.specs.declared.events.Entry.{Entry}
use Rattle.history.specs.Layout.{Setting, IsSetting}
use Rattle.history.specs.Legal.{IsLegal}
use Rattle.challenge.specs.declared.Challenge.{Challenge}
use Rattle.chronicle.specs.declared.answers.Step.TheVariants as step
use Rattle.chronicle.specs.Ports.{OthersFollow, entry_by}
use Rattle.measure.specs.declared.stepping.Measuring.{Measuring}
use Rattle.measure.specs.Program.{HasMade}
use Rattle.measure.specs.Stepping.{TakesStep, Stands, is_over}
use Rattle.turn_cell.specs.Cells.{Cell, Token, longer_list}
use Rattle.device.specs.declared.slots.Slot.{Slot}
use Rattle.device.specs.declared.passes.Passes.{Passes}
use Rattle.device.specs.Keeping.{AreOver, IsMeasuring, IsSteppingOn, IsUnderWayFor}
use Rattle.device.specs.Threads.{HasRunAll, HasRunRange, HasServed, MayRunAll}
use Rattle.device.proofs.Entries.{OwnAppend, OwnNone}
use Rattle.device.proofs.Measurements.{NoteStays, ReportStays, first_under_way, made_more, over_later, passes_with}
use Rattle.device.proofs.Joined.{GoneMore, GoneOthers, WaitsLater, full_stays, legal_longer, lower_half, runs_later, same_pass, upper_half}

abbrev pub StandsOn : List ℕ → Setting → List Entry → List Entry → Measuring → Measuring → Type 0
StandsOn key w old new m after = (c : Challenge) (first : List Entry) → Stands key w c first old m → Stands key w c first new after

-- what is over stays right on a legal list that goes on from the old one
ends_later : ReportStays → NoteStays → (key : List ℕ) (w : Setting) (old new more : List Entry) (p : Passes) → (s : IsSteppingOn key w old p) → IsSetting w → IsLegal w new → new ≡ old ++ more → AreOver key w new s.done p.ends.items
ends_later reports notes key w old new more p s setting legal grown =
    subst (λ h. AreOver key w h s.done p.ends.items) (sym grown) (over_later reports notes key w old more s.done p.ends.items setting (subst (IsLegal w) grown legal) s.ends)

-- after an entry of the measurer's
pub served_made : ReportStays → NoteStays → (key : List ℕ) (w : Setting) (old new : List Entry) (p : Passes) (m after : Measuring) (place : ℕ) → IsSteppingOn key w old p → p.under_way ≡ Some m → p.tally.stopped ≡ false → IsSetting w → IsLegal w new
    → TakesStep w old new m after (step.Done place) → StandsOn key w old new m after → IsSteppingOn key w new (passes_with p after p.tally)
served_made reports notes key w old new p m after place s is run setting legal turned on =
    let adds = turned.2.0 in
    let f = first_under_way key w old p m s is in
    record {
      done = s.done;
      rest = s.rest;
      old = s.old;
      challenges = s.challenges;
      valid = s.valid;
      room = s.room;
      entries = s.entries;
      ends = ends_later reports notes key w old new (adds.between ++ entry_by 0 turned.0 ∷ []) p s setting legal (adds.whole ∙ append_assoc old adds.between (entry_by 0 turned.0 ∷ []));
      under_way = subst (λ l. IsUnderWayFor key w l s.old new (Some after)) (sym f.first) (on f.c s.old f.stands);
      stopped = λ stop. absurd (false≢true (sym run ∙ stop));
    }

-- at a full history
pub served_full : ReportStays → NoteStays → (key : List ℕ) (w : Setting) (old new : List Entry) (p : Passes) (m after : Measuring) (place : ℕ) → IsSteppingOn key w old p → p.under_way ≡ Some m → is_over m ≡ false → IsSetting w → IsLegal w new
    → TakesStep w old new m after (step.Full place) → StandsOn key w old new m after → IsMeasuring key w new (passes_with p after (record (p.tally) { stopped = true }))
served_full reports notes key w old new p m after place s is more setting legal turned on =
    let full = turned.1 in
    let f = first_under_way key w old p m s is in
    record {
      so_far = record {
        done = s.done;
        rest = s.rest;
        old = s.old;
        challenges = s.challenges;
        valid = s.valid;
        room = s.room;
        entries = s.entries;
        ends = ends_later reports notes key w old new (full.0.rest) p s setting legal full.0.whole;
        under_way = subst (λ l. IsUnderWayFor key w l s.old new (Some after)) (sym f.first) (on f.c s.old f.stands);
        stopped = λ stop. sym full.2 ∙ full.1;
      };
      unfinished = ap is_over turned.0 ∙ more;
    }

-- a measurement under way stands somewhere
pub stands_somewhere : (key : List ℕ) (w : Setting) (history : List Entry) (p : Passes) (m : Measuring) → IsSteppingOn key w history p → p.under_way ≡ Some m
    → (c : Challenge) × (old : List Entry) × Stands key w c old history m
stands_somewhere key w history p m s is = let f = first_under_way key w history p m s is in (f.c, s.old, f.stands)

-- ---- while others go on

abbrev pub StandsFollowed : Type 0
StandsFollowed = (key : List ℕ) (w : Setting) (c : Challenge) (old seen new : List Entry) (m : Measuring) → Stands key w c old seen m → IsLegal w new → OthersFollow 0 1 seen new → Stands key w c old new m

none_made : OwnNone → (old new : List Entry) → OthersFollow 0 1 old new → HasMade old new []
none_made none old new f = record { rest = f.rest; whole = f.whole; own = none 0 1 f.rest f.beyond }

under_followed : OwnAppend → OwnNone → StandsFollowed → (key : List ℕ) (w : Setting) (rest : List Challenge) (old seen new : List Entry) (u : Option Measuring) → IsLegal w new → OthersFollow 0 1 seen new → IsUnderWayFor key w rest old seen u → IsUnderWayFor key w rest old new u
under_followed append none followed key w [] old seen new None legal f h = made_more append old seen new [] [] h (none_made none seen new f)
under_followed append none followed key w (c ∷ rest) old seen new (Some m) legal f h = followed key w c old seen new m h legal f
under_followed append none followed key w [] old seen new (Some m) legal f h = elim h [ ]
under_followed append none followed key w (c ∷ rest) old seen new None legal f h = elim h [ ]

-- the measurements stand as they stood
pub measuring_followed : OwnAppend → OwnNone → ReportStays → NoteStays → StandsFollowed → (key : List ℕ) (w : Setting) (seen new : List Entry) (p : Passes) → IsSetting w → IsLegal w new → OthersFollow 0 1 seen new
    → IsMeasuring key w seen p → IsMeasuring key w new p
measuring_followed append none reports notes followed key w seen new p setting legal f h =
    let s = h.so_far in
    record {
      so_far = record {
        done = s.done;
        rest = s.rest;
        old = s.old;
        challenges = s.challenges;
        valid = s.valid;
        room = s.room;
        entries = s.entries;
        ends = ends_later reports notes key w seen new f.rest p s setting legal f.whole;
        under_way = under_followed append none followed key w s.rest s.old seen new p.under_way legal f s.under_way;
        stopped = λ stop. full_stays w seen new f.rest f.whole legal (s.stopped stop);
      };
      unfinished = h.unfinished;
    }

-- ---- all actors

pub joined_all : OwnAppend → OwnNone → ReportStays → NoteStays → StandsFollowed → GoneOthers → GoneMore → WaitsLater → (memory : Cell) (pass left right joined : Token) (key : List ℕ) (slots slot_afters : List Slot) (p after : Passes) → MayRunAll memory pass key slots p
    → HasServed memory (lower_half pass 1) left key p after → HasRunRange memory (upper_half pass 1) right slots slot_afters
    → joined ≡ record left { seen = longer_list left.seen right.seen; high = right.high } → OthersFollow left.low left.high left.seen joined.seen → OthersFollow right.low right.high right.seen joined.seen
    → HasRunAll memory pass joined key slots slot_afters p after
joined_all append none reports notes followed others more later memory pass left right joined key slots slot_afters p after may first second is after_left after_right =
    let w = memory.world in
    let left_low : left.low ≡ pass.low = ap (λ t. t.low) first.pass in
    let left_high : left.high ≡ 1 = ap (λ t. t.high) first.pass in
    let right_low : right.low ≡ 1 = ap (λ t. t.low) second.pass in
    let right_high : right.high ≡ pass.high = ap (λ t. t.high) second.pass in
    let seen : joined.seen ≡ longer_list left.seen right.seen = ap (λ t. t.seen) is in
    let legal : IsLegal w joined.seen = subst (IsLegal w) (sym seen) (legal_longer w left.seen right.seen first.legal second.legal) in
    let beside_left : OthersFollow 0 1 left.seen joined.seen = subst (λ n. OthersFollow n 1 left.seen joined.seen) (left_low ∙ may.first) (subst (λ n. OthersFollow left.low n left.seen joined.seen) left_high after_left) in
    let beside_right : OthersFollow 1 pass.high right.seen joined.seen = subst (λ n. OthersFollow n pass.high right.seen joined.seen) right_low (subst (λ n. OthersFollow right.low n right.seen joined.seen) right_high after_right) in
    record {
      measurer = record {
        pass = same_pass joined pass (ap (λ t. t.cell) is ∙ ap (λ t. t.cell) first.pass) (ap (λ t. t.low) is ∙ left_low) (ap (λ t. t.high) is ∙ right_high);
        setting = first.setting;
        legal = legal;
        challenges = first.challenges;
        stands = measuring_followed append none reports notes followed key w left.seen joined.seen after first.setting legal beside_left first.stands;
        done = first.done;
      };
      applications = runs_later others more later w 1 pass.high 1 pass.seen right.seen joined.seen slots slot_afters (omega arith) (omega (arith, may.range)) beside_right legal second.run;
    }
