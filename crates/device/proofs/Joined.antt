-- What holds of the parts of a run on threads holds of the whole.
use Rattle.std.proofs.Common.{◌≡◌, ℕ, suc, ◌+◌, ◌<◌, ◌≤◌, Bool, true, false, List, [], ◌∷◌, ◌++◌, length, reverse, Option, Some, None, refl, sym, ap, ◌∙◌, subst, inl, inr, arith}
use Rattle.std.specs.Prelude.{IfSome, IsSomeAnd, nat_lt, if◌then◌else◌}
use Rattle.std.proofs.lemmas.List.{length-append, length-reverse}
use Rattle.std.proofs.lemmas.List.Elements.{All-weaker}
use Rattle.history.specs.declared.events.Entry.{Entry}
use Rattle.history.specs.Layout.{Setting}
use Rattle.history.specs.Legal.{IsLegal, IsLegalBack}
use Rattle.rv_core.specs.Runs.{ProgramState}
use Rattle.chronicle.specs.Ports.{IsApplication, IsBeyond, OthersFollow}
use Rattle.app_thread.specs.declared.ends.RunEnd.{RunEnd}
use Rattle.app_thread.specs.WholeRuns.{GoesOn, HasRun, HasWaited, WaitsAt}
use Rattle.turn_cell.specs.Cells.{Cell, Token, longer_list}
use Rattle.device.specs.declared.slots.Slot.{Slot}
use Rattle.device.specs.Threads.{HasComeToEnd, HasRunAs, HasRunRange, HaveRunAs, MayRunRange}

-- ---- laws of the crates below, which come in as premises

abbrev pub GoneOthers : Type 0
GoneOthers = (low high : ℕ) (old new : List Entry) (at : ProgramState) → OthersFollow low high old new → GoesOn low high old new at at

abbrev pub GoneMore : Type 0
GoneMore = (low high : ℕ) (first second third : List Entry) (before middle after : ProgramState) → GoesOn low high first second before middle → GoesOn low high second third middle after → GoesOn low high first third before after

abbrev pub WaitsLater : Type 0
WaitsLater = (w : Setting) (low high : ℕ) (old middle new : List Entry) (before at after : ProgramState) (place : ℕ) → WaitsAt w low high old middle before place → GoesOn low high middle new at after → WaitsAt w low high old new before place

-- ---- lists that others let grow

within_cap : (w : Setting) (past : List Entry) → IsLegalBack w past → length past ≤ w.cap
within_cap w [] legal = omega arith
within_cap w (entry ∷ past) legal = omega (arith, legal.1.cap)

pub legal_within : (w : Setting) (history : List Entry) → IsLegal w history → length history ≤ w.cap
legal_within w history legal = omega (arith, within_cap w (reverse history) legal, length-reverse history)

legal_either : (w : Setting) (a b : List Entry) (second : Bool) → IsLegal w a → IsLegal w b → IsLegal w (if second then b else a)
legal_either w a b true left right = right
legal_either w a b false left right = left

pub legal_longer : (w : Setting) (a b : List Entry) → IsLegal w a → IsLegal w b → IsLegal w (longer_list a b)
legal_longer w a b left right = legal_either w a b (nat_lt (length a) (length b)) left right

beyond_one : (low high actor : ℕ) (entry : Entry) → low ≤ actor → actor < high → IsBeyond low high entry → IsBeyond actor (actor + 1) entry
beyond_one low high actor entry above below (inl before) = inl (omega (arith, above, before))
beyond_one low high actor entry above below (inr behind) = inr (omega (arith, below, behind))

-- others than a range of actors are others than each of them
pub others_than_one : (low high actor : ℕ) (old new : List Entry) → low ≤ actor → actor < high → OthersFollow low high old new → OthersFollow actor (actor + 1) old new
others_than_one low high actor old new above below f = record {
  rest = f.rest;
  whole = f.whole;
  beyond = All-weaker (IsBeyond low high) (IsBeyond actor (actor + 1)) (λ entry. beyond_one low high actor entry above below) f.rest f.beyond;
}

-- a full history is all of any legal one that goes on from it
pub full_stays : (w : Setting) (old new more : List Entry) → new ≡ old ++ more → IsLegal w new → length old ≡ w.cap → length new ≡ w.cap
full_stays w old new more whole legal full =
    let count : length new ≡ length old + length more = ap length whole ∙ length-append old more in
    omega (arith, count, full, legal_within w new legal)

-- ---- an application's run, while others go on

-- the application as its port's run leaves it
abbrev pub slot_after : Slot → ProgramState → Bool → ℕ → Option ℕ → Slot
slot_after slot at stopped waits waited = record slot { app = at; tally = record { stopped = stopped; waits = waits; waited = waited } }

pub runs_as : (w : Setting) (low high : ℕ) (old new : List Entry) (slot : Slot) (at : ProgramState) (ending : RunEnd) (waits : ℕ) (waited : Option ℕ) (stopped : Bool) → IsApplication low high → slot.app.now.core.layout ≡ w.layout → at.now.core.layout ≡ slot.app.now.core.layout
    → HasRun w low high old new slot.app at ending → HasWaited w low high old new slot.app waits waited → HasComeToEnd w new at stopped → HasRunAs w low old new slot (slot_after slot at stopped waits waited)
runs_as w low high old new slot at ending waits waited stopped one before after run wait end = record {
  rest = refl;
  layout = after ∙ before;
  gone = subst (λ n. GoesOn low n old new slot.app at) one.2 run.gone;
  end = end;
  waited = subst (λ n. HasWaited w low n old new slot.app waits waited) one.2 wait;
}

end_later : (w : Setting) (old new more : List Entry) (at : ProgramState) (stopped : Bool) → new ≡ old ++ more → IsLegal w new → HasComeToEnd w old at stopped → HasComeToEnd w new at stopped
end_later w old new more at true whole legal h = (h.0, full_stays w old new more whole legal h.1)
end_later w old new more at false whole legal h = h

waited_later : WaitsLater → (w : Setting) (low high : ℕ) (old middle new : List Entry) (before after : ProgramState) (waited : Option ℕ) → GoesOn low high middle new after after
    → IfSome waited (λ place. WaitsAt w low high old middle before place) → IfSome waited (λ place. WaitsAt w low high old new before place)
waited_later later w low high old middle new before after None gone h = tt
waited_later later w low high old middle new before after (Some place) gone h = later w low high old middle new before after after place h gone

pub run_later : GoneOthers → GoneMore → WaitsLater → (w : Setting) (low high actor : ℕ) (old middle new : List Entry) (before after : Slot) → low ≤ actor → actor < high → OthersFollow low high middle new → IsLegal w new
    → HasRunAs w actor old middle before after → HasRunAs w actor old new before after
run_later others more later w low high actor old middle new before after above below f legal run =
    let same = others actor (actor + 1) middle new after.app (others_than_one low high actor middle new above below f) in
    record {
      rest = run.rest;
      layout = run.layout;
      gone = more actor (actor + 1) old middle new before.app after.app after.app run.gone same;
      end = end_later w middle new f.rest after.app after.tally.stopped f.whole legal run.end;
      waited = record {
        none = run.waited.none;
        last = waited_later later w actor (actor + 1) old middle new before.app after.app after.tally.waited same run.waited.last;
      };
    }

pub runs_later : GoneOthers → GoneMore → WaitsLater → (w : Setting) (low high actor : ℕ) (old middle new : List Entry) (befores afters : List Slot) → low ≤ actor → actor + length befores ≤ high → OthersFollow low high middle new → IsLegal w new
    → HaveRunAs w actor old middle befores afters → HaveRunAs w actor old new befores afters
runs_later others more later w low high actor old middle new [] [] above below f legal run = tt
runs_later others more later w low high actor old middle new (before ∷ befores) (after ∷ afters) above below f legal run = (
  run_later others more later w low high actor old middle new before after above (omega (arith, below)) f legal run.0,
  runs_later others more later w low high (suc actor) old middle new befores afters (omega (arith, above)) (omega (arith, below)) f legal run.1,
)
runs_later others more later w low high actor old middle new [] (after ∷ afters) above below f legal run = elim run [ ]
runs_later others more later w low high actor old middle new (before ∷ befores) [] above below f legal run = elim run [ ]

-- ---- the applications of two halves

pub both_run : (w : Setting) (actor next : ℕ) (old new : List Entry) (front front_after back back_after : List Slot) → next ≡ actor + length front
    → HaveRunAs w actor old new front front_after → HaveRunAs w next old new back back_after → HaveRunAs w actor old new (front ++ back) (front_after ++ back_after)
both_run w actor next old new [] [] back back_after meet first second =
    let same : next ≡ actor = omega (arith, meet) in subst (λ n. HaveRunAs w n old new back back_after) same second
both_run w actor next old new (before ∷ front) (after ∷ front_after) back back_after meet first second =
    let meets : next ≡ suc actor + length front = omega (arith, meet) in
    (first.0, both_run w (suc actor) next old new front front_after back back_after meets first.1 second)
both_run w actor next old new [] (after ∷ front_after) back back_after meet first second = elim first [ ]
both_run w actor next old new (before ∷ front) [] back back_after meet first second = elim first [ ]

-- one application alone
pub one_run : (w : Setting) (actor : ℕ) (old new : List Entry) (before after : Slot) → HasRunAs w actor old new before after → HaveRunAs w actor old new (before ∷ []) (after ∷ [])
one_run w actor old new before after run = (run, tt)

-- ---- a range that was halved

-- a pass that is like another but for what it has seen
abbrev pub with_parts : Cell → ℕ → ℕ → List Entry → Token
with_parts cell low high seen = record { cell = cell; seen = seen; low = low; high = high }

pub same_pass : (a b : Token) → a.cell ≡ b.cell → a.low ≡ b.low → a.high ≡ b.high → a ≡ record b { seen = a.seen }
same_pass a b cell low high =
    ap (λ c. with_parts c a.low a.high a.seen) cell ∙ ap (λ n. with_parts b.cell n a.high a.seen) low ∙ ap (λ n. with_parts b.cell b.low n a.seen) high

abbrev pub lower_half : Token → ℕ → Token
lower_half pass middle = record pass { high = middle }

abbrev pub upper_half : Token → ℕ → Token
upper_half pass middle = record pass { low = middle }

pub joined_run : GoneOthers → GoneMore → WaitsLater → (memory : Cell) (pass left right joined : Token) (middle : ℕ) (slots front back front_after back_after : List Slot) → MayRunRange memory pass slots
    → slots ≡ front ++ back → middle ≡ pass.low + length front
    → HasRunRange memory (lower_half pass middle) left front front_after → HasRunRange memory (upper_half pass middle) right back back_after
    → joined ≡ record left { seen = longer_list left.seen right.seen; high = right.high } → OthersFollow left.low left.high left.seen joined.seen → OthersFollow right.low right.high right.seen joined.seen
    → HasRunRange memory pass joined slots (front_after ++ back_after)
joined_run others more later memory pass left right joined middle slots front back front_after back_after may split meet first second is after_left after_right =
    let w = memory.world in
    let left_low : left.low ≡ pass.low = ap (λ t. t.low) first.pass in
    let left_high : left.high ≡ middle = ap (λ t. t.high) first.pass in
    let right_low : right.low ≡ middle = ap (λ t. t.low) second.pass in
    let right_high : right.high ≡ pass.high = ap (λ t. t.high) second.pass in
    let seen : joined.seen ≡ longer_list left.seen right.seen = ap (λ t. t.seen) is in
    let legal : IsLegal w joined.seen = subst (IsLegal w) (sym seen) (legal_longer w left.seen right.seen first.legal second.legal) in
    let beside_left : OthersFollow pass.low middle left.seen joined.seen = subst (λ n. OthersFollow n middle left.seen joined.seen) left_low (subst (λ n. OthersFollow left.low n left.seen joined.seen) left_high after_left) in
    let beside_right : OthersFollow middle pass.high right.seen joined.seen = subst (λ n. OthersFollow n pass.high right.seen joined.seen) right_low (subst (λ n. OthersFollow right.low n right.seen joined.seen) right_high after_right) in
    let count : length slots ≡ length front + length back = ap length split ∙ length-append front back in
    let fronts = runs_later others more later w pass.low middle pass.low pass.seen left.seen joined.seen front front_after (omega arith) (omega (arith, meet)) beside_left legal first.run in
    let backs = runs_later others more later w middle pass.high middle pass.seen right.seen joined.seen back back_after (omega arith) (omega (arith, meet, count, may.range)) beside_right legal second.run in
    record {
      pass = same_pass joined pass (ap (λ t. t.cell) is ∙ ap (λ t. t.cell) first.pass) (ap (λ t. t.low) is ∙ left_low) (ap (λ t. t.high) is ∙ right_high);
      legal = legal;
      run = subst (λ s. HaveRunAs w pass.low pass.seen joined.seen s (front_after ++ back_after)) (sym split) (both_run w pass.low middle pass.seen joined.seen front front_after back back_after meet fronts backs);
    }

-- ---- a pass that a closure takes

pub none_taken : {A : Type 0} (P : A → Type 0) (o : Option A) → IsSomeAnd o P → o ≡ None → ⊥
none_taken P None h is = h
none_taken P (Some x) h is = absurd cc

pub some_taken : {A : Type 0} (P : A → Type 0) (o : Option A) (x : A) → IsSomeAnd o P → o ≡ Some x → P x
some_taken {A = A} P o x h is = subst (λ (a : Option A). IsSomeAnd a P) is h
