-- How runs go on from one list to a longer one. The laws of the crates below come in as premises.
use Rattle.std.proofs.Common.{◌≡◌, ℕ, ◌<◌, List, [], ◌∷◌, ◌++◌, length, take, reverse, Some, refl, sym, ap, ◌∙◌, subst, append_assoc, append-nil, arith}
use Rattle.std.proofs.Math.Seq.{take-length}
use Rattle.std.proofs.lemmas.List.{take-append-le, length-append}
use Rattle.std.specs.Prelude.{IsTrue}
use Rattle.history.specs.declared.events.Act.{Act}
use Rattle.history.specs.declared.events.Entry.{Entry}
use Rattle.history.specs.Layout.{Setting, block_of}
use Rattle.history.specs.Memory.{own}
use Rattle.history.specs.Locks.{is_locked}
use Rattle.rv_core.specs.Runs.{AppProgram, ProgramState, IsBegunRun}
use Rattle.rv_core.specs.Waits.{goes_on}
use Rattle.chronicle.specs.Ports.{AddsEntry, OthersFollow, entry_by}
use Rattle.app_thread.specs.declared.turns.Turn.{Turn}
use Rattle.app_thread.specs.declared.turns.Turn.TheVariants as turn
use Rattle.app_thread.specs.Turns.{FindsLocked, HasTurned}
use Rattle.app_thread.specs.WholeRuns.{GoesOn, WaitsAt}
use Rattle.app_thread.proofs.Turned.{OwnStays, OwnGrows, RunsGrow, begun_grows}

abbrev pub OwnAppends : Type 0
OwnAppends = (a b : List Entry) (low high : ℕ) → own (a ++ b) low high ≡ own a low high ++ own b low high

-- the run stays where there is no own entry
same_run : (start : AppProgram) (entries mine : List Entry) (before after : ProgramState) → mine ≡ [] → after ≡ before → IsBegunRun start entries before → IsBegunRun start (entries ++ mine) after
same_run start entries mine before after none same begun =
    subst (IsBegunRun start (entries ++ mine)) (sym same) (subst (λ l. IsBegunRun start l before) (sym (ap (λ l. entries ++ l) none ∙ append-nil entries)) begun)

pub gone_none : (low high : ℕ) (history : List Entry) (before after : ProgramState) → after ≡ before → GoesOn low high history history before after
gone_none low high history before after same = record {
  rest = [];
  whole = sym (append-nil history);
  begun = λ start entries begun. same_run start entries [] before after refl same begun;
}

pub gone_more : OwnAppends → (low high : ℕ) (first second third : List Entry) (before middle after : ProgramState) → GoesOn low high first second before middle → GoesOn low high second third middle after → GoesOn low high first third before after
gone_more appends low high first second third before middle after a b = record {
  rest = a.rest ++ b.rest;
  whole = b.whole ∙ ap (λ l. l ++ b.rest) a.whole ∙ append_assoc first a.rest b.rest;
  begun = λ start entries begun.
      subst (λ l. IsBegunRun start l after) (append_assoc entries (own a.rest low high) (own b.rest low high) ∙ ap (λ l. entries ++ l) (sym (appends a.rest b.rest low high)))
      (b.begun start (entries ++ own a.rest low high) (a.begun start entries begun));
}

-- others' entries change nothing
pub gone_others : OwnStays → (low high : ℕ) (old new : List Entry) (before after : ProgramState) → OthersFollow low high old new → after ≡ before → GoesOn low high old new before after
gone_others stays low high old new before after f same = record {
  rest = f.rest;
  whole = f.whole;
  begun = λ start entries begun. same_run start entries (own f.rest low high) before after (stays low high [] f.rest (record { rest = f.rest; whole = refl; beyond = f.beyond })) same begun;
}

-- the own entry goes on
gone_added : OwnGrows → RunsGrow → (low high : ℕ) (old new : List Entry) (before after : ProgramState) (act : Act) → low < high → AddsEntry low high old new (entry_by low act) → goes_on before act ≡ Some after → GoesOn low high old new before after
gone_added adds grows low high old new before after act some a goes =
    let rest = a.between ++ entry_by low act ∷ [] in
    let one : own rest low high ≡ entry_by low act ∷ [] = adds low high [] rest (entry_by low act) (record { between = a.between; whole = refl; beyond = a.beyond }) (omega arith) some in
    record {
      rest = rest;
      whole = a.whole ∙ append_assoc old a.between (entry_by low act ∷ []);
      begun = λ start entries begun. begun_grows grows start entries (entries ++ own rest low high) (entry_by low act) before after (ap (λ l. entries ++ l) one) goes begun;
    }

pub gone_turn : OwnStays → OwnGrows → RunsGrow → (w : Setting) (low high : ℕ) (old new : List Entry) (before after : ProgramState) (how : Turn) → low < high → HasTurned w low high old new before after how → GoesOn low high old new before after
gone_turn stays adds grows w low high old new before after (turn.Over ending) some h = subst (λ l. GoesOn low high old l before after) (sym h.2) (gone_none low high old before after h.1)
gone_turn stays adds grows w low high old new before after (turn.Made kind place) some h = gone_added adds grows low high old new before after h.0 some h.2.0 h.1.goes
gone_turn stays adds grows w low high old new before after (turn.Again place) some h = gone_others stays low high old new before after h.0.again.0 h.1
gone_turn stays adds grows w low high old new before after (turn.Full place) some h = gone_others stays low high old new before after h.1.0 h.2

-- the own entries of the longer list are those of the old one and of the rest
pub gone_own : OwnAppends → (low high : ℕ) (old new : List Entry) (before after : ProgramState) (start : AppProgram) → GoesOn low high old new before after → IsBegunRun start (own old low high) before → IsBegunRun start (own new low high) after
gone_own appends low high old new before after start g begun =
    subst (λ l. IsBegunRun start l after) (sym (ap (λ l. own l low high) g.whole ∙ appends old g.rest low high)) (g.begun start (own old low high) begun)

-- ---- a place at which a store waited

pub waits_there : OwnStays → (w : Setting) (low high : ℕ) (old new : List Entry) (at : ProgramState) (place : ℕ) → FindsLocked w low high old new at place → WaitsAt w low high old new at place
waits_there stays w low high old new at place f =
    let here : place ≡ length new = f.again.1 in
    let whole : take place new ≡ new = ap (λ n. take n new) here ∙ take-length new in
    record {
      at = at;
      addr = f.addr;
      width = f.width;
      value = f.value;
      within = omega arith;
      below = subst (λ n. n < w.cap) (sym here) f.again.2;
      gone = subst (λ l. GoesOn low high old l at at) (sym whole) (gone_others stays low high old new at at f.again.0 refl);
      asked = f.asked;
      locked = subst (λ l. IsTrue (is_locked w (reverse l) (block_of w.layout f.addr))) (sym whole) f.again.3;
    }

later_part : (w : Setting) (low high : ℕ) (old mid more : List Entry) (before : ProgramState) (place : ℕ) → WaitsAt w low high old mid before place → WaitsAt w low high old (mid ++ more) before place
later_part w low high old mid more before place a =
    let same : take place (mid ++ more) ≡ take place mid = take-append-le place mid more a.within in
    let longer = length-append mid more in
    record {
      at = a.at;
      addr = a.addr;
      width = a.width;
      value = a.value;
      within = omega (arith, a.within, longer);
      below = a.below;
      gone = subst (λ l. GoesOn low high old l before a.at) (sym same) a.gone;
      asked = a.asked;
      locked = subst (λ l. IsTrue (is_locked w (reverse l) (block_of w.layout a.addr))) (sym same) a.locked;
    }

pub waits_later : (w : Setting) (low high : ℕ) (old mid new : List Entry) (before middle after : ProgramState) (place : ℕ) → WaitsAt w low high old mid before place → GoesOn low high mid new middle after → WaitsAt w low high old new before place
waits_later w low high old mid new before middle after place a g =
    subst (λ l. WaitsAt w low high old l before place) (sym g.whole) (later_part w low high old mid g.rest before place a)

pub waits_earlier : OwnAppends → (w : Setting) (low high : ℕ) (old mid new : List Entry) (before middle : ProgramState) (place : ℕ) → GoesOn low high old mid before middle → WaitsAt w low high mid new middle place → WaitsAt w low high old new before place
waits_earlier appends w low high old mid new before middle place g a = record {
  at = a.at;
  addr = a.addr;
  width = a.width;
  value = a.value;
  within = a.within;
  below = a.below;
  gone = gone_more appends low high old mid (take place new) before middle a.at g a.gone;
  asked = a.asked;
  locked = a.locked;
}
