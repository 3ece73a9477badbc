-- What was counted of two parts of a run, together; and how a run over a port goes on.
use Rattle.std.proofs.Common.{◌≡◌, ℕ, ◌<◌, ◌↔◌, List, Option, Some, None, IfSome, refl, sym, subst, arith}
use Rattle.history.specs.declared.events.Entry.{Entry}
use Rattle.history.specs.Layout.{Setting}
use Rattle.history.specs.Legal.{IsLegal}
use Rattle.rv_core.specs.Runs.{ProgramState}
use Rattle.app_thread.specs.declared.turns.Turn.{Turn}
use Rattle.app_thread.specs.declared.turns.Turn.TheVariants as turn
use Rattle.app_thread.specs.Turns.{FindsLocked, HasTurned}
use Rattle.app_thread.specs.WholeRuns.{GoesOn, HasWaited, WaitsAt}

abbrev pub WaitsLater : Type 0
WaitsLater = (w : Setting) (low high : ℕ) (old mid new : List Entry) (before middle after : ProgramState) (place : ℕ) → WaitsAt w low high old mid before place → GoesOn low high mid new middle after → WaitsAt w low high old new before place

abbrev pub WaitsEarlier : Type 0
WaitsEarlier = (w : Setting) (low high : ℕ) (old mid new : List Entry) (before middle : ProgramState) (place : ℕ) → GoesOn low high old mid before middle → WaitsAt w low high mid new middle place → WaitsAt w low high old new before place

-- how two counts make one
pub record IsBoth (count : ℕ) (last : Option ℕ) (later : ℕ) (later_last : Option ℕ) (all : ℕ) (all_last : Option ℕ) : Type 0 where
  pub none : later_last ≡ None → all_last ≡ last
  pub one : (place : ℕ) → later_last ≡ Some place → all_last ≡ Some place
  pub counts : ((count ≡ 0) ↔ (last ≡ None)) → ((later ≡ 0) ↔ (later_last ≡ None)) → ((all ≡ 0) ↔ (all_last ≡ None))

pub waited_none : (w : Setting) (low high : ℕ) (old new : List Entry) (before : ProgramState) → HasWaited w low high old new before 0 None
waited_none w low high old new before = record { none = (λ _. refl, λ _. refl); last = tt }

later_of : WaitsLater → (w : Setting) (low high : ℕ) (old mid new : List Entry) (before middle after : ProgramState) (last : Option ℕ) → GoesOn low high mid new middle after
    → IfSome last (λ place. WaitsAt w low high old mid before place) → IfSome last (λ place. WaitsAt w low high old new before place)
later_of later w low high old mid new before middle after None g h = tt
later_of later w low high old mid new before middle after (Some place) g h = later w low high old mid new before middle after place h g

last_of : WaitsLater → WaitsEarlier → (w : Setting) (low high : ℕ) (old mid new : List Entry) (before middle after : ProgramState) → GoesOn low high old mid before middle → GoesOn low high mid new middle after
    → (last next all : Option ℕ) → (next ≡ None → all ≡ last) → ((place : ℕ) → next ≡ Some place → all ≡ Some place)
    → IfSome last (λ place. WaitsAt w low high old mid before place) → IfSome next (λ place. WaitsAt w low high mid new middle place) → IfSome all (λ place. WaitsAt w low high old new before place)
last_of later earlier w low high old mid new before middle after g k last None all none one a b =
    subst (λ (o : Option ℕ). IfSome o (λ place. WaitsAt w low high old new before place)) (sym (none refl)) (later_of later w low high old mid new before middle after last k a)
last_of later earlier w low high old mid new before middle after g k last (Some place) all none one a b =
    subst (λ (o : Option ℕ). IfSome o (λ p. WaitsAt w low high old new before p)) (sym (one place refl)) (earlier w low high old mid new before middle place g b)

pub waited_more : WaitsLater → WaitsEarlier → (w : Setting) (low high : ℕ) (old mid new : List Entry) (before middle after : ProgramState) (count : ℕ) (last : Option ℕ) (later : ℕ) (next : Option ℕ) (all : ℕ) (all_last : Option ℕ)
    → GoesOn low high old mid before middle → GoesOn low high mid new middle after → HasWaited w low high old mid before count last → HasWaited w low high mid new middle later next → IsBoth count last later next all all_last
    → HasWaited w low high old new before all all_last
waited_more sooner earlier w low high old mid new before middle after count last later next all all_last g k a b both = record {
  none = both.counts a.none b.none;
  last = last_of sooner earlier w low high old mid new before middle after g k last next all_last both.none both.one a.last b.last;
}

-- ---- one turn more, and one part of a run more: the port's world and range are what they were

abbrev pub GoneMore : Type 0
GoneMore = (low high : ℕ) (first second third : List Entry) (before middle after : ProgramState) → GoesOn low high first second before middle → GoesOn low high second third middle after → GoesOn low high first third before after

abbrev pub GoneTurn : Type 0
GoneTurn = (w : Setting) (low high : ℕ) (old new : List Entry) (before after : ProgramState) (how : Turn) → low < high → HasTurned w low high old new before after how → GoesOn low high old new before after

abbrev pub WaitsThere : Type 0
WaitsThere = (w : Setting) (low high : ℕ) (old new : List Entry) (at : ProgramState) (place : ℕ) → FindsLocked w low high old new at place → WaitsAt w low high old new at place

-- the store was asked, and others alone have made entries
pub record IsAskedAgain (w : Setting) (low high : ℕ) (old new : List Entry) (start after : ProgramState) (all : ℕ) (all_last : Option ℕ) : Type 0 where
  pub app : after ≡ start
  pub legal : IsLegal w new
  pub gone : GoesOn low high old new start start
  pub waited : HasWaited w low high old new start all all_last

no_none : (place : ℕ) (next : Option ℕ) → next ≡ Some place → next ≡ None → ⊥
no_none place next is none = cc

-- one store that has waited
one_waited : WaitsThere → (w : Setting) (low high : ℕ) (mid new : List Entry) (at : ProgramState) (place later : ℕ) (next : Option ℕ) → later ≡ 1 → next ≡ Some place → FindsLocked w low high mid new at place → HasWaited w low high mid new at later next
one_waited there w low high mid new at place later next one is f = record {
  none = (λ e. absurd (omega arith), λ e. absurd (no_none place next is e));
  last = subst (λ (o : Option ℕ). IfSome o (λ p. WaitsAt w low high mid new at p)) (sym is) (there w low high mid new at place f);
}

same_port : (w v : Setting) (low low' high high' : ℕ) (mid new : List Entry) (before after : ProgramState) (how : Turn) → v ≡ w → low' ≡ low → high' ≡ high → HasTurned v low' high' mid new before after how → HasTurned w low high mid new before after how
same_port w v low low' high high' mid new before after how world from upto t =
    subst (λ x. HasTurned x low high mid new before after how) world (subst (λ x. HasTurned v x high mid new before after how) from (subst (λ x. HasTurned v low' x mid new before after how) upto t))

pub asked_again : GoneMore → GoneTurn → WaitsThere → WaitsLater → WaitsEarlier → (w v : Setting) (low low' high high' : ℕ) (old mid new : List Entry) (start before after : ProgramState) (place count : ℕ) (last : Option ℕ) (later : ℕ) (next : Option ℕ) (all : ℕ) (all_last : Option ℕ)
    → low < high → v ≡ w → low' ≡ low → high' ≡ high → before ≡ start → HasTurned v low' high' mid new before after (turn.Again place) → GoesOn low high old mid start start → HasWaited w low high old mid start count last
    → later ≡ 1 → next ≡ Some place → IsBoth count last later next all all_last → IsAskedAgain w low high old new start after all all_last
asked_again more turns there sooner earlier w v low low' high high' old mid new start before after place count last later next all all_last some world from upto same t gone waited one is both =
    let here = same_port w v low low' high high' mid new before after (turn.Again place) world from upto t in
    let at_start = subst (λ x. HasTurned w low high mid new x after (turn.Again place)) same here in
    let step : GoesOn low high mid new start start = subst (λ x. GoesOn low high mid new start x) at_start.1 (turns w low high mid new start after (turn.Again place) some at_start) in
    record {
      app = at_start.1;
      legal = at_start.2;
      gone = more low high old mid new start start start gone step;
      waited = waited_more sooner earlier w low high old mid new start start start count last later next all all_last gone step waited (one_waited there w low high mid new start place later next one is at_start.0) both;
    }

-- what has waited so far stays so, however the next turn goes
pub waited_still : GoneTurn → WaitsLater → (w v : Setting) (low low' high high' : ℕ) (old mid new : List Entry) (start before after : ProgramState) (how : Turn) (count : ℕ) (last : Option ℕ)
    → low < high → v ≡ w → low' ≡ low → high' ≡ high → HasTurned v low' high' mid new before after how → HasWaited w low high old mid start count last → HasWaited w low high old new start count last
waited_still turns sooner w v low low' high high' old mid new start before after how count last some world from upto t waited = record {
  none = waited.none;
  last =
      later_of sooner w low high old mid new start before after last
      (turns w low high mid new before after how some (same_port w v low low' high high' mid new before after how world from upto t))
      waited.last;
}

pub gone_on : GoneMore → (low low' high high' : ℕ) (old mid new : List Entry) (start before after : ProgramState) → low' ≡ low → high' ≡ high → GoesOn low high old mid start before → GoesOn low' high' mid new before after → GoesOn low high old new start after
gone_on more low low' high high' old mid new start before after from upto a b =
    more low high old mid new start before after a (subst (λ x. GoesOn x high mid new before after) from (subst (λ x. GoesOn low' x mid new before after) upto b))

pub waited_on : WaitsLater → WaitsEarlier → (w v : Setting) (low low' high high' : ℕ) (old mid new : List Entry) (start before after : ProgramState) (count : ℕ) (last : Option ℕ) (later : ℕ) (next : Option ℕ) (all : ℕ) (all_last : Option ℕ)
    → v ≡ w → low' ≡ low → high' ≡ high → GoesOn low high old mid start before → GoesOn low' high' mid new before after → HasWaited w low high old mid start count last → HasWaited v low' high' mid new before later next
    → IsBoth count last later next all all_last → HasWaited w low high old new start all all_last
waited_on sooner earlier w v low low' high high' old mid new start before after count last later next all all_last world from upto a b c d both =
    waited_more sooner earlier w low high old mid new start before after count last later next all all_last a
    (subst (λ x. GoesOn x high mid new before after) from (subst (λ x. GoesOn low' x mid new before after) upto b)) c
    (subst (λ x. HasWaited x low high mid new before later next) world (subst (λ x. HasWaited v x high mid new before later next) from (subst (λ x. HasWaited v low' x mid new before later next) upto d)))
    both

pub legal_on : (w v : Setting) (old mid new : List Entry) → v ≡ w → (IsLegal w old → IsLegal w mid) → (IsLegal v mid → IsLegal v new) → IsLegal w old → IsLegal w new
legal_on w v old mid new world a b was = subst (λ x. IsLegal x new) world (b (subst (λ x. IsLegal x mid) (sym world) (a was)))
