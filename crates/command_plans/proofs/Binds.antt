-- What comes of one step and then the next, from what the code answers of each. The crates of the commands use this.
use Rattle.std.proofs.Common.{◌≡◌, ℕ, List, [], ◌++◌, Option, None, Some, Result, Ok, Err, refl, sym, ap, ◌∙◌, subst, append_assoc}
use Rattle.std.proofs.lemmas.List.{append-nil}
use Rattle.std.specs.Result.{IsErrAnd}
use Rattle.att_base.specs.Files.{Contents, FilesView, asked_more}
use Rattle.command_plans.specs.declared.output.Stop.{Stop}
use Rattle.command_plans.specs.declared.output.Stop.TheVariants.{Absent, Fault, Bad, Memory}
use Rattle.command_plans.specs.Steps.{Reason, CommandStep, exactly, given, spent, Then}
use Rattle.command_plans.specs.Answered.{reason_of, came_of, CountsCame, ReadsBy, IsQuiet, Gives}

-- the first step stopped
pub stopped : {A B : Type 0} (first : Option Contents → CommandStep A) (next : A → Option Contents → CommandStep B) (reason : Reason) (old new : FilesView)
    → ReadsBy first (Err reason) old new → ReadsBy {A = B} (λ files. Then (first files) (λ a. next a files)) (Err reason) old new
stopped first next reason old new r = record {
  names = r.names;
  comes = record { before = r.names; between = Err reason; is = r.comes; behind = []; follows = (refl, refl); all = sym (append-nil r.names) };
  asked = r.asked;
  same = r.same;
  counted = r.counted;
}

-- the first step stopped, and what it stopped for is what is answered
pub stops : {V A B : Type 0} (first : Option Contents → CommandStep A) (next : A → Option Contents → CommandStep B) (view : V → B) (result : Result V Stop) (stop : Stop) (old new : FilesView)
    → IsErrAnd result (λ e. e ≡ stop) → ReadsBy first (Err (reason_of stop)) old new → ReadsBy (λ files. Then (first files) (λ a. next a files)) (came_of view result) old new
stops first next view (Ok v) stop old new is r = absurd is
stops first next view (Err e) stop old new is r = rw is (stopped first next (reason_of stop) old new r)

asked_twice : (a b : List (List ℕ)) (o : Option (List (List ℕ))) → asked_more b (asked_more a o) ≡ asked_more (a ++ b) o
asked_twice a b None = refl
asked_twice a b (Some before) = ap (λ (names : List (List ℕ)). Some names) (append_assoc before a b)

asked_nothing : (o : Option (List (List ℕ))) → o ≡ asked_more [] o
asked_nothing None = refl
asked_nothing (Some before) = ap (λ (names : List (List ℕ)). Some names) (sym (append-nil before))

counted_before : {A : Type 0} (came : Result A Reason) (held held' : Option Contents) (before before' now : ℕ) → held ≡ held' → before ≡ before' → CountsCame came held before now → CountsCame came held' before' now
counted_before came held held' before before' now same count counted = rw (same, count) at counted

-- the first step gave a value, and then this came of the next
pub goes_on : {A B : Type 0} (first : Option Contents → CommandStep A) (next : A → Option Contents → CommandStep B) (a : A) (came : Result B Reason) (old mid new : FilesView)
    → ReadsBy first (Ok a) old mid → ReadsBy (next a) came mid new → ReadsBy (λ files. Then (first files) (λ v. next v files)) came old new
goes_on first next a came old mid new r s =
    let P : Option Contents → Type 0 = λ held. next a held s.names came in
    record {
      names = r.names ++ s.names;
      comes = record { before = r.names; between = Ok a; is = r.comes; behind = s.names; follows = subst P r.same s.comes; all = refl };
      asked = s.asked ∙ ap (asked_more s.names) r.asked ∙ asked_twice r.names s.names old.asked;
      same = s.same ∙ r.same;
      counted = counted_before came mid.held old.held mid.faults old.faults new.faults r.same r.counted s.counted;
    }

-- what is known comes of no read
pub gives_purely : {V A : Type 0} (view : V → A) (known : Result A Reason) (result : Result V Stop) (here : FilesView) → Gives view known result
    → ReadsBy (λ files. exactly known) (came_of view result) here here
gives_purely view known (Ok v) here is = record { names = []; comes = (refl, given (sym is)); asked = asked_nothing here.asked; same = refl; counted = refl }
gives_purely view known (Err Absent) here is = absurd is
gives_purely view known (Err Fault) here is = absurd is
gives_purely view known (Err (Bad line)) here is = record { names = []; comes = (refl, given (sym is)); asked = asked_nothing here.asked; same = refl; counted = refl }
gives_purely view known (Err Memory) here is = record { names = []; comes = (refl, spent refl); asked = asked_nothing here.asked; same = refl; counted = refl }

-- what came of a step that asks for nothing
pub comes_purely : {V A : Type 0} (step : CommandStep A) (view : V → A) (result : Result V Stop) (here : FilesView) → step [] (came_of view result) → IsQuiet result → ReadsBy (λ files. step) (came_of view result) here here
comes_purely step view (Ok v) here is quiet = record { names = []; comes = is; asked = asked_nothing here.asked; same = refl; counted = refl }
comes_purely step view (Err Absent) here is quiet = absurd quiet
comes_purely step view (Err Fault) here is quiet = absurd quiet
comes_purely step view (Err (Bad line)) here is quiet = record { names = []; comes = is; asked = asked_nothing here.asked; same = refl; counted = refl }
comes_purely step view (Err Memory) here is quiet = record { names = []; comes = is; asked = asked_nothing here.asked; same = refl; counted = refl }

-- the first step gave a value, and what follows is known from it
pub then_known : {V A B : Type 0} (first : Option Contents → CommandStep A) (known : A → Result B Reason) (a : A) (view : V → B) (result : Result V Stop) (old new : FilesView)
    → ReadsBy first (Ok a) old new → Gives view (known a) result → ReadsBy (λ files. Then (first files) (λ v. exactly (known v))) (came_of view result) old new
then_known first known a view result old new r is =
    goes_on first (λ v files. exactly (known v)) a (came_of view result) old new new r (gives_purely view (known a) result new is)
