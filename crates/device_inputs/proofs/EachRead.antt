-- A list of reads, as far as it has come: what comes of those that are left comes of all, behind what was read before.
use Rattle.std.proofs.Common.{◌≡◌, ℕ, List, [], ◌∷◌, ◌++◌, Option, Result, Ok, Err, refl, sym, ap, subst, append_assoc}
use Rattle.std.proofs.lemmas.List.{append-nil}
use Rattle.att_base.specs.Files.{Contents, FilesView}
use Rattle.command_plans.specs.Steps.{Reason, no_memory, CommandStep, spent, exactly, Follows, Then}
use Rattle.command_plans.specs.Reading.{input_limit, spent, ReadFile}
use Rattle.std.specs.Result.{IsErrAnd}
use Rattle.command_plans.specs.declared.output.Stop.{Stop}
use Rattle.command_plans.specs.Answered.{reason_of, came_of, ReadsBy}
use Rattle.command_plans.proofs.Binds.{stopped, goes_on, gives_purely, then_known}
use Rattle.elf32.specs.Files.{elf_of}
use Rattle.device_inputs.specs.Lists.{ReadEach}
use Rattle.device_inputs.specs.Inputs.{if_sound, AppFileIn, ChallengeFileIn}

-- these, and then what came
abbrev pub behind : {B : Type 0} → List B → Result (List B) Reason → Result (List B) Reason
behind done (Ok more) = Ok (done ++ more)
behind done (Err reason) = Err reason

-- what comes of the reads that are left, behind what was read, comes of all
pub record SoFar {A B : Type 0} (step : A → Option Contents → CommandStep B) (done : List B) (rest all : List A) (old mid : FilesView) : Type 0 where
  pub on : (came : Result (List B) Reason) (new : FilesView) → ReadsBy (ReadEach step rest) came mid new → ReadsBy (ReadEach step all) (behind done came) old new

behind_nothing : {B : Type 0} (came : Result (List B) Reason) → came ≡ behind [] came
behind_nothing (Ok more) = refl
behind_nothing (Err reason) = refl

behind_twice : {B : Type 0} (done : List B) (b : B) (came : Result (List B) Reason) → behind done (behind (b ∷ []) came) ≡ behind (done ++ b ∷ []) came
behind_twice {B} done b (Ok more) = ap (λ (l : List B). Ok l) (sym (append_assoc done (b ∷ []) more))
behind_twice done b (Err reason) = refl

pub none_read : {A B : Type 0} (step : A → Option Contents → CommandStep B) (all : List A) (old : FilesView) → SoFar step [] all all old old
none_read {A} {B} step all old = record {
  on = λ came new reads. subst (λ (c : Result (List B) Reason). ReadsBy (ReadEach step all) c old new) (behind_nothing came) reads;
}

-- what comes of the others, behind one
then_others : {A B : Type 0} (step : A → Option Contents → CommandStep B) (b : B) (more : List A) (came : Result (List B) Reason) (next new : FilesView) → ReadsBy (ReadEach step more) came next new
    → ReadsBy (λ files. Then (ReadEach step more files) (λ rest. exactly (Ok (b ∷ rest)))) (behind (b ∷ []) came) next new
then_others {A} {B} step b more (Ok rest) next new reads = then_known {V = List B} (ReadEach step more) (λ (r : List B). Ok (b ∷ r)) rest (λ l. l) (Ok (b ∷ rest)) next new reads refl
then_others {A} {B} step b more (Err reason) next new reads = stopped (ReadEach step more) (λ (r : List B) files. exactly (Ok (b ∷ r))) reason next new reads

-- what follows one read
abbrev others : {A B : Type 0} → (A → Option Contents → CommandStep B) → List A → B → Option Contents → CommandStep (List B)
others step more b files = Then (ReadEach step more files) (λ rest. exactly (Ok (b ∷ rest)))

-- one read more
pub one_read : {A B : Type 0} (step : A → Option Contents → CommandStep B) (done : List B) (rest more all : List A) (a : A) (b : B) (old mid next : FilesView) → SoFar step done rest all old mid
    → rest ≡ a ∷ more → ReadsBy (step a) (Ok b) mid next → SoFar step (done ++ b ∷ []) more all old next
one_read {A} {B} step done rest more all a b old mid next so_far split one = record {
  on = λ came new reads.
      let here : ReadsBy (ReadEach step (a ∷ more)) (behind (b ∷ []) came) mid new = goes_on (step a) (others step more) b (behind (b ∷ []) came) mid next new one (then_others step b more came next new reads) in
      let whole : ReadsBy (ReadEach step all) (behind done (behind (b ∷ []) came)) old new = so_far.on (behind (b ∷ []) came) new (rw split here) in
      subst (λ (c : Result (List B) Reason). ReadsBy (ReadEach step all) c old new) (behind_twice done b came) whole;
}

-- a read that stops them: nothing behind it is read
pub read_stops : {A B : Type 0} (step : A → Option Contents → CommandStep B) (done : List B) (rest more all : List A) (a : A) (reason : Reason) (old mid new : FilesView) → SoFar step done rest all old mid
    → rest ≡ a ∷ more → ReadsBy {A = B} (step a) (Err reason) mid new → ReadsBy {A = List B} (ReadEach step all) (Err reason) old new
read_stops step done rest more all a reason old mid new so_far split one =
    let here : ReadsBy (ReadEach step (a ∷ more)) (Err reason) mid new = stopped (step a) (others step more) reason mid new one in
    so_far.on (Err reason) new (rw split here)

-- all are read
pub each_read : {A B : Type 0} (step : A → Option Contents → CommandStep B) (done : List B) (rest all : List A) (old mid : FilesView) → SoFar step done rest all old mid → rest ≡ [] → ReadsBy (ReadEach step all) (Ok done) old mid
each_read {A} {B} step done rest all old mid so_far none =
    let here : ReadsBy (ReadEach step []) (Ok []) mid mid = gives_purely {V = List B} (λ l. l) (Ok []) (Ok []) mid refl in
    let whole : ReadsBy (ReadEach step all) (Ok (done ++ [])) old mid = so_far.on (Ok []) mid (rw none here) in
    subst (λ (l : List B). ReadsBy (ReadEach step all) (Ok l) old mid) (append-nil done) whole

-- what stopped it is what is answered
pub tells_stop : {V A : Type 0} (step : Option Contents → CommandStep A) (view : V → A) (result : Result V Stop) (stop : Stop) (old new : FilesView) → IsErrAnd result (λ e. e ≡ stop)
    → ReadsBy step (Err (reason_of stop)) old new → ReadsBy step (came_of view result) old new
tells_stop step view (Ok v) stop old new is r = absurd is
tells_stop step view (Err e) stop old new is r = rw is r

-- ---- want of memory

-- memory may be gone once it has read
pub record MaySpend {A B : Type 0} (step : A → Option Contents → CommandStep B) : Type 0 where
  pub spends : (a : A) (files : Option Contents) (asked : List (List ℕ)) (b : B) → step a files asked (Ok b) → step a files asked (Err no_memory)

-- there was no room to keep what was read
pub not_kept : {A B : Type 0} (step : A → Option Contents → CommandStep B) → MaySpend step → (a : A) (b : B) (old new : FilesView) → ReadsBy (step a) (Ok b) old new → ReadsBy {A = B} (step a) (Err no_memory) old new
not_kept step may a b old new r = record { names = r.names; comes = may.spends a old.held r.names b r.comes; asked = r.asked; same = r.same; counted = r.counted }

spent_behind : {A B : Type 0} (known : A → Result B Reason) (between : Result A Reason) (asked : List (List ℕ)) (b : B) → Follows between (λ a. exactly (known a)) asked (Ok b)
    → Follows between (λ a. exactly (known a)) asked (Err no_memory)
spent_behind known (Ok a) asked b follows = (follows.0, spent refl)
spent_behind known (Err reason) asked b follows = let e = follows.1 in absurd cc

-- a read, and then what is known from it
spent_known : {A B : Type 0} (first : CommandStep A) (known : A → Result B Reason) (asked : List (List ℕ)) (b : B) → Then first (λ a. exactly (known a)) asked (Ok b)
    → Then first (λ a. exactly (known a)) asked (Err no_memory)
spent_known first known asked b t = record {
  before = t.before;
  between = t.between;
  is = t.is;
  behind = t.behind;
  follows = spent_behind known t.between t.behind b t.follows;
  all = t.all;
}

pub app_may_spend : MaySpend AppFileIn
unfolding AppFileIn
app_may_spend = record { spends = λ app files asked bytes is. spent_known (ReadFile input_limit app.file files) (λ (b : List ℕ). if_sound app.file b (elf_of b)) asked bytes is }

pub challenge_may_spend : MaySpend ChallengeFileIn
unfolding ChallengeFileIn
challenge_may_spend = record { spends = λ challenge files asked bytes is. (is.0, spent refl) }
