-- What the top call promises.
use Rattle.std.specs.Prelude.{◌≡◌, ℕ, List, drop, Option, Some, None, Ok, Err, Any}
use Rattle.att_base.specs.Streams.{TakesFront}
use Rattle.att_base.specs.Files.{Contents, FilesView, asked_more}
use Rattle.command_plans.specs.Steps.{bad}
use Rattle.attest_top.specs.declared.status.Status.{Status}
use Rattle.attest_top.specs.declared.status.Status.TheVariants.{OutsideFault}
use Rattle.attest_top.specs.Lines.{Form, script, asm, show, challenge, verify, image, sched, run, check, gen}
use Rattle.attest_top.specs.Moments.{StreamView, Moment, NoCountFell, NoCountRose}
use Rattle.attest_top.specs.Plans.{Plan, planned, IsPlanFor}
use Rattle.attest_top.specs.Outcomes.{ComesTo}
use Rattle.attest_top.specs.Causes.{HasCause, IsComplete}
use Rattle.attest_top.specs.Headline.{Headline}

-- more than the most bytes of an input are not taken: 4 MiB, and one that shows that there are more
abbrev pub TakesInput : Option (List ℕ) → Option (List ℕ) → Type 0
TakesInput old new = (text : List ℕ) → old ≡ Some text → new ≡ Some (drop 4194305 text)

-- Standard input is read by `script` alone: to its end, unless it is too long, a read fails or there is no memory.
abbrev pub ReadsInput : Option Form → Plan → StreamView → StreamView → Type 0
ReadsInput (Some script) (planned (Ok w)) old new = TakesInput old.bytes new.bytes
ReadsInput (Some script) (planned (Err (bad line))) old new = TakesInput old.bytes new.bytes
ReadsInput (Some script) plan old new = TakesFront old.bytes new.bytes
ReadsInput form plan old new = new ≡ old

-- a name of the plan's files
abbrev pub IsWrittenBy : Plan → List ℕ → Type 0
IsWrittenBy (planned (Ok w)) name = Any (λ file. file.name ≡ name) w.files
IsWrittenBy plan name = ⊥

-- where files tell what they hold, they still do, and each name that the plan doesn't write holds what it held
abbrev pub KeepsOthers : Plan → Option Contents → Option Contents → Type 0
KeepsOthers plan old new = (known : Contents) → old ≡ Some known → (now : Contents) × (new ≡ Some now) × ((name : List ℕ) → (IsWrittenBy plan name → ⊥) → now name ≡ known name)

-- words that name no file leave files alone, and commands that only read leave what they hold
abbrev pub LeavesFiles : Option Form → FilesView → FilesView → Type 0
LeavesFiles None before after = after ≡ before
LeavesFiles (Some script) before after = after ≡ before
LeavesFiles (Some (asm text elf)) before after = Unit {0}
LeavesFiles (Some (show elf)) before after = after.held ≡ before.held
LeavesFiles (Some (challenge key asked out)) before after = Unit {0}
LeavesFiles (Some (verify verifier report noted)) before after = after.held ≡ before.held
LeavesFiles (Some (image device out)) before after = Unit {0}
LeavesFiles (Some (sched device schedule)) before after = Unit {0}
LeavesFiles (Some (run device)) before after = Unit {0}
LeavesFiles (Some (check trace key names)) before after = after.held ≡ before.held
LeavesFiles (Some (gen seed)) before after = after ≡ before

-- The plan is one that the words may have over what is held, and exactly its names were asked for, in its order. It has
-- come to this status, and to what is shown after the call. A fault of the outside is told only for its cause, and
-- where none is told no count of faults has risen.
pub record Promise (form : Option Form) (before after : Moment) (status : Status) : Type 0 where
  pub plan : Plan
  pub names : List (List ℕ)
  pub is : IsPlanFor form before names plan
  pub asked : after.files.asked ≡ asked_more names before.files.asked
  pub comes : ComesTo plan status before after
  pub cause : status ≡ OutsideFault → HasCause form plan before after
  pub unfailed : (status ≡ OutsideFault → ⊥) → NoCountRose before after
  pub complete : IsComplete form status before after
  pub headline : Headline form status before after
  pub input : ReadsInput form plan before.input after.input
  pub others : KeepsOthers plan before.files.held after.files.held
  pub files : LeavesFiles form before.files after.files
  pub later : NoCountFell before after
